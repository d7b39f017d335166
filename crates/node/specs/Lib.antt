pub mod Batches
pub mod State
pub mod Opening
