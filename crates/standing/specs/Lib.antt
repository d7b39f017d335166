pub mod Standing
pub mod Run
