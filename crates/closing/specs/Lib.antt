pub mod Close
pub mod Gather
