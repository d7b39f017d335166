pub mod Keeps
pub mod Taken
