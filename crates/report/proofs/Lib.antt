pub mod Counting
pub mod Printing
pub mod Alike
pub mod Bounds
pub mod Whole
pub mod OneLog
