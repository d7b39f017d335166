pub mod Ascent
pub mod Reading
pub mod Writing
pub mod Digits
