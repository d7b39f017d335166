pub mod Bars
pub mod Determined
pub mod Answers
