pub mod Slots
pub mod Determined
pub mod Answers
