pub mod Merges
pub mod Gathering
pub mod NewLog
pub mod Answers
pub mod Determined
