pub mod Step
pub mod Course
