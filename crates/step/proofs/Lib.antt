pub mod PassedVotes
pub mod Steps
pub mod Determined
pub mod StaySound
pub mod Courses
pub mod ReadsBack
