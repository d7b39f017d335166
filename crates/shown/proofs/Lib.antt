pub mod Votes
pub mod Tests
