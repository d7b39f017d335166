pub mod Test
pub mod Halls
pub mod Tests
pub mod Claim
