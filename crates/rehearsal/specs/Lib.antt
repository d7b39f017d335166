pub mod Rehearsal
pub mod Telling
pub mod Claim
