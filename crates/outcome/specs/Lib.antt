pub mod Logs
pub mod Marks
pub mod Spoken
pub mod Signing
pub mod Held
pub mod Outcome
