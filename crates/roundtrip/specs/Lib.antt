pub mod Records
pub mod Messages
pub mod Inboxes
pub mod Masks
pub mod Claim
