pub mod Entries
pub mod Records
pub mod Sayable
pub mod Messages
pub mod Inboxes
pub mod Masks
pub mod Claim
