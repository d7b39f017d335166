pub mod Mapped
pub mod Starts
pub mod Takes
pub mod Messages
pub mod Inboxes
