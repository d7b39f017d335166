pub mod Sizes
pub mod Record
pub mod Reader
pub mod Writer
pub mod Message
pub mod Inbox
