pub mod Inboxes
