pub mod Keys
pub mod Sends
pub mod Forms
