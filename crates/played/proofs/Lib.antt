pub mod Sends
pub mod Ruled
pub mod Breaches
