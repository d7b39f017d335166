pub mod Places
pub mod Numbers
pub mod Lists
pub mod Lines
pub mod Hex
pub mod Put
