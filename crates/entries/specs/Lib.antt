pub mod Bytes
pub mod Fields
pub mod Put
pub mod Places
