pub mod Premises
pub mod Agreed
pub mod Signing
pub mod Tellings
pub mod Determined
