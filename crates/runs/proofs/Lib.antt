pub mod Deciding
pub mod Failing
pub mod Signing
pub mod Computing
pub mod Agreeing
pub mod Parting
pub mod Refusing
pub mod Unsigning
