pub mod Walk
pub mod Lines
pub mod Faults
pub mod Bytes
pub mod Told
pub mod Good
pub mod Found
