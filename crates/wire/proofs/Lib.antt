pub mod Readings
pub mod Writings
pub mod Messages
pub mod Sayable
pub mod Cuts
pub mod Determined
