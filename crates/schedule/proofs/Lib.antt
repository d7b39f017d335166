pub mod Fits
pub mod Order
pub mod Turns
