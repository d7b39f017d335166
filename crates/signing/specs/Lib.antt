pub mod Slots
pub mod Count
