pub mod Holding
pub mod Computed
