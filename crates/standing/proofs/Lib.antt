pub mod Filled
pub mod Stands
pub mod Standings
