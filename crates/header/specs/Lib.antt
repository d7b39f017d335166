pub mod Keys
pub mod Header
