pub mod Answered
pub mod Made
pub mod Numbering
pub mod Speaking
pub mod Alike
pub mod OneLog
pub mod Coming
