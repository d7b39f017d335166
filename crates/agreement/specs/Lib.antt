pub mod Hall
pub mod Granted
pub mod Claim
pub mod Rule
pub mod Carried
pub mod Calls
pub mod AllCorrect
