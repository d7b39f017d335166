pub mod Clauses
pub mod Lists
pub mod Numbered
pub mod Sound
pub mod Openings
pub mod StaySound
pub mod Determined
pub mod Fresh
