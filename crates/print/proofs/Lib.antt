pub mod Printing
pub mod Lengths
pub mod Back
