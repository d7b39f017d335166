pub mod Computing
pub mod Forms
pub mod Contents
pub mod Printed
