pub mod Document
pub mod Forms
pub mod Contents
pub mod Claim
