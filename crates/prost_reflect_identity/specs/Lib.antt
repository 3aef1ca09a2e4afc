pub mod Values
pub mod Ownership
