pub mod Merging
pub mod Kinds
pub mod Reaching
pub mod Walking
pub mod Faults
pub mod Explaining
