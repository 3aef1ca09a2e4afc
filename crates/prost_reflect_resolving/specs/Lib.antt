pub mod Indexed
pub mod Resolved
