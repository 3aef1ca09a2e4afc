pub mod Positions
pub mod Searching
