mod Common
pub mod Repeats
