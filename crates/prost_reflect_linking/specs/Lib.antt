pub mod Grown
pub mod Meanings
