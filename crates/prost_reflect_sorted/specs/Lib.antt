pub mod Tops
pub mod Sorts
