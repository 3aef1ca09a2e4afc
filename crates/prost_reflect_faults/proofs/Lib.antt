pub mod Bounds
pub mod Standing
pub mod Taking
pub mod Rows
pub mod Packed
pub mod Passing
