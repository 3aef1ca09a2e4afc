pub mod LoneExtensions
pub mod PlainValues
pub mod Passing
pub mod Edits
pub mod LawInstances
