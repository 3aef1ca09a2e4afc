pub mod Relaying
pub mod Edits
pub mod LawInstances
