pub mod RelayRefusals
pub mod Paths
pub mod Changes
pub mod EditRefusals
