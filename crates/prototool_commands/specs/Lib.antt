pub mod Naming
pub mod Redacting
pub mod Refusals
