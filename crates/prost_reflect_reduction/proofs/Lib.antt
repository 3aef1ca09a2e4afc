mod Common
pub mod Enums
pub mod Chains
pub mod Merging
pub mod Explaining
pub mod Noting
pub mod Reaching
pub mod Walking
pub mod Sources
