mod Common
pub mod ExtendedRows
mod GrownLists
mod MovedExtensions
