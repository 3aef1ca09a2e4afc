-- That files which pass the checks link well.
pub mod Items
pub mod Numbers
pub mod Premises
pub mod Kinds
pub mod Shapes
pub mod WrittenValues
pub mod Defaults
pub mod Fields
pub mod Messages
pub mod Entries
pub mod Schemas
