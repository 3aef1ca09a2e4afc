mod Common
pub mod Described
pub mod RowKinds
pub mod PlainKinds
pub mod MapRows
pub mod MapForms
pub mod FieldTargets
pub mod RepeatedRows
pub mod PathPlaces
mod DeclaredNumbers
pub mod ChangedNumbers
mod Valid
