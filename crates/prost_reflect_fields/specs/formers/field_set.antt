pub mod FieldSet
