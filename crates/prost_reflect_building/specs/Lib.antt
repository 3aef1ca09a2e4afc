pub mod Builtin
pub mod BuiltinRows
pub mod BuiltinFiles
