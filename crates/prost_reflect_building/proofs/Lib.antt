mod Common
mod BuiltinFacts
mod BuiltinFields
mod BuiltinLinks
mod BuiltinMessages
mod BuiltinChecked
mod Behind
