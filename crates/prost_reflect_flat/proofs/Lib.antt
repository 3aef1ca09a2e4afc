mod Common
mod WholeNumbers
mod WholeBits
mod Escapes
mod Flattening
pub mod OptionBytes
pub mod EntryFlags
pub mod Oneofs
