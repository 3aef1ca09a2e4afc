mod Common
mod NamePlaces
mod EnumNumbers
pub mod LookedUp
