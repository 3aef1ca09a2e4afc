mod Common
pub mod Results
pub mod Places
pub mod ItemChanges
mod Weaving
pub mod Moving
mod RunPlaces
mod RunChanges
mod Bounds
mod Above
mod Below
