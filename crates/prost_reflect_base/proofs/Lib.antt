mod Lists
mod Scopes
mod NamesInside
pub mod Linked
mod Numbers
mod FullNames
mod NamedPlaces
