mod Common
mod Lists
pub mod FirstPlaces
pub mod GatheredFrom
pub mod Pushed
pub mod Flats
pub mod Places
pub mod Ordering
pub mod Moving
pub mod Stays
pub mod RowsGrow
pub mod Untouched
mod Again
pub mod ChecksGrow
pub mod TablesGrow
pub mod NumbersKnown
mod Already
pub mod Merging
mod Passing
pub mod Ranges
pub mod ExtensionsGrow
pub mod CatalogGrow
pub mod GrownCatalog
