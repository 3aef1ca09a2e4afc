mod Common
mod PathWalks
pub mod RecordPaths
mod NamedRecords
mod NoFiles
pub mod OneFile
pub mod PoolLinks
pub mod FileNames
mod Searching
mod InOrder
pub mod InCatalog
mod ValuePlaces
pub mod ExtensionPlaces
pub mod UniqueNames
mod ExtensionLookups
pub mod OwnEncoding
pub mod EqualDescriptors
pub mod EqualTypes
pub mod PoolRanges
