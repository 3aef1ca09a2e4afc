mod Common
pub mod Walks
pub mod Resolving
pub mod Ascending
pub mod Keeping
pub mod Fields
mod Worked
mod WorkedDefaults
mod KindDefaults
pub mod Behind
pub mod Sorting
pub mod Grouping
pub mod Gathering
pub mod Orders
mod Cutting
pub mod TextsAt
pub mod CatalogParts
mod WorkedLinking
pub mod Linkwell
mod WorkedChecks
pub mod LinksWell
pub mod CatalogLinks
pub mod DeclaredFields
pub mod SameRows
mod SameFlat
pub mod FlatRanges
pub mod CatalogRanges
mod SameLinked
mod SameChecks
mod SameOptions
pub mod EqualFiles
mod WorkedFiles
pub mod Spans
pub mod Adding
pub mod Refusing
pub mod Built
pub mod Pushing
