mod Common
pub mod PlaceRanges
pub mod Walks
