mod Common
pub mod RecordSlots
pub mod SameFields
pub mod SameRecords
pub mod MessageViews
pub mod EqualContents
pub mod DecodedRecords
