pub mod GatheredLists
pub mod ExtendedRows
