pub mod SortedMap
