pub mod boxed
pub mod items
pub mod runs
pub mod sorted_map
