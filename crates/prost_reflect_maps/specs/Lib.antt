pub mod Items
pub mod Runs
pub mod Held
pub mod ItemLists
pub mod ItemsLeft
pub mod NumberSets
pub mod formers
