pub mod ItemList
