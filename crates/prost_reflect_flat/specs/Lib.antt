pub mod FlatViews
