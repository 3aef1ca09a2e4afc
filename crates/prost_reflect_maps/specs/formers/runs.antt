pub mod RunMap
