mod Common
mod FileNames
mod Merged
