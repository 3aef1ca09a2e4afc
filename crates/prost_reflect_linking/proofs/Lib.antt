mod Common
mod Listed
mod Paired
