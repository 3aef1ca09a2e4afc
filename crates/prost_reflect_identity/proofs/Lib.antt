mod Flags
mod Numbers
mod Opened
mod Walks
