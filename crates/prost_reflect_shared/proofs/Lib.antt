mod Parts
mod Places
