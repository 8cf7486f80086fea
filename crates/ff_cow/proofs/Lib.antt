mod Packed
mod Places
mod Edits
mod Roots
mod Shared
