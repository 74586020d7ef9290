-- The definitions of this crate, file by file. Assumes nothing.
pub mod Index
pub mod Slots
pub mod Numbers
pub mod Tagging
