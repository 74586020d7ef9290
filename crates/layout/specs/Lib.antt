-- The definitions of this crate, file by file. Assumes nothing.
pub mod Opening
pub mod Finding
pub mod Columns
pub mod Repeats
pub mod Parts
