-- The definitions of this crate, file by file. Assumes nothing.
pub mod Rows
pub mod Lined
pub mod Ready
