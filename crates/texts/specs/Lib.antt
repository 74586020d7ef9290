-- The definitions of this crate, file by file. Assumes nothing.
pub mod Told
pub mod Finding
