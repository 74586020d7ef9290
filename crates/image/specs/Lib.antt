-- The definitions of this crate, file by file. Assumes nothing.
pub mod Imaging
pub mod Stages
pub mod Naming
