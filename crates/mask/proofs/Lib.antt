-- The laws of this crate, file by file: what callers lean on is in Masked and in Numbered. Assumes nothing.
pub mod Numbered
pub mod Tested
pub mod Answers
pub mod Masked
