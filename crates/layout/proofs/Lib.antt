-- The laws of this crate, file by file: what callers lean on is in Opening, Finding, Columns and Values. Assumes nothing.
pub mod Sizes
pub mod Opening
pub mod Finding
pub mod Columns
pub mod Turns
pub mod Values
pub mod Stages
pub mod Repeats
pub mod Ordering
pub mod Plain
