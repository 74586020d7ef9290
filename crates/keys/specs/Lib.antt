-- The definitions that the contracts of this crate cite. Assumes nothing.
pub mod Table
pub mod Pass
pub mod Rows
