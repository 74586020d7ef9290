-- The laws that the proofs of this crate share. Assumes nothing.
pub mod Known
pub mod Numbers
pub mod Head
pub mod Placed
pub mod Turn
pub mod Rows
