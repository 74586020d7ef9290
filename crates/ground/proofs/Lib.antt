-- The laws that the proofs of this crate share. Assumes nothing.
pub mod Finite
pub mod Runs
