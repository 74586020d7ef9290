-- The laws that the proofs of this crate share; the crates above cite those of Seen. Assumes nothing.
pub mod Seen
pub mod Examining
