-- The laws that the proofs of this crate share. Assumes nothing.
pub mod Staged
pub mod Pictured
