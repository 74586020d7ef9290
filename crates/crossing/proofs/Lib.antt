-- The laws that the proofs of this crate share. Assumes nothing.
pub mod Apart
pub mod Both
