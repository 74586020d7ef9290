-- The laws that the proofs of this crate share. Assumes nothing.
pub mod Listed
pub mod Naming
pub mod Placing
pub mod Imaging
pub mod Seen
