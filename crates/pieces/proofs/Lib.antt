-- The laws that the proofs of this crate share. Assumes nothing.
pub mod Gaps
pub mod Listed
pub mod Spans
pub mod Passing
pub mod Eight
pub mod Each
