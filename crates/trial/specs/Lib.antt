-- The definitions of this crate. Assumes nothing.
pub mod Trial
