-- The definitions that the contracts of this crate cite. Assumes nothing.
pub mod Gaps
pub mod Reading
pub mod Spans
