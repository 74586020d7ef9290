-- The laws of this crate, file by file: what callers lean on is in Slots and Accepted. Assumes nothing.
pub mod Values
pub mod Slots
pub mod Rules
pub mod Fetched
pub mod Kept
pub mod Families
pub mod Answers
pub mod Accepted
