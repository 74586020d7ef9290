-- The laws of this crate: the search for a key, and what the answers on a file's texts are. Assumes nothing.
pub mod Sought
pub mod Citing
pub mod Telling
