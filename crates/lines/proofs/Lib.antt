-- The laws of this crate, file by file: what callers lean on is in Laid, Slots, Ruled and Gathered. Assumes nothing.
pub mod Walk
pub mod Later
pub mod Laid
pub mod Slots
pub mod Ruled
pub mod Gathered
