-- The laws that the proofs of this crate share. Assumes nothing.
-- what a block that is written and read back gives
pub mod WrittenRead
-- the laws of a writer that lays bytes one behind the other, of each loop that writes or measures, of the whole block and of a file's
pub mod Writing
pub mod Turns
pub mod Measuring
pub mod Laid
pub mod Whole
pub mod Accepted
