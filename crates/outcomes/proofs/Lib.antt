-- The laws that crates share of a pass from the last element to the first, and of what a verdict answers. Assumes nothing.
pub mod Back
pub mod Ruled
