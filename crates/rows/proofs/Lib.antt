-- The laws of this crate: what a row of an accepted file asks, what the call answers, and lists and arrays that are lent. Assumes nothing.
pub mod Asked
pub mod Counting
pub mod Filled
