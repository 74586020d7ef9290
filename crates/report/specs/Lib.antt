-- The definitions of this crate. Assumes nothing.
pub mod Printed
