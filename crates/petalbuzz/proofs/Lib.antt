-- Every call's answer is determined. Assumes nothing.
pub mod Determined
