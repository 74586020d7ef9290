-- Files and numbers by which the definitions are tried, file by file, computed. Assumes nothing.

-- whole files: what the calls answer for each, and what may be read of it
pub mod Placed
pub mod FileC
pub mod Faults
pub mod Tiled
pub mod Repeated
pub mod Revised
pub mod Masked
-- both sides of every number
pub mod TagBoundaries
pub mod KeyBoundaries
