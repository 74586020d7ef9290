-- What follows from the definitions, file by file. Assumes nothing.

-- the page to read first
pub mod Demands
-- what it rests on
pub mod First
pub mod Keeps
pub mod Lent
pub mod Places
pub mod Held
pub mod Header
pub mod Values
pub mod RowValues
pub mod OnGround
pub mod PieceCount
pub mod Shown
pub mod Called
pub mod Unseen
pub mod Listed
pub mod Kept
pub mod Several
pub mod Once
pub mod Minor
pub mod Alone
pub mod Four
pub mod Citation
pub mod Metadata
pub mod Texts
pub mod Picture
pub mod Codec
pub mod RoundTrip
pub mod Trip
pub mod Laid
pub mod Settled
-- examples and tables, computed
pub mod Computed
pub mod Spelled
pub mod Files
pub mod Marked
pub mod Boundaries
pub mod Tables
-- laws that the proofs of code cite
pub mod Laws
pub mod Loops
pub mod Store
pub mod Bounds
pub mod Doubles
