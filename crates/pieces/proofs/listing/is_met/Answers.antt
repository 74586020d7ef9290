-- `is_met`: a part of more than 4 bytes has one from low up to high where it starts before high and ends behind low. Assumes nothing.
use Rattle.std.proofs.Common.{rules}
use Rattle.pieces.proofs.Listed.{met-is}
use Rattle.pieces.proofs.listing.is_met.Goals as goal

pub returns : goal.returns
returns c = search (rules, met-is)
