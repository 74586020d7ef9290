-- `meets`: no part before has a byte from low up to high. Assumes nothing.
use Rattle.std.proofs.Common.{◌≡◌, ℕ, ◌<◌, false, length, get_or}
use Rattle.paper.specs.Pieces.{part}
use Rattle.pieces.specs.Gaps.{named_at}
use Rattle.pieces.proofs.Listed.{met}
use Rattle.pieces.proofs.listing.Listing.meets.Given as goal

abbrev pub invariant-loop-part : goal.invariant-loop-part
invariant-loop-part l = (k : ℕ) → k < l.part-index → met l.low l.high (get_or l.self.parts.now k (part 0 0)) ≡ false

abbrev pub invariant-loop-j : goal.invariant-loop-j
invariant-loop-j l =
    ((k : ℕ) → k < length l.self.parts.now → met l.low l.high (get_or l.self.parts.now k (part 0 0)) ≡ false)
    × ((k : ℕ) → k < l.j → met l.low l.high (named_at l.self.big l.self.further.now k) ≡ false)
