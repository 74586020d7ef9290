-- `search` passes by the places that lie in the gap, and widens the span by them where one is asked for. Assumes nothing.
use Rattle.std.proofs.Common.{Bool, not, nat_eq, ℕ}
use Rattle.pieces.specs.Reading.{Room, told}
use Rattle.pieces.proofs.Passing.{Passed}
use Rattle.pieces.proofs.places.Places.search.Given as goal

-- what a constant says
abbrev pub said : ℕ → Bool
said constant = not (nat_eq constant 0)

abbrev pub invariant-loop-i : goal.invariant-loop-i
invariant-loop-i g l =
    (room : Room l.self (said g.row.WIDEOFFSETS) (said g.row.WIDEBYTECOUNTS))
    → Passed (told l.self (said g.row.BIG) (said g.row.WIDEOFFSETS) (said g.row.WIDEBYTECOUNTS) room) (said g.row.SPANNED) l.from l.gap l.initial.span l.i l.span
