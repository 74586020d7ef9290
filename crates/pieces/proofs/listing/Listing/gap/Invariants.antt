-- `gap` narrows that of the whole file by the parts, and then by those that the entries name. Assumes nothing.
use Rattle.std.proofs.Common.{take}
use Rattle.paper.specs.Bytes.{build}
use Rattle.pieces.specs.Gaps.{named_at}
use Rattle.pieces.proofs.Listed.{Narrowed}
use Rattle.pieces.proofs.listing.Listing.gap.Given as goal

abbrev pub invariant-loop-p : goal.invariant-loop-p
invariant-loop-p l = Narrowed l.byte l.initial.g (take l.p-index l.p-items) l.g

abbrev pub invariant-loop-i : goal.invariant-loop-i
invariant-loop-i l = Narrowed l.byte l.initial.g (build (named_at l.self.big l.self.further.now) 0 l.i) l.g
