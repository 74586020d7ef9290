-- `clashes_all` asks the span of the places first. Then it looks for the gap around a place, and goes on with the first place that leaves the gap: those
-- before share no byte with the list. Assumes nothing.
use Rattle.pieces.specs.Reading.{listed}
use Rattle.pieces.proofs.Passing.{Apart, ahead}
use Rattle.pieces.proofs.clashes_all.Given as goal

abbrev pub invariant-loop-next : goal.invariant-loop-next
invariant-loop-next l = Apart l.places l.n (listed l.list) l.next

abbrev pub decreases-loop-next : goal.decreases-loop-next
decreases-loop-next l = ahead l.places.many l.next
