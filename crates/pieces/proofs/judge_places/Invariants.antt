-- `judge_places` looks for the gap around a place, and goes on with the first place that leaves the gap: the places before it keep both rules. Assumes
-- nothing.
use Rattle.pieces.specs.Reading.{listed}
use Rattle.pieces.proofs.Passing.{Standing, ahead}
use Rattle.pieces.proofs.judge_places.Given as goal

abbrev pub invariant-loop-reach : goal.invariant-loop-reach
invariant-loop-reach l = Standing l.places l.n (listed l.list) l.spanned l.reach.stop l.reach.span

abbrev pub decreases-loop-reach : goal.decreases-loop-reach
decreases-loop-reach l = ahead l.places.many l.reach.stop
