-- `read` has read the doubles that it has passed. Assumes nothing.
use Rattle.std.proofs.Common.{◌≡◌, ℕ, ◌<◌, ◌*◌, get_or, length}
use Rattle.paper.specs.Bytes.{num}
use Rattle.ground.proofs.read.Given as goal

abbrev pub invariant-loop-i : goal.invariant-loop-i
invariant-loop-i g l = (length l.b-items ≡ g.row.N) × ((k : ℕ) → k < l.i → get_or l.b-items k 0 ≡ num l.big 8 l.run (8 * k))
