-- `doubles` has made numbers of the bits that it has passed. Assumes nothing.
use Rattle.std.proofs.Common.{◌≡◌, ℕ, ◌<◌, get_or, length}
use Rattle.std.specs.Float.{binary64}
use Rattle.std.specs.Float.Ieee.{of_bits}
use Rattle.paper.specs.Ground.{zero64}
use Rattle.ground.proofs.doubles.Given as goal

abbrev pub invariant-loop-i : goal.invariant-loop-i
invariant-loop-i g l = (length l.x-items ≡ g.row.N) × ((k : ℕ) → k < l.i → get_or l.x-items k zero64 ≡ of_bits binary64 (get_or l.bits k 0))
