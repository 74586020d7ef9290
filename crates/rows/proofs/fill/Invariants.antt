-- `fill` has written the first i rows, and the others stand as they did. Assumes nothing.
use Rattle.std.proofs.Common.{◌≡◌}
use Rattle.rows.specs.Planning.{written}
use Rattle.rows.proofs.fill.Given as goal

abbrev pub invariant-loop-i : goal.invariant-loop-i
invariant-loop-i l = l.row-items ≡ written l.file l.i l.initial.row-items
