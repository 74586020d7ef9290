-- `put_parts`: those of the entries before i are written. Assumes nothing.
use Rattle.std.proofs.Common.{◌≡◌, map, take}
use Rattle.layout.specs.Parts.{value_part}
use Rattle.crossing.proofs.put_parts.Given as goal

abbrev pub invariant-loop-i : goal.invariant-loop-i
invariant-loop-i l = take l.i l.parts ≡ map value_part (take l.i l.found)
