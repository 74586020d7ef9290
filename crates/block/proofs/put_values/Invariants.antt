-- `put_values` lays the values at a location: from the cursor on those of the entries from i on are to be laid, and there is room for them. Assumes nothing.
use Rattle.std.proofs.Common.{◌≡◌, ◌+◌, ◌≤◌, length}
use Rattle.block.specs.Splice.{splice, value_bytes}
use Rattle.block.proofs.Turns.{values_from}
use Rattle.block.proofs.put_values.Given as goal

abbrev pub invariant-loop-i : goal.invariant-loop-i
invariant-loop-i g l =
    (l.o + length (values_from l.entries.directory.now l.source l.entries.big g.row.W l.location l.entries.count l.i) ≤ length l.out)
    × (splice l.out l.o (values_from l.entries.directory.now l.source l.entries.big g.row.W l.location l.entries.count l.i)
    ≡ splice l.initial.out l.at (value_bytes l.entries.big g.row.W l.location l.source l.entries.directory.now l.entries.count))
