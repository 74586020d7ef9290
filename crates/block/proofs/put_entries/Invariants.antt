-- `put_entries` lays the entries with their new indexes: from the loop's place on those from i on are to be laid; and what stands before them at most. Assumes nothing.
use Rattle.std.proofs.Common.{◌≡◌, ◌+◌, ◌*◌}
use Rattle.block.specs.Splice.{splice, entry_bytes}
use Rattle.block.specs.Sizes.{Low}
use Rattle.block.proofs.Turns.{entries_from}
use Rattle.block.proofs.put_entries.Given as goal

abbrev pub invariant-loop-i : goal.invariant-loop-i
invariant-loop-i l =
    Low l.i l.before
    × (splice l.out (l.at + 8 * l.i) (entries_from l.entries.directory.now l.entries.big l.entries.count l.before l.i)
    ≡ splice l.initial.out l.at (entry_bytes l.entries.big l.entries.directory.now l.entries.count))
