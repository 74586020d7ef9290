-- `measure` is rule 24 and the three sums: what is found from entry i on is what is found in all. Assumes nothing.
use mathlib.Core.Path.{◌≡◌}
use Rattle.block.specs.Splice.{entries_of}
use Rattle.block.specs.Sizes.{Low, nothing, measured}
use Rattle.block.proofs.Measuring.{found_from}
use Rattle.block.proofs.measure.Given as goal

abbrev pub invariant-loop-i : goal.invariant-loop-i
invariant-loop-i l =
    Low l.i l.before
    × (found_from l.entries.directory.now l.entries.big l.entries.count l.before l.i
    ≡ measured (nothing l.entries.count) (entries_of l.entries.big l.entries.directory.now l.entries.count))
