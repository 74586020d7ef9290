-- `gather` finds the entry of each line's tag, one after the other; what is found of all is said by laws of `Gathered`. Assumes nothing.
use Prim.Native.Nat.{ℕ, ◌<◌}
use mathlib.Core.Path.{◌≡◌}
use lib.ListN.{get_or}
use Rattle.paper.specs.declared.Entry.{Entry}
use Rattle.layout.specs.Columns.{firsts}
use Rattle.layout.specs.Opening.{entries_of}
use Rattle.lines.specs.Lined.{row_tags}
use Rattle.lines.proofs.gather.Given as goal

abbrev pub invariant-loop-k : goal.invariant-loop-k
invariant-loop-k l =
    (i : ℕ) (e : Entry) → i < l.k → get_or l.found i e ≡ get_or (firsts (row_tags l.lines) (entries_of l.entries.directory l.entries.bytes.now)) i e
