-- `judge_entries` is rules 16 to 19: its turns are the laws of `Turn`. Assumes nothing.
use mathlib.Core.Bool.{not}
use lib.Dec.{eqb}
use Rattle.keys.proofs.Turn.{Passing}
use Rattle.keys.proofs.judge_entries.Given as goal

abbrev pub invariant-loop-i : goal.invariant-loop-i
invariant-loop-i g l =
    Passing (not (eqb g.row.BIG 0)) l.head.entries.directory.now l.doubles l.characters l.head.entries.count l.i l.sixteen l.seventeen l.next l.found
