-- `broken_line` goes through the lines, each with its entry; its turns are laws of `Walk`. Assumes nothing.
use mathlib.Core.Bool.{Bool}
use lib.ListN.{length}
use Rattle.paper.specs.declared.Entry.{Entry}
use Rattle.lines.specs.declared.Line.{Line as Row}
use Rattle.lines.specs.Rows.{Answers}
use Rattle.lines.proofs.Walk.{Passed}
use Rattle.lines.proofs.Tabled.broken_line.Given as goal

abbrev pub invariant-loop-line : goal.invariant-loop-line
invariant-loop-line g l =
    (test : Row → Entry → Bool) → Answers (goal.F-post g l.breaks) test → Passed test l.self.lines.now l.self.found.now (length l.yielded)
