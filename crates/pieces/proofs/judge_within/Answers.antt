-- `judge_within` tests the first place and searches the later ones for one that does not lie in the file, behind its head. Assumes nothing.
use Rattle.pieces.proofs.Passing.{within-none, within-first, within-later, within-all}
use Rattle.pieces.proofs.judge_within.Goals as goal

pub returns-in_default : goal.returns-in_default
returns-in_default c = within-none _ _ _ c.first-first.ensures c.in_default.is

pub returns-then-is_bad : goal.returns-then-is_bad
returns-then-is_bad c = rw c.thirteen.ensures (within-first _ _ _ c.first-first.ensures _ c.in-Some.is _ c.is_bad.ensures c.if-is_bad.true)

pub returns-in-Some-stop : goal.returns-in-Some-stop
returns-in-Some-stop c =
    rw c.thirteen-in-Some-stop.ensures
    (within-later _ _ _ c.first-first.ensures _ c.in-Some.is _ c.is_bad.ensures c.if-is_bad.false _ (rw c.of_file-file.ensures at c.skip-reach.ensures) _ c.in-Some-stop.is)

pub returns-in-None : goal.returns-in-None
returns-in-None c = within-all _ _ _ c.first-first.ensures _ c.in-Some.is _ c.is_bad.ensures c.if-is_bad.false _ (rw c.of_file-file.ensures at c.skip-reach.ensures) c.in-None.is
