-- `judged` tells what was found, or the verdict alone. Assumes nothing.
use Rattle.judge.specs.Examining.{judged_by}
use Rattle.judge.proofs.judged.Goals as goal

pub returns-in-Ok : goal.returns-in-Ok
unfolding judged_by
returns-in-Ok c = rw c.in-Ok.is

pub returns-in-Err : goal.returns-in-Err
unfolding judged_by
returns-in-Err c = rw c.in-Err.is
