-- `judge_trial` reads the head, then the directory that it names. Assumes nothing.
use Rattle.std.proofs.lemmas.Result.{err_from_is_err_and}
use Rattle.layout.proofs.Opening.{head-good}
use Rattle.layout.proofs.Stages.{laid-at}
use Rattle.trial.proofs.Trying.{headed-bad, opened-bad}
use Rattle.trial.proofs.judge_trial.Goals as goal

pub returns-in_err-head : goal.returns-in_err-head
returns-in_err-head c =
    let p = err_from_is_err_and c.from_residual.result c.from_residual.ensures.1 in
    rw (p.1, p.2) (headed-bad _ c.in_err-head.ensures)

pub open-requires : goal.open-requires
open-requires c = (head-good _ _ c.in_ok-head.ensures).size

pub returns-in_err-d : goal.returns-in_err-d
returns-in_err-d c =
    let p = err_from_is_err_and c.from_residual-in_err-d.result c.from_residual-in_err-d.ensures.1 in
    rw (p.1, p.2) (opened-bad _ c.in_ok-head.ensures c.in_err-d.ensures)

pub trial_laid-requires : goal.trial_laid-requires
trial_laid-requires c = laid-at c.in_ok-head.ensures c.in_ok-d.ensures
