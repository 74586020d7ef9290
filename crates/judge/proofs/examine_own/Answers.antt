-- `examine_own` asks for the image, then for the survey of the values that the image names. Assumes nothing.
use mathlib.Core.Path.{refl}
use Rattle.std.proofs.lemmas.Result.{err_from_is_err_and}
use Rattle.judge.proofs.Examining.{directory-named, doubles-named, characters-named, scale-named, tiepoint-named, matrix-named}
use Rattle.judge.proofs.Examining.{image-bad, runs-sized, survey-bad, both-good}
use Rattle.judge.proofs.examine_own.Goals as goal

pub returns-in_err-seen : goal.returns-in_err-seen
returns-in_err-seen c =
    let p = err_from_is_err_and c.from_residual.result c.from_residual.ensures.1 in
    rw (p.1, p.2) (image-bad _ (c.in_err-seen.ensures {u = tt}))

pub value-requires : goal.value-requires
value-requires c = (directory-named _ c.in_ok-seen.ensures).within

pub value-requires-2 : goal.value-requires-2
value-requires-2 c = (doubles-named _ c.in_ok-seen.ensures).within

pub value-requires-3 : goal.value-requires-3
value-requires-3 c = (characters-named _ c.in_ok-seen.ensures).within

pub value-requires-4 : goal.value-requires-4
value-requires-4 c = (scale-named _ c.in_ok-seen.ensures).within

pub value-requires-5 : goal.value-requires-5
value-requires-5 c = (tiepoint-named _ c.in_ok-seen.ensures).within

pub value-requires-6 : goal.value-requires-6
value-requires-6 c = (matrix-named _ c.in_ok-seen.ensures).within

pub judge_survey-requires : goal.judge_survey-requires
judge_survey-requires c =
    runs-sized _ c.in_ok-seen.ensures c.value.ensures c.value-2.ensures c.value-3.ensures c.value-4.ensures c.value-5.ensures c.value-6.ensures

pub returns-in_err-surveyed : goal.returns-in_err-surveyed
returns-in_err-surveyed c =
    let p = err_from_is_err_and c.from_residual-in_err-surveyed.result c.from_residual-in_err-surveyed.ensures.1 in
    rw (p.1, p.2)
    (survey-bad _ c.in_ok-seen.ensures c.value.ensures c.value-2.ensures c.value-3.ensures c.value-4.ensures c.value-5.ensures c.value-6.ensures refl
    (c.in_err-surveyed.ensures {u = tt}))

pub returns : goal.returns
returns c =
    both-good _ c.in_ok-seen.ensures c.value.ensures c.value-2.ensures c.value-3.ensures c.value-4.ensures c.value-5.ensures c.value-6.ensures refl
    c.in_ok-surveyed.ensures
