-- `judge_families` is rules 27, 9 and 10 of the first entry of each tag: one law for each answer (`Families`). Assumes nothing.
use lib.Dec.{lit<}
use Rattle.std.proofs.lemmas.Result.{err_from_is_err_and}
use Rattle.outcomes.proofs.Ruled.{rule-kept}
use Rattle.tags.proofs.Families.{refused-mixed, refused-nine, refused-ten, in-families}
use Rattle.tags.proofs.judge_families.Goals as goal

pub returns-then-is_mixed : goal.returns-then-is_mixed
returns-then-is_mixed c = rw c.refused.ensures (search refused-mixed)

pub returns-in_err-rule : goal.returns-in_err-rule
returns-in_err-rule c =
    let p = err_from_is_err_and c.from_residual.result c.from_residual.ensures.1 in
    rw (p.1, p.2) (search (refused-nine, c.in_err-rule.ensures {u = tt}))

pub returns-in_err-rule-2 : goal.returns-in_err-rule-2
returns-in_err-rule-2 c =
    let p = err_from_is_err_and c.from_residual-in_err-rule-2.result c.from_residual-in_err-rule-2.ensures.1 in
    let k = rule-kept 9 _ (lit< tt) _ c.in_ok-rule.ensures in
    rw (p.1, p.2) (search (refused-ten, k, c.in_err-rule-2.ensures {u = tt}))

pub returns : goal.returns
returns c =
    let k = rule-kept 9 _ (lit< tt) _ c.in_ok-rule.ensures in
    let l = rule-kept 10 _ (lit< tt) _ c.in_ok-rule-2.ensures in
    search (in-families, k, l)
