-- `judge_places` looks for the gap around a place, and goes on with the first place that leaves the gap: the places before it keep both rules. Assumes
-- nothing.
use Rattle.std.proofs.Common.{Ok, ap, ◌∙◌}
use Rattle.pieces.proofs.Passing.{standing-end, standing-bad, standing-clash, standing-next}
use Rattle.pieces.proofs.judge_places.Goals as goal

pub returns-then-is_bad : goal.returns-then-is_bad
returns-then-is_bad c =
    let st = rw c.in-Some.is at c.loop-reach.invariant in
    c.thirteen.ensures ∙ standing-bad _ _ _ _ _ _ st _ c.is_bad.ensures c.if-is_bad.true

pub returns-then-is_left_by : goal.returns-then-is_left_by
returns-then-is_left_by c =
    let st = rw c.in-Some.is at c.loop-reach.invariant in
    c.after_clash.ensures ∙ standing-clash _ _ _ _ _ _ st _ c.is_bad.ensures c.if-is_bad.false _ c.gap-gap.ensures _ c.is_left_by.ensures c.if-is_left_by.true

pub loop-reach-preserved : goal.loop-reach-preserved
loop-reach-preserved c =
    let st = rw c.in-Some.is at c.loop-reach.invariant in
    standing-next _ _ _ _ _ _ st _ c.is_bad.ensures c.if-is_bad.false _ c.gap-gap.ensures _ c.is_left_by.ensures c.if-is_left_by.false
    _ (λ t. c.with.ensures) _ c.skip_on-reach.ensures

pub returns : goal.returns
returns c = ap Ok c.then_some.ensures ∙ standing-end _ _ _ _ _ _ c.loop-reach.invariant c.in_default.is
