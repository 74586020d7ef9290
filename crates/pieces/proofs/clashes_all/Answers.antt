-- `clashes_all` asks the span of the places first. Then it looks for the gap around a place, and goes on with the first place that leaves the gap: those
-- before share no byte with the list. Assumes nothing.
use Rattle.pieces.proofs.Passing.{span-free, apart-low, apart-clash, apart-next, apart-end}
use Rattle.pieces.proofs.clashes_all.Goals as goal

pub returns-then-not-meets : goal.returns-then-not-meets
returns-then-not-meets c = span-free _ _ _ c.requires.0 _ c.requires.1 _ c.meets.ensures c.if-not-meets.true

pub gap-gap-requires : goal.gap-gap-requires
gap-gap-requires c = apart-low _ _ _ c.requires.0 _ (rw c.in-Some.is at c.loop-next.invariant)

pub returns-then-is_left_by : goal.returns-then-is_left_by
returns-then-is_left_by c =
    let st = rw c.in-Some.is at c.loop-next.invariant in
    apart-clash _ _ _ c.requires.0 _ st _ c.gap-gap.ensures _ c.is_left_by.ensures c.if-is_left_by.true

pub loop-next-preserved : goal.loop-next-preserved
loop-next-preserved c =
    let st = rw c.in-Some.is at c.loop-next.invariant in
    apart-next _ _ _ c.requires.0 _ st _ c.gap-gap.ensures _ c.is_left_by.ensures c.if-is_left_by.false _ c.skip-next.ensures

pub returns : goal.returns
returns c = apart-end _ _ _ c.requires.0 _ c.loop-next.invariant c.in_default.is
