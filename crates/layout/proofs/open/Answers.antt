-- `open` tests rules 4 and 5: the count is read where the offset is kept. Assumes nothing.
use Rattle.std.proofs.Math.Bool.{or_assoc}
use Rattle.paper.specs.Outcome.{first}
use Rattle.paper.specs.Layout.{rule4, rule5}
use Rattle.paper.specs.Judge.{offset_rules, count_rules, offset_stage, count_stage}
use Rattle.outcomes.specs.Ruled.{ruled}
use Rattle.layout.specs.Opening.{opened_of}
use Rattle.layout.proofs.Opening.{count-is}
use Rattle.layout.proofs.open.Goals as goal

pub returns-then-is_misplaced : goal.returns-then-is_misplaced
unfolding opened_of ruled offset_stage offset_rules first rule4
returns-then-is_misplaced c =
    let four = rw c.is_misplaced.ensures at c.if-is_misplaced.true in
    rw (c.refused.ensures, four)

pub returns-then-count-n : goal.returns-then-count-n
unfolding opened_of ruled offset_stage offset_rules count_stage count_rules first rule4 rule5
returns-then-count-n c =
    let four = rw c.is_misplaced.ensures at c.if-is_misplaced.false in
    let five = rw or_assoc at c.if-count-n.true in
    rw (c.refused-then-count-n.ensures, four, count-is, ← c.short-count.ensures.0, five)

pub returns : goal.returns
unfolding opened_of ruled offset_stage offset_rules count_stage count_rules first rule4 rule5
returns c =
    let four = rw c.is_misplaced.ensures at c.if-is_misplaced.false in
    let five = rw or_assoc at c.if-count-n.false in
    rw (four, count-is, ← c.short-count.ensures.0, five)
