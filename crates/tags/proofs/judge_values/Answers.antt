-- `judge_values` is rules 11 and 12 where 27, 9 and 10 are kept: the values are fetched as the paper has them (`Fetched`). Assumes nothing.
use lib.Dec.{lit<}
use Rattle.std.proofs.lemmas.Result.{err_from_is_err_and}
use Rattle.paper.specs.Tags.{image_values, table}
use Rattle.paper.proofs.Bounds.{table-named}
use Rattle.outcomes.proofs.Ruled.{rule-kept}
use Rattle.tags.proofs.Fetched.{readable, bits-some, bits-end, bits-room}
use Rattle.tags.proofs.Answers.{refused-eleven, countable, refused-twelve, accepted}
use Rattle.tags.proofs.judge_values.Goals as goal

pub read_numbers-n-requires : goal.read_numbers-n-requires
unfolding table
read_numbers-n-requires c = readable image_values table-named c.requires

pub value-requires : goal.value-requires
unfolding table
value-requires c = rw c.part_of.ensures (bits-end image_values table-named c.requires)

pub read_bits-bits-requires : goal.read_bits-bits-requires
unfolding table
read_bits-bits-requires c =
    let w = c.requires in
    let part = rw c.part_of.ensures at c.value.ensures in
    rw part (bits-some image_values table-named w, bits-room image_values table-named w)

pub returns-in_err-rule : goal.returns-in_err-rule
returns-in_err-rule c =
    let p = err_from_is_err_and c.from_residual.result c.from_residual.ensures.1 in
    let part = rw c.part_of.ensures at c.value.ensures in
    rw (p.1, p.2) (search (refused-eleven, part, c.in_err-rule.ensures {u = tt}))

pub agreeing_tags-requires : goal.agreeing_tags-requires
agreeing_tags-requires c =
    let part = rw c.part_of.ensures at c.value.ensures in
    let k = rule-kept 11 _ (lit< tt) _ c.in_ok-rule.ensures in
    search (countable, part, k)

pub returns-in_err-rule-2 : goal.returns-in_err-rule-2
returns-in_err-rule-2 c =
    let p = err_from_is_err_and c.from_residual-in_err-rule-2.result c.from_residual-in_err-rule-2.ensures.1 in
    let k = rule-kept 11 _ (lit< tt) _ c.in_ok-rule.ensures in
    let part = rw c.part_of.ensures at c.value.ensures in
    let e = c.in_err-rule-2.ensures {u = tt} in
    rw (p.1, p.2) (search (refused-twelve, part, k, e))

pub returns : goal.returns
returns c =
    let k = rule-kept 11 _ (lit< tt) _ c.in_ok-rule.ensures in
    let l = rule-kept 12 _ (lit< tt) _ c.in_ok-rule-2.ensures in
    let part = rw c.part_of.ensures at c.value.ensures in
    search (accepted, part, k, l)
