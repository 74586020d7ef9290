-- `judge_tags` is rules 27 and 9 to 12: each stops at its first broken line (`Answers`). Assumes nothing.
use Rattle.std.proofs.lemmas.Result.{err_from_is_err_and}
use Rattle.paper.specs.Tags.{table}
use Rattle.lines.specs.Rows.{needed_by}
use Rattle.lines.specs.Lined.{says}
use Rattle.tags.specs.Slots.{line_at}
use Rattle.tags.proofs.Slots.{lined}
use Rattle.tags.proofs.Answers.{refused-families, later-holds, later_lent, refused-later, fitting}
use Rattle.tags.proofs.judge_tags.Goals as goal

pub returns-in_err-tiled : goal.returns-in_err-tiled
returns-in_err-tiled c =
    let p = err_from_is_err_and c.from_residual.result c.from_residual.ensures.1 in
    rw (p.1, p.2) (search (refused-families, lined, c.in_err-tiled.ensures {u = tt}))

pub bytes-requires : goal.bytes-requires
bytes-requires c =
    let p = c.requires in
    (later-holds p.0 p.1).room

pub has_misfit-requires : goal.has_misfit-requires
has_misfit-requires c =
    let p = c.requires in
    later_lent p.0 p.1 c.bytes.ensures

pub returns-then-has_misfit : goal.returns-then-has_misfit
unfolding line_at table says needed_by
returns-then-has_misfit c = rw c.refused.ensures (search (refused-later, lined, c.in_ok-tiled.ensures))

pub judge_values-requires : goal.judge_values-requires
unfolding line_at table says needed_by
judge_values-requires c = search (fitting, lined, c.in_ok-tiled.ensures)
