-- `fill` meets its contract by the laws of a list that is written from the front. Assumes nothing.
use Rattle.std.proofs.Common.{refl, ap, List, slice_set, ◌∙◌}
use Rattle.paper.specs.Bytes.{build}
use Rattle.paper.specs.Judge.{view}
use Rattle.paper.specs.Calls.{row_at}
use Rattle.paper.specs.declared.Row.{Row}
use Rattle.rows.proofs.Filled.{filled_more}
use Rattle.rows.proofs.fill.Goals as goal

pub loop-i-init : goal.loop-i-init
unfolding build
loop-i-init c = refl

pub loop-i-preserved : goal.loop-i-preserved
loop-i-preserved c =
    ap (λ (rs : List Row). slice_set rs c.loop-i.i c.row_of.result) c.loop-i.invariant
    ∙ filled_more (row_at (view c.args.file.now)) c.loop-i.i _ _ c.row_of.ensures c.loop-i-test.true
