-- `gap` narrows that of the whole file by the parts, and then by those that the entries name. Assumes nothing.
use Rattle.std.proofs.Common.{rules}
use Rattle.paper.specs.Bytes.{build}
use Rattle.pieces.proofs.Listed.{low-cut, part-low, narrow_start, by_turn, narrow-turn, gap-narrowed}
use Rattle.pieces.proofs.listing.Listing.gap.Goals as goal

pub loop-p-init : goal.loop-p-init
loop-p-init c = narrow_start _ _

pub narrow-g-requires : goal.narrow-g-requires
narrow-g-requires c =
    let low = c.args.self.now.low in
    part-low _ _ _ (search (rules, low, low-cut)) c.loop-p-test.true

pub loop-p-preserved : goal.loop-p-preserved
loop-p-preserved c = by_turn _ _ _ _ _ _ c.loop-p.invariant c.loop-p-test.true _ c.narrow-g.ensures

pub loop-i-init : goal.loop-i-init
unfolding build
loop-i-init c = narrow_start _ _

pub loop-i-preserved : goal.loop-i-preserved
loop-i-preserved c = narrow-turn _ _ _ _ _ _ c.loop-i.invariant _ (rw (← c.named.ensures.0) c.narrow-g-in-loop-i.ensures)

pub returns : goal.returns
returns c = search (rules, gap-narrowed)
