-- `judge_pieces` hands the runs of the pieces and the parts of what was found to the pass over the places. Assumes nothing.
use native.Mathlib.Omega.{arith}
use mathlib.Core.Path.{refl}
use Rattle.tags.proofs.Slots.{in_image}
use Rattle.tags.proofs.Answers.{later-holds}
use Rattle.image.proofs.Placing.{pieces-named, outer-low, pieces-seen}
use Rattle.image.proofs.judge_pieces.Goals as goal

pub places-places-requires : goal.places-places-requires
places-places-requires c = (pieces-named c.requires c.offsets_slot-a.ensures.0 c.byte_counts_slot-b.ensures.0).standing

pub listing-list-requires : goal.listing-list-requires
listing-list-requires c =
    let p = c.requires.passed in
    let w = p.ready.whole in
    ((later-holds p.ready p.behind).room, rw (c.outer-parts.ensures, c.part.ensures) (search (outer-low, in_image, arith)))

pub returns : goal.returns
returns c =
    let r = rw (c.places-places.ensures, c.listing-list.ensures) at c.judge_places.ensures in
    let o = rw c.part.ensures at c.outer-parts.ensures in
    pieces-seen c.requires c.offsets_slot-a.ensures.0 c.byte_counts_slot-b.ensures.0 refl o c.args.spanned r
