-- `mask_crosses` hands both lists over: what the further entries name, what was found of the image's tags and of the mask's, the head and the two
-- directories. Assumes nothing.
use Rattle.std.proofs.Common.{refl, rules}
use Rattle.crossing.specs.Pictures.{places_in}
use Rattle.crossing.proofs.Apart.{both-low, low-taken}
use Rattle.crossing.proofs.Both.{both-listed}
use Rattle.crossing.proofs.mask_crosses.Goals as goal

pub listing-list-requires : goal.listing-list-requires
listing-list-requires c =
    let p = c.requires in
    let i = p.2.addable in
    let m = p.4.addable in (
      p.3.0,
      rw (c.put_parts.ensures, c.put_parts-2.ensures, c.part.ensures, c.part-2.ensures)
          (both-low p.4 p.2 _ _ (search (rules, i, m, low-taken)) (search (rules, i, m, low-taken))),
    )

pub returns : goal.returns
returns c =
    let a = c.args in
    let tried = rw (c.put_parts.ensures, c.put_parts-2.ensures, c.part.ensures, c.part-2.ensures) at c.listing-list.ensures in
    let clash = rw c.places.ensures at c.clashes_all.ensures in
    search (rules, both-listed a.file.now a.image.now a.mask.now a.further (places_in a.file.now a.mask.now) refl _ tried, clash)
