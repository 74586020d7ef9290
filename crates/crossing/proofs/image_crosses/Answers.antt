-- `image_crosses` hands the mask's list over: what was found of its tags, and its directory. Assumes nothing.
use Rattle.std.proofs.Common.{refl}
use Rattle.crossing.proofs.Apart.{own-low}
use Rattle.crossing.proofs.Both.{mask-listed}
use Rattle.crossing.proofs.image_crosses.Goals as goal

pub invariant_of-list : goal.invariant_of-list
invariant_of-list c =
    record { low = rw (c.put_parts.ensures, c.part-parts.ensures) (own-low c.requires.2) }

pub returns : goal.returns
returns c = mask-listed _ _ _ refl (rw (c.put_parts.ensures, c.part-parts.ensures)) (rw c.places.ensures at c.clashes_all.ensures)
