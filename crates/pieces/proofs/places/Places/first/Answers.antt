-- `first` fetches place 0, where there is one. Assumes nothing.
use Rattle.std.proofs.Common.{rules}
use Rattle.pieces.proofs.Passing.{opened-none, opened-some}
use Rattle.pieces.proofs.places.Places.first.Goals as goal

pub returns-then-self-eq0 : goal.returns-then-self-eq0
returns-then-self-eq0 c = search (rules, opened-none)

pub returns : goal.returns
returns c =
    let p = c.args.self.now in
    opened-some _ _ (c.fetch-place.ensures (p.offsets_room, p.byte_counts_room)) _ c.of.ensures
