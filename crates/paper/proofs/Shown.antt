-- What an accepted file shows: the rows of its keys, its place on the ground, its pieces and its metadata texts are those that the documents define, in
-- the words of `Shown` (in specs/). Assumes nothing.
use Prim.Native.Nat.{ℕ}
use mathlib.Core.Path.{◌≡◌}
use mathlib.Core.List.{List}
use Rattle.paper.specs.Judge.{verdict_of}
use Rattle.paper.specs.Shown.{Shows}
use Rattle.paper.proofs.RowValues.{keys-hold, rows-hold}
use Rattle.paper.proofs.OnGround.{ground-holds}
use Rattle.paper.proofs.PieceCount.{pieces-hold}
use Rattle.paper.proofs.Texts.{texts-hold}

pub shows : (f : List ℕ) → (verdict_of f).number ≡ 0 → Shows f
shows f z = record { keys = keys-hold f z; rows = rows-hold f z; ground = ground-holds f z; pieces = pieces-hold f z; texts = texts-hold f z }
