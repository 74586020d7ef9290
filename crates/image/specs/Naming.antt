-- The pieces that two entries of a directory name, that of their offsets and that of their byte counts. Assumes nothing.
use Rattle.std.specs.Prelude.{ℕ, ◌+◌, ◌*◌, ◌≤◌, ◌<◌, ◌≡◌, Bool, List, eqb, length}
use Rattle.order.specs.Width.{width}
use Rattle.paper.specs.Bytes.{run}
use Rattle.paper.specs.Tags.{Line}
use Rattle.paper.specs.Pieces.{Piece, places_of}
use Rattle.paper.specs.Judge.{pieces_of}
use Rattle.paper.specs.declared.Entry.{Entry}
use Rattle.tags.specs.Tagging.{view_of}

-- the pieces
unfoldable pub named_pieces : List ℕ → Bool → Entry → Entry → List Piece
named_pieces f big o b =
    places_of big (width (eqb o.typ 4)) (run f o.start o.len) (width (eqb b.typ 4)) (run f b.start b.len) o.count

-- the values of the two lie in the file, with room for so many numbers
pub record Standing (f : List ℕ) (o b : Entry) : Type 0 where
  pub offsets : o.start + o.len ≤ length f
  pub byte_counts : b.start + b.len ≤ length f
  pub few : o.count < 4294967296
  pub offsets_room : width (eqb o.typ 4) * o.count ≤ o.len
  pub byte_counts_room : width (eqb b.typ 4) * o.count ≤ b.len

-- and the pieces are those of what the directory shows
pub record Named (tb : List Line) (f : List ℕ) (big : Bool) (at c : ℕ) (o b : Entry) : Type 0 where
  pub standing : Standing f o b
  pub places : named_pieces f big o b ≡ pieces_of (view_of tb f big at c)
