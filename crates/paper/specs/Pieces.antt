-- The pieces of the picture, its strips or its tiles, and rules 13 and 14: where they may lie. A piece is seen as a place in the file; its bytes
-- are never looked at. Assumes nothing.
use Rattle.std.specs.Prelude.{ℕ, ◌+◌, ◌*◌, min, max, Bool, ◌||◌, List, ◌∷◌, map, ltb, eqb}
use Rattle.paper.specs.Bytes.{num, build}
use Rattle.paper.specs.Outcome.{Outcome, first_bad}
use Rattle.paper.specs.Tests.{some, keep}
use Rattle.paper.specs.Layout.{size_of, dir_len}
use Rattle.paper.specs.Tags.{Line, Held, find, bytes_of, count_of, listed, offsets_tag, byte_counts_tag}
pub use Rattle.paper.specs.declared.Part.{Part}

-- so many bytes from a start
abbrev pub part : ℕ → ℕ → Part
part s l = record { start = s; len = l }

-- some byte is in both
unfoldable pub shares : Part → Part → Bool
shares a b = ltb (max a.start b.start) (min (a.start + a.len) (b.start + b.len))

-- the value bytes of every entry whose tag is in the table and whose type is 1 to 12
unfoldable pub value_parts : List Line → List Held → List Part
value_parts tb hs = map (λ h. part h.entry.start h.entry.len) (keep (λ h. listed tb h.entry) hs)

-- what may be read of a directory of c entries that stands at `at`: its count, the whole of it, the values
abbrev pub directory_list : List Line → ℕ → ℕ → List Held → List Part
directory_list tb at c hs = part at 2 ∷ part at (dir_len c) ∷ value_parts tb hs

-- the full reading list of a file with that directory
unfoldable pub full_list : List Line → ℕ → ℕ → List Held → List Part
full_list tb at c hs = part 0 8 ∷ directory_list tb at c hs

-- ---- the pieces: a list of places, each with its index from 0

pub record Piece : Type 0 where
  pub index : ℕ
  pub place : Part

-- place i of a picture whose offsets and byte counts stand in two runs, in numbers of a and of b bytes
unfoldable pub place_at : Bool → ℕ → List ℕ → ℕ → List ℕ → ℕ → Piece
place_at big a offsets b counts i =
    record { index = i; place = part (num big a offsets (a * i)) (num big b counts (b * i)) }

unfoldable pub places_of : Bool → ℕ → List ℕ → ℕ → List ℕ → ℕ → List Piece
places_of big a offsets b counts k = build (place_at big a offsets b counts) 0 k

-- rule 12 has seen that the offsets and the byte counts are as many
unfoldable pub pieces : Bool → List Held → List Piece
pieces big hs =
    places_of big
    (size_of (find (offsets_tag hs) hs).entry.typ)
    (bytes_of (offsets_tag hs) hs)
    (size_of (find (byte_counts_tag hs) hs).entry.typ)
    (bytes_of (byte_counts_tag hs) hs)
    (count_of (offsets_tag hs) hs)

-- byte count 0, offset below 8, or an end past n: the sum is of whole numbers
unfoldable pub bad_piece : ℕ → Piece → Bool
bad_piece n s = eqb s.place.len 0 || (ltb s.place.start 8 || ltb n (s.place.start + s.place.len))

unfoldable pub rule13 : ℕ → List Piece → Outcome
rule13 n ss = first_bad (bad_piece n) (λ s. s.index) ss

unfoldable pub touches : List Part → Piece → Bool
touches parts s = some (shares s.place) parts

unfoldable pub rule14 : List Part → List Piece → Outcome
rule14 parts ss = first_bad (touches parts) (λ s. s.index) ss
