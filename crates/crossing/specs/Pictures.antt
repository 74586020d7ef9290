-- What is known of the image and of its mask where their pictures are tried against both reading lists. Assumes nothing.
use Rattle.std.specs.Prelude.{ℕ, ◌+◌, ◌*◌, ◌≤◌, ◌<◌, ◌≡◌, List, [], ◌∷◌, ◌++◌, map, length}
use Rattle.paper.specs.Bytes.{run}
use Rattle.paper.specs.Outcome.{first, ◌▸◌}
use Rattle.paper.specs.Layout.{dir_len, rule6}
use Rattle.paper.specs.Tags.{Line, table, mask_table, rule10}
use Rattle.paper.specs.Pieces.{part, Piece, rule13, rule14}
use Rattle.paper.specs.Judge.{View, pieces_of, directory_of, full_of}
use Rattle.paper.specs.declared.Outcome.TheVariants.{Kept as kept}
use Rattle.paper.specs.declared.Part.{Part}
use Rattle.paper.specs.declared.Verdict.{Verdict}
use Rattle.layout.specs.Parts.{value_part}
use Rattle.layout.specs.declared.Directory.{Directory}
use Rattle.layout.specs.declared.Further.{Further}
use Rattle.lines.specs.Ready.{entries_at, held_at, Ready, Behind}
use Rattle.pieces.specs.Gaps.{Addable, parts_of, named_parts}
use Rattle.pieces.specs.Spans.{span_of}
use Rattle.pieces.specs.declared.Span.{Span}
use Rattle.tags.specs.Tagging.{view_of}
use Rattle.tags.specs.declared.Size.{Size}
use Rattle.image.specs.Naming.{named_pieces, Named}
use Rattle.crossing.specs.declared.Picture.{Picture}

-- how many tags the table of a mask has
abbrev pub mask_many : ℕ
mask_many = 15

-- what a directory with that table shows
abbrev pub shown : List Line → List ℕ → Picture → View
shown tb f p = view_of tb f p.directory.big p.directory.at p.directory.count

-- the part of the whole directory
abbrev pub directory_part : Directory → Part
directory_part d = part d.at (dir_len d.count)

-- the pieces that the two entries say
abbrev pub places_in : List ℕ → Picture → List Piece
places_in f p = named_pieces f p.directory.big p.offsets p.bytecounts

-- the image's rules 1 to 7, 10, 13 and 14 are kept, and these are its picture, the further entries of 50909 and the span of its pieces
pub record Image (f : List ℕ) (p : Picture) (r : Further) (span : Span) : Type 0 where
  pub ready : Ready table f p.directory.big p.directory.at p.directory.count p.found.now
  pub behind : Behind f p.directory.big p.directory.at p.directory.count r
  pub ten : rule10 table (held_at table f p.directory.big p.directory.at p.directory.count) ≡ kept
  pub named : Named table f p.directory.big p.directory.at p.directory.count p.offsets p.bytecounts
  pub thirteen : rule13 (length f) (pieces_of (shown table f p)) ≡ kept
  pub fourteen : rule14 (full_of (shown table f p)) (pieces_of (shown table f p)) ≡ kept
  pub span_is : span ≡ span_of (pieces_of (shown table f p))

-- the mask's rules 4 to 7 are kept, by the table for an image of size s, and this is its picture
pub record Mask (f : List ℕ) (p : Picture) (s : Size) : Type 0 where
  pub ready : Ready (mask_table s.width s.length) f p.directory.big p.directory.at p.directory.count p.found.now
  pub six : rule6 (entries_at f p.directory.big p.directory.at p.directory.count) ≡ kept
  pub named : Named (mask_table s.width s.length) f p.directory.big p.directory.at p.directory.count p.offsets p.bytecounts

-- rules 13 and 14 of the mask of file f that v shows, of an image that i shows: neither picture may touch either list
abbrev pub pictures_of : List ℕ → View → View → Verdict
pictures_of f i v = first (13 ▸ rule13 (length f) (pieces_of v) ∷ 14 ▸ rule14 (full_of i ++ directory_of v) (pieces_of i ++ pieces_of v) ∷ [])

-- ---- what the steps ask

-- places that keep rule 13, with their span
abbrev pub Spanned : ℕ → List Piece → Span → Type 0
Spanned n ss span = (rule13 n ss ≡ kept) × (span ≡ span_of ss)

-- a picture with what was found of m tags, as parts of a reading list
pub record Listed (m : ℕ) (p : Picture) : Type 0 where
  pub low : p.directory.at < 4294967296
  pub few : p.directory.count ≤ 1024
  pub long : length p.found.now ≡ m
  pub addable : Addable (map value_part p.found.now)

-- the further entries lie in the file
abbrev pub Inside : List ℕ → Further → Type 0
Inside f r = (r.start + 12 * r.many ≤ length f) × (r.many ≤ 1024)

-- the mask's list: what was found of its table's tags, and its directory
unfoldable pub mask_list : Picture → List Part
mask_list p = parts_of (map value_part p.found.now ++ directory_part p.directory ∷ [])

-- both lists: the further entries of the image, what was found of its table's tags and of the mask's, and last the head and the two directories
unfoldable pub both_lists : List ℕ → Picture → Further → Picture → List Part
both_lists f i r p =
    named_parts i.directory.big (run f r.start (12 * r.many)) r.many
    ++ parts_of (map value_part i.found.now ++ (map value_part p.found.now ++ part 0 8 ∷ directory_part i.directory ∷ directory_part p.directory ∷ []))
