-- The words for what an accepted file shows, as it stands in the file: its keys and the rows that say where their values are, its georeference and
-- its corners, the pieces of its picture, its metadata texts. `proofs/Shown` shows that it does. Assumes nothing.
use Rattle.std.specs.Prelude.{ℕ, ◌+◌, ◌-◌, ◌*◌, ◌≤◌, ◌<◌, ◌≡◌, Bool, true, false, cond, List, [], ◌∷◌, ◌⊎◌, eqb, length, get_or, Float}
use Rattle.std.specs.Float.Ieee as Ieee
use Rattle.std.specs.Float.{binary64}
use Rattle.paper.specs.Bytes.{run, num, elems}
use Rattle.paper.specs.Outcome.{verdict}
use Rattle.paper.specs.Tests.{keep}
use Rattle.paper.specs.Layout.{size_of}
use Rattle.paper.specs.Tag
use Rattle.paper.specs.Tags.{absent, find, has, count_of, rounded_up}
use Rattle.paper.specs.Key
use Rattle.paper.specs.Keys.{key_at, key_count, keys, key_value, kind_of}
use Rattle.paper.specs.Ground.{◌⊞◌, ◌⊟◌, ◌⊠◌, of_nat, zero64, one64, finite}
use Rattle.paper.specs.Judge.{view, runs_of, head_in, entries_in, pieces_of}
use Rattle.paper.specs.Calls.{judged_of, left_rows, text_of, metadata_text}
use Rattle.paper.specs.Asked.{elements_of, no_piece}
use Rattle.paper.specs.declared.Entry.{Entry}
use Rattle.paper.specs.declared.KeyEntry.{KeyEntry}
use Rattle.paper.specs.declared.Row.{Row}
use Rattle.paper.specs.declared.Corners.{Corners}
use Rattle.paper.specs.declared.Georeference.TheVariants.{Scaled, Affine}

-- the file has the tag
abbrev pub has_tag : List ℕ → ℕ → Bool
has_tag f t = has t (view f).held

-- where the value of a tag starts in the file
abbrev pub start_in : List ℕ → ℕ → ℕ
start_in f t = (find t (view f).held).entry.start

-- number i, counted from 0, of the value of a tag, as it stands in the file in numbers of the tag's type
unfoldable pub number_in : List ℕ → ℕ → ℕ → ℕ
number_in f t i =
    let w : ℕ = size_of (find t (view f).held).entry.typ in
    num (head_in f).big w f (start_in f t + w * i)

-- the only one
abbrev pub value_in : List ℕ → ℕ → ℕ
value_in f t = number_in f t 0

-- ---- keys and rows

-- K
abbrev pub keys_in : List ℕ → ℕ
keys_in f = key_count (runs_of (view f))

-- key entry i, in directory order
abbrev pub key_in : List ℕ → ℕ → KeyEntry
key_in f i = key_at (runs_of (view f)) i

-- number j of the key directory, counted from 0, as it stands in the file
unfoldable pub short_in : List ℕ → ℕ → ℕ
short_in f j = num (head_in f).big 2 f (start_in f Tag.key_directory + 2 * j)

-- the header is 1, 1, the minor revision, which is 0 or 1, and K; an entry is four numbers: key, location, count, value index
pub record KeysHold (f : List ℕ) : Type 0 where
  pub version : short_in f 0 ≡ 1
  pub revision : short_in f 1 ≡ 1
  pub minor : (judged_of f).minor ≡ short_in f 2
  pub zero_or_one : ((judged_of f).minor ≡ 0) ⊎ ((judged_of f).minor ≡ 1)
  pub many : (judged_of f).keys ≡ short_in f 3
  pub same : (judged_of f).keys ≡ keys_in f
  pub each : (i : ℕ) → i < keys_in f
      → key_in f i ≡ record { key = short_in f (4 + 4 * i); location = short_in f (5 + 4 * i); count = short_in f (6 + 4 * i); index = short_in f (7 + 4 * i) }

-- how many bytes an element has at a location: a double at 34736, a character at 34737, a SHORT at 34735 and in the entry itself
unfoldable pub width_at : ℕ → ℕ
width_at l = cond (eqb l Tag.doubles) 8 (cond (eqb l Tag.characters) 1 2)

-- key entry i as its row shows it, whatever its location: behind the header and i other entries of the key directory stand 8 bytes of the file, four
-- numbers, of which the first is the row's key
pub record EntryHolds (f : List ℕ) (i : ℕ) (row : Row) : Type 0 where
  pub place : row.entry ≡ start_in f Tag.key_directory + (8 + 8 * i)
  pub inside : row.entry + 8 ≤ length f
  pub numbers : elems (head_in f).big 2 4 (run f row.entry 8) ≡ row.key ∷ (key_in f i).location ∷ (key_in f i).count ∷ (key_in f i).index ∷ []

-- the row of key entry i: its key, its kind, the part of the file that holds its value and nothing else, and where the entry stands
pub record RowHolds (f : List ℕ) (i : ℕ) (row : Row) : Type 0 where
  pub key : row.key ≡ (key_in f i).key
  pub kind : row.kind ≡ kind_of (key_in f i).key
  pub inside : row.first + row.len ≤ length f
  pub long : row.len ≡ width_at (key_in f i).location * (key_in f i).count
  pub value : elems (head_in f).big (width_at (key_in f i).location) (key_in f i).count (run f row.first row.len)
      ≡ elements_of (runs_of (view f)) (key_in f i)
  -- at location 0 it is the entry's fourth SHORT, the key directory's number 7 + 4 i, counted from 0
  pub own : (key_in f i).location ≡ 0 → row.first ≡ start_in f Tag.key_directory + 2 * (7 + 4 * i)
  -- else it stands in the value of the tag that the location names; the index counts elements
  pub named : ((key_in f i).location ≡ 0 → ⊥)
      → row.first ≡ start_in f (key_in f i).location + width_at (key_in f i).location * (key_in f i).index
  pub entry : EntryHolds f i row

-- the rows that were lent hold this after the call: the first K are those of the keys, the others are as they were
pub record RowsHold (f : List ℕ) (lent : List Row) : Type 0 where
  pub long : length (left_rows f lent) ≡ length lent
  pub each : (i : ℕ) → i < keys_in f → (d : Row) → RowHolds f i (get_or (left_rows f lent) i d)
  pub after : (i : ℕ) → keys_in f ≤ i → (d : Row) → get_or (left_rows f lent) i d ≡ get_or lent i d

-- ---- the place on the ground

-- double k, counted from 1, of the value of a tag, as it stands in the file
unfoldable pub double_in : List ℕ → ℕ → ℕ → Float
double_in f tag k = Ieee.of_bits binary64 (num (head_in f).big 8 f (start_in f tag + 8 * (k - 1)))

-- of the tiepoint, of the scale, of the matrix
abbrev pub t : List ℕ → ℕ → Float
t f k = double_in f Tag.tiepoint k

abbrev pub c : List ℕ → ℕ → Float
c f k = double_in f Tag.scale k

abbrev pub m : List ℕ → ℕ → Float
m f k = double_in f Tag.matrix k

-- the first n doubles of a tag are finite
abbrev pub AllFinite : List ℕ → ℕ → ℕ → Type 0
AllFinite f tag n = (k : ℕ) → 1 ≤ k → k ≤ n → finite (double_in f tag k) ≡ true

-- key 1025
abbrev pub raster_type : List ℕ → ℕ
raster_type f = key_value Key.raster_type (keys (runs_of (view f)))

-- the corners where (0, 0) and (i, j) lie, by X and Y
abbrev pub corners_by : (ℕ → ℕ → Float) → (ℕ → ℕ → Float) → ℕ → ℕ → Corners
corners_by X Y i j = record { x0 = X 0 0; y0 = Y 0 0; x1 = X i j; y1 = Y i j }

-- the file's corners are those of (width, length) for PixelIsArea and of (width - 1, length - 1) for PixelIsPoint
pub record CornersHold (f : List ℕ) (X Y : ℕ → ℕ → Float) : Type 0 where
  pub area : raster_type f ≡ 1 → (judged_of f).corners ≡ corners_by X Y (value_in f Tag.width) (value_in f Tag.length)
  pub point : raster_type f ≡ 2 → (judged_of f).corners ≡ corners_by X Y (value_in f Tag.width - 1) (value_in f Tag.length - 1)

-- scale and tiepoint with no matrix: the tiepoint holds ti, tj, (unused), tx, ty, (unused) and the scale sx, sy, (unused)
pub record ScaledHolds (f : List ℕ) : Type 0 where
  pub scale : has_tag f Tag.scale ≡ true
  pub tiepoint : has_tag f Tag.tiepoint ≡ true
  pub no_matrix : has_tag f Tag.matrix ≡ false
  pub georeference : (judged_of f).georeference ≡ Scaled (t f 1) (t f 2) (t f 4) (t f 5) (c f 1) (c f 2)
  -- X = tx + (I - ti) × sx, Y = ty - (J - tj) × sy
  pub corners : CornersHold f (λ i j. t f 4 ⊞ ((of_nat i ⊟ t f 1) ⊠ c f 1)) (λ i j. t f 5 ⊟ ((of_nat j ⊟ t f 2) ⊠ c f 2))
  pub finite_scale : AllFinite f Tag.scale 3
  pub finite_tiepoint : AllFinite f Tag.tiepoint 6
  pub above_x : Ieee.lt zero64 (c f 1) ≡ true
  pub above_y : Ieee.lt zero64 (c f 2) ≡ true

-- matrix with no scale and no tiepoint: its elements are counted from 1
pub record AffineHolds (f : List ℕ) : Type 0 where
  pub matrix : has_tag f Tag.matrix ≡ true
  pub no_scale : has_tag f Tag.scale ≡ false
  pub no_tiepoint : has_tag f Tag.tiepoint ≡ false
  pub georeference : (judged_of f).georeference ≡ Affine (m f 1) (m f 2) (m f 4) (m f 5) (m f 6) (m f 8)
  -- X = (m1 × I + m2 × J) + m4, Y = (m5 × I + m6 × J) + m8
  pub corners : CornersHold f (λ i j. ((m f 1 ⊠ of_nat i) ⊞ (m f 2 ⊠ of_nat j)) ⊞ m f 4) (λ i j. ((m f 5 ⊠ of_nat i) ⊞ (m f 6 ⊠ of_nat j)) ⊞ m f 8)
  pub finite_matrix : AllFinite f Tag.matrix 16
  pub last_four : (Ieee.eq (m f 13) zero64 ≡ true)
      × (Ieee.eq (m f 14) zero64 ≡ true)
      × (Ieee.eq (m f 15) zero64 ≡ true)
      × (Ieee.eq (m f 16) one64 ≡ true)
  pub products : Ieee.eq (m f 1 ⊠ m f 6) (m f 2 ⊠ m f 5) ≡ false

-- the file has one of the two sets, key 1025 says area or point, and the corners are finite
pub record GroundHolds (f : List ℕ) : Type 0 where
  pub set : ScaledHolds f ⊎ AffineHolds f
  pub raster : (raster_type f ≡ 1) ⊎ (raster_type f ≡ 2)
  pub finite_x0 : finite (judged_of f).corners.x0 ≡ true
  pub finite_y0 : finite (judged_of f).corners.y0 ≡ true
  pub finite_x1 : finite (judged_of f).corners.x1 ≡ true
  pub finite_y1 : finite (judged_of f).corners.y1 ≡ true

-- ---- the pieces of the picture

-- n is a / b, rounded up: n times b is a or more, by less than b
pub record Rounded (a b n : ℕ) : Type 0 where
  pub is : n ≡ rounded_up a b
  pub enough : a ≤ n * b
  pub least : n * b < a + b

-- how many pieces the picture has
abbrev pub pieces_in : List ℕ → ℕ
pieces_in f = length (pieces_of (view f))

-- the count of a tag
abbrev pub tag_count : List ℕ → ℕ → ℕ
tag_count f tag = count_of tag (view f).held

-- piece k lies where number k of the offsets says, and has as many bytes as number k of the byte counts says
pub record PieceHolds (f : List ℕ) (offsets byteCounts k : ℕ) : Type 0 where
  pub index : (get_or (pieces_of (view f)) k no_piece).index ≡ k
  pub start : (get_or (pieces_of (view f)) k no_piece).place.start ≡ number_in f offsets k
  pub len : (get_or (pieces_of (view f)) k no_piece).place.len ≡ number_in f byteCounts k

-- in strips: length / rows per strip, rounded up
pub record StripsHold (f : List ℕ) : Type 0 where
  pub strips : has_tag f Tag.strip_offsets ≡ true
  pub no_tiles : has_tag f Tag.tile_offsets ≡ false
  pub many : Rounded (value_in f Tag.length) (value_in f Tag.rows_per_strip) (pieces_in f)
  pub offsets : tag_count f Tag.strip_offsets ≡ pieces_in f
  pub byte_counts : tag_count f Tag.strip_byte_counts ≡ pieces_in f
  pub each : (k : ℕ) → k < pieces_in f → PieceHolds f Tag.strip_offsets Tag.strip_byte_counts k

-- in tiles: those across times those down
pub record TilesHold (f : List ℕ) : Type 0 where
  pub tiles : has_tag f Tag.tile_offsets ≡ true
  pub no_strips : has_tag f Tag.strip_offsets ≡ false
  pub across : ℕ
  pub down : ℕ
  pub many_across : Rounded (value_in f Tag.width) (value_in f Tag.tile_width) across
  pub many_down : Rounded (value_in f Tag.length) (value_in f Tag.tile_length) down
  pub many : pieces_in f ≡ across * down
  pub offsets : tag_count f Tag.tile_offsets ≡ pieces_in f
  pub byte_counts : tag_count f Tag.tile_byte_counts ≡ pieces_in f
  pub each : (k : ℕ) → k < pieces_in f → PieceHolds f Tag.tile_offsets Tag.tile_byte_counts k

-- the picture is in strips or in tiles, and it is in some
pub record PiecesHold (f : List ℕ) : Type 0 where
  pub kind : StripsHold f ⊎ TilesHold f
  pub some : 0 < pieces_in f

-- ---- the metadata texts

-- the entries of tag 50909, in the directory's order
abbrev pub text_entries : List ℕ → List Entry
text_entries f = keep (λ e. eqb e.tag Tag.metadata) (entries_in f (head_in f))

-- how many there are, and number k of them, counted from 0
abbrev pub texts_held : List ℕ → ℕ
texts_held f = length (text_entries f)

abbrev pub text_entry : List ℕ → ℕ → Entry
text_entry f k = get_or (text_entries f) k absent.entry

-- number k is given, with an outside text lent: where it stands, from 0 in the file and from 1 in the outside text, and its bytes
pub record TextIs (f : List ℕ) (k : ℕ) (outside : List ℕ) (from start len : ℕ) (bytes : List ℕ) : Type 0 where
  pub accepted : (text_of f k (length outside)).verdict ≡ verdict 0 0
  pub from_is : (text_of f k (length outside)).from ≡ from
  pub start_is : (text_of f k (length outside)).start ≡ start
  pub len_is : (text_of f k (length outside)).len ≡ len
  pub bytes_are : metadata_text f k outside ≡ bytes

pub record TextsHold (f : List ℕ) : Type 0 where
  -- number k is the value of entry k, as it stands in the file, whatever the outside text is
  pub own : (k : ℕ) (outside : List ℕ) → k < texts_held f
      → TextIs f k outside 0 (text_entry f k).start (text_entry f k).len (run f (text_entry f k).start (text_entry f k).len)
  -- with no such entry number 0 is the whole outside text
  pub outer : (outside : List ℕ) → texts_held f ≡ 0 → TextIs f 0 outside 1 0 (length outside) outside
  -- there is no other: past the last number the call refuses by 29, with the number as place
  pub none : (k m : ℕ) → texts_held f ≤ k → 0 < k → (text_of f k m).verdict ≡ verdict 29 k

-- ---- all of it: the keys, the rows where K or more are lent, the place on the ground, the pieces, the texts

pub record Shows (f : List ℕ) : Type 0 where
  pub keys : KeysHold f
  pub rows : (lent : List Row) → keys_in f ≤ length lent → RowsHold f lent
  pub ground : GroundHolds f
  pub pieces : PiecesHold f
  pub texts : TextsHold f
