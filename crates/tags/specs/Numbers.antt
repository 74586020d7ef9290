-- The values that rules 11 and 12 ask for, as the paper has them and as they stand in a file, and the two rules over these. Assumes nothing.
use Rattle.std.specs.Prelude.{ℕ, ◌+◌, ◌*◌, ◌≤◌, ◌<◌, ◌≡◌, Bool, true, false, cond, not, ◌&&◌, ◌||◌, List, [], ◌∷◌, eqb, Option, Some, None}
use Rattle.paper.specs.Bytes.{run, num, elems}
use Rattle.paper.specs.Outcome.{breaks, first_of}
use Rattle.paper.specs.declared.Outcome.{Outcome}
use Rattle.paper.specs.declared.Outcome.TheVariants.{Kept as kept, Broken as broken}
use Rattle.paper.specs.Tests.{all, Range, between, just, allows}
use Rattle.paper.specs.Layout.{size_of}
use Rattle.paper.specs.Tag
use Rattle.paper.specs.Tags.{Values, image_values, more, sixteens, Held, has, value_of, values_of, tiled, rounded_up}
use Rattle.paper.specs.declared.Entry.{Entry}
use Rattle.lines.specs.Ready.{at_slot}
use Rattle.tags.specs.Index
use Rattle.tags.specs.Slots.{slot_of_offsets, slot_of_byte_counts}
use Rattle.tags.specs.declared.Cut.{Cut}
use Rattle.tags.specs.declared.Cut.TheVariants.{Strips, Tiles}
use Rattle.tags.specs.declared.Numbers.{Numbers}
use Rattle.tags.specs.declared.Bits.{Bits}

-- ---- of the paper

-- how the picture is cut
unfoldable pub cut_of : Bool → List Held → Cut
cut_of big hs =
    cond (tiled hs)
    (Tiles (value_of big Tag.tile_width hs) (value_of big Tag.tile_length hs))
    (Strips (value_of big Tag.rows_per_strip hs))

unfoldable pub numbers_of : Bool → List Held → Numbers
numbers_of big hs =
    record {
      width = value_of big Tag.width hs;
      length = value_of big Tag.length hs;
      compression = value_of big Tag.compression hs;
      photometric = value_of big Tag.photometric hs;
      samples = value_of big Tag.samples hs;
      planar = cond (has Tag.planar hs) (Some (value_of big Tag.planar hs)) None;
      cut = cut_of big hs;
    }

abbrev pub depths : List Range
depths = just 1 ∷ just 8 ∷ just 16 ∷ just 32 ∷ []

-- what the values of 258 say: the first, whether all are allowed, whether all are the first
abbrev pub bits_from : ℕ → List ℕ → Bits
bits_from v vs = record { first = v; allowed = all (allows depths) vs; same = all (eqb v) vs }

unfoldable pub bits_of : Bool → List Held → Bits
bits_of big hs = bits_from (value_of big Tag.bits hs) (values_of big Tag.bits hs)

-- ---- of a file

-- k SHORTs in a run
unfoldable pub bits_in : Bool → ℕ → List ℕ → Bits
bits_in big k s = bits_from (num big 2 s 0) (elems big 2 k s)

unfoldable pub short_in : Bool → List ℕ → ℕ → ℕ
short_in big f start = num big 2 (run f start 2) 0

-- of a type that is SHORT or LONG
unfoldable pub number_in : Bool → List ℕ → Entry → ℕ
number_in big f e = num big (size_of e.typ) (run f e.start (size_of e.typ)) 0

-- such a value lies in a file of n bytes
pub record Single (n : ℕ) (e : Entry) : Type 0 where
  pub kind : eqb e.typ 3 || eqb e.typ 4 ≡ true
  pub within : e.start + size_of e.typ ≤ n

unfoldable pub cut_in : Bool → List ℕ → Bool → List Entry → Cut
cut_in big f tiled found =
    cond tiled
    (Tiles (number_in big f (at_slot found Index.tile_width)) (number_in big f (at_slot found Index.tile_length)))
    (Strips (number_in big f (at_slot found Index.rows_per_strip)))

pub record CutReadable (n : ℕ) (tiled : Bool) (found : List Entry) : Type 0 where
  pub rows : tiled ≡ false → Single n (at_slot found Index.rows_per_strip)
  pub tile_width : tiled ≡ true → Single n (at_slot found Index.tile_width)
  pub tile_length : tiled ≡ true → Single n (at_slot found Index.tile_length)

-- 284 may be absent
abbrev pub planar_in : Bool → List ℕ → Entry → Option ℕ
planar_in big f e = cond (eqb e.start 0) None (Some (number_in big f e))

unfoldable pub numbers_in : Bool → List ℕ → Bool → List Entry → Numbers
numbers_in big f tiled found =
    record {
      width = number_in big f (at_slot found Index.width);
      length = number_in big f (at_slot found Index.length);
      compression = short_in big f (at_slot found Index.compression).start;
      photometric = short_in big f (at_slot found Index.photometric).start;
      samples = short_in big f (at_slot found Index.samples).start;
      planar = planar_in big f (at_slot found Index.planar);
      cut = cut_in big f tiled found;
    }

pub record Readable (n : ℕ) (tiled : Bool) (found : List Entry) : Type 0 where
  pub width : Single n (at_slot found Index.width)
  pub length : Single n (at_slot found Index.length)
  pub compression : (at_slot found Index.compression).start + 2 ≤ n
  pub photometric : (at_slot found Index.photometric).start + 2 ≤ n
  pub samples : (at_slot found Index.samples).start + 2 ≤ n
  pub planar : eqb (at_slot found Index.planar).start 0 ≡ false → Single n (at_slot found Index.planar)
  pub cut : CutReadable n tiled found

-- ---- rules 11 and 12

abbrev pub codings : List Range
codings = just 1 ∷ just 2 ∷ just 32773 ∷ []

-- what is not asked for disallows nothing
abbrev pub rows_allowed : Cut → Bool
rows_allowed (Strips rows) = allows (between 1 more ∷ []) rows
rows_allowed (Tiles width length) = true

abbrev pub planar_allowed : Option ℕ → Bool
planar_allowed None = true
planar_allowed (Some planar) = allows (just 1 ∷ []) planar

abbrev pub tile_width_allowed : Cut → Bool
tile_width_allowed (Strips rows) = true
tile_width_allowed (Tiles width length) = sixteens width

abbrev pub tile_length_allowed : Cut → Bool
tile_length_allowed (Strips rows) = true
tile_length_allowed (Tiles width length) = sixteens length

-- with the values that this kind of picture may have, whether those of 258 are such, and what is said of the lines behind the picture's
unfoldable pub eleven_by : Values → Numbers → Bool → Outcome → Outcome
eleven_by v n bitsallowed rest =
    cond (not (v.width n.width)) (broken Tag.width)
    (cond (not (v.length n.length)) (broken Tag.length)
    (cond (not bitsallowed) (broken Tag.bits)
    (cond (not (allows codings n.compression)) (broken Tag.compression)
    (cond (not (v.photometric n.photometric)) (broken Tag.photometric)
    (cond (not (v.samples n.samples)) (broken Tag.samples)
    (cond (not (rows_allowed n.cut)) (broken Tag.rows_per_strip)
    (cond (not (planar_allowed n.planar)) (broken Tag.planar)
    (cond (not (tile_width_allowed n.cut)) (broken Tag.tile_width)
    (cond (not (tile_length_allowed n.cut)) (broken Tag.tile_length) rest)))))))))

-- the image's other lines allow every value
unfoldable pub eleven_of : Numbers → Bool → Outcome
eleven_of n bitsallowed = eleven_by image_values n bitsallowed kept

-- no number of a cut is 0
abbrev pub Positive : Cut → Type 0
Positive (Strips rows) = 0 < rows
Positive (Tiles width length) = (0 < width) × (0 < length)

-- what rule 11 leaves to be counted with
pub record Countable (n : Numbers) : Type 0 where
  pub width : n.width ≤ 1000000
  pub length : n.length ≤ 1000000
  pub cut : Positive n.cut

-- how many pieces a cut makes of a picture so wide and so long
unfoldable pub pieces_by : Cut → ℕ → ℕ → ℕ
pieces_by (Strips rows) wide long = rounded_up long rows
pieces_by (Tiles width length) wide long = rounded_up wide width * rounded_up long length

abbrev pub count_of_pieces : Numbers → ℕ
count_of_pieces n = pieces_by n.cut n.width n.length

abbrev pub is_tiled : Cut → Bool
is_tiled (Strips rows) = false
is_tiled (Tiles width length) = true

-- with the counts of 258, of the offsets and of the byte counts
unfoldable pub twelve_of : Numbers → Bits → ℕ → ℕ → ℕ → Outcome
twelve_of n bits bitscount offsets bytecounts =
    first_of
    (breaks (not (eqb bitscount n.samples) || not bits.same) Tag.bits
    ∷ breaks ((eqb n.compression 2 || eqb n.compression 32773) && (not (eqb bits.first 1) || not (eqb n.samples 1))) Tag.compression
    ∷ breaks (not (eqb offsets (count_of_pieces n))) (cond (is_tiled n.cut) Tag.tile_offsets Tag.strip_offsets)
    ∷ breaks (not (eqb bytecounts (count_of_pieces n))) (cond (is_tiled n.cut) Tag.tile_byte_counts Tag.strip_byte_counts)
    ∷ [])

-- with those that were found
abbrev pub twelve_in : Numbers → Bits → List Entry → Outcome
twelve_in n bits found =
    twelve_of n bits (at_slot found Index.bits).count
    (at_slot found (slot_of_offsets (is_tiled n.cut))).count
    (at_slot found (slot_of_byte_counts (is_tiled n.cut))).count
