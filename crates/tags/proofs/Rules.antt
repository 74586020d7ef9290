-- Rules 11 and 12 over the values alone, where rules 27, 9 and 10 are kept: a present tag is as its line says, one that is not asked for disallows
-- nothing, and no more does a line with no value rule. Assumes nothing.
use Prim.Native.Nat.{ℕ, ◌≤◌, ◌<◌}
use Rattle.std.specs.Prelude.{Some, None}
use mathlib.Core.Path.{◌≡◌, refl, sym, ap, ◌∙◌}
use mathlib.Core.Bool.{Bool, true, false, cond, not, ◌||◌}
use mathlib.Core.List.{List, [], ◌∷◌}
use native.Mathlib.Omega.{arith}
use Rattle.std.proofs.lemmas.Grind.{common_steps}
use lib.Dec.{eqb, lit<}
use lib.ListN.{length, get_or, drop}
use Rattle.paper.specs.Bytes.{build, elems}
use Rattle.paper.specs.Outcome.{first_bad}
use Rattle.paper.specs.declared.Outcome.TheVariants.{Kept as kept}
use Rattle.paper.specs.Tests.{all, some}
use Rattle.paper.specs.Tags.{Line, any, Values, picture_lines, image_values, table, named, Held, find, has, count_of, value_of, values_of, strip_tags, tile_tags, has_some, tiled}
use Rattle.paper.specs.Tags.{offsets_tag, byte_counts_tag, piece_count, lacks, fits_the_line, disallowed, rule27, rule9, rule10, rule11, rule12}
use Rattle.paper.specs.Tag
use Rattle.paper.proofs.Laws.{kept-all}
use Rattle.paper.proofs.Kept.{among, has-none}
use Rattle.paper.proofs.Bounds.{no_line, table-named, fits_line}
use Rattle.tags.specs.Index
use Rattle.tags.specs.Numbers.{cut_of, numbers_of, bits_of, pieces_by, count_of_pieces, is_tiled, twelve_of}
use Rattle.tags.specs.Numbers.{rows_allowed, planar_allowed, tile_width_allowed, tile_length_allowed, eleven_by, eleven_of}
use Rattle.tags.proofs.Slots.{in-front}

-- ---- a present tag

-- tag t is present, its type is a or b, and its count from least to most
pub record Lined (hs : List Held) (t a b least most : ℕ) : Type 0 where
  pub present : has t hs ≡ true
  pub kind : eqb (find t hs).entry.typ a || eqb (find t hs).entry.typ b ≡ true
  pub low : least ≤ count_of t hs
  pub high : count_of t hs ≤ most

-- the tag of a line is as the line says
abbrev pub LinedBy : List Held → Line → Type 0
LinedBy hs l = Lined hs l.tag l.type l.other l.least l.most

module _ (tb : List Line) (names : all named tb ≡ true) (hs : List Held) (ten : rule10 tb hs ≡ kept) where
  pub lined : (k : ℕ) → k < length tb → has (get_or tb k no_line).tag hs ≡ true → LinedBy hs (get_or tb k no_line)
  unfolding fits_the_line
  lined k h p =
      let fits = fits_line tb names hs ten k h p in
      record { present = p; kind = grind (arith, common_steps, fits); low = grind (arith, common_steps, fits); high = grind (arith, common_steps, fits) }

  needed-has : rule9 tb hs ≡ kept → (k : ℕ) → k < length tb → (get_or tb k no_line).needed (tiled hs) ≡ true → has (get_or tb k no_line).tag hs ≡ true
  unfolding rule9 lacks
  needed-has nine k h n = grind (arith, common_steps, n, kept-all (lacks hs) _ tb no_line nine k h)

  -- and is present where it is needed
  pub needed-lined : rule9 tb hs ≡ kept → (k : ℕ) → k < length tb → (get_or tb k no_line).needed (tiled hs) ≡ true → LinedBy hs (get_or tb k no_line)
  needed-lined nine k h n = lined k h (needed-has nine k h n)

-- ---- its values

module _ (big : Bool) (hs : List Held) where
  one_value : (t : ℕ) → count_of t hs ≡ 1 → values_of big t hs ≡ value_of big t hs ∷ []
  unfolding values_of value_of elems build
  one_value t e = grind (arith, common_steps, e)

  -- a tag of count 1
  pub one-bad : (l : Line) → Lined hs l.tag l.type l.other 1 1 → disallowed big hs l ≡ not (l.values (value_of big l.tag hs))
  unfolding disallowed all
  one-bad l g = grind (arith, common_steps, g, one_value l.tag)

  -- a line with no value rule
  any-all : (vs : List ℕ) → all any vs ≡ true
  unfolding all
  any-all [] = refl
  any-all (v ∷ vs) = any-all vs

  any-bad : (l : Line) → l.values ≡ any → disallowed big hs l ≡ false
  unfolding disallowed
  any-bad l e = grind (arith, common_steps, e, any-all)

  -- an absent tag
  absent-bad : (l : Line) → has l.tag hs ≡ false → disallowed big hs l ≡ false
  unfolding disallowed
  absent-bad l n = rw n

  -- a tag with some values
  some-bad : (l : Line) → LinedBy hs l → disallowed big hs l ≡ not (all l.values (values_of big l.tag hs))
  unfolding disallowed
  some-bad l g = rw g.present

-- ---- the other family

-- where rule 27 is kept, no tag of the other family is present
module _ (hs : List Held) (mixed : rule27 hs ≡ kept) where
  none-else : (b : Bool) → tiled hs ≡ b → has_some (cond b strip_tags tile_tags) hs ≡ false
  unfolding rule27
  none-else b e = grind (arith, common_steps, e, mixed)

  pub no-strip : tiled hs ≡ true → (t : ℕ) → among strip_tags t ≡ true → has t hs ≡ false
  no-strip e t m = has-none strip_tags hs t (none-else true e) m

  pub no_tile : tiled hs ≡ false → (t : ℕ) → among tile_tags t ≡ true → has t hs ≡ false
  no_tile e t m = has-none tile_tags hs t (none-else false e) m

-- ---- the two rules

-- of any picture
module _ (v : Values) (others : List Line) (names : all named (picture_lines v others) ≡ true) (big : Bool) (hs : List Held)
    (mixed : rule27 hs ≡ kept) (nine : rule9 (picture_lines v others) hs ≡ kept) (ten : rule10 (picture_lines v others) hs ≡ kept) where
  abbrev Of : ℕ → Line
  Of k = get_or (picture_lines v others) k no_line

  needed : (k : ℕ) → k < Index.pictured → (Of k).needed (tiled hs) ≡ true → LinedBy hs (Of k)
  needed k h n = needed-lined (picture_lines v others) names hs ten nine k (in-front v others k h) n

  -- 284, and the tags by which the picture is cut
  planar-bad : disallowed big hs (Of Index.planar) ≡ not (planar_allowed (cond (has Tag.planar hs) (Some (value_of big Tag.planar hs)) None))
  planar-bad = grind (arith, common_steps, absent-bad, one-bad, lined (picture_lines v others) names hs ten Index.planar (in-front v others Index.planar (lit< tt)))

  rows-bad : disallowed big hs (Of Index.rows_per_strip) ≡ not (rows_allowed (cut_of big hs))
  unfolding cut_of among some
  rows-bad = grind (arith, common_steps, absent-bad, one-bad, needed Index.rows_per_strip (lit< tt), λ (e : tiled hs ≡ true). no-strip hs mixed e Tag.rows_per_strip refl)

  tile-width-bad : disallowed big hs (Of Index.tile_width) ≡ not (tile_width_allowed (cut_of big hs))
  unfolding cut_of among some
  tile-width-bad = grind (arith, common_steps, absent-bad, one-bad, needed Index.tile_width (lit< tt), λ (e : tiled hs ≡ false). no_tile hs mixed e Tag.tile_width refl)

  tile-length-bad : disallowed big hs (Of Index.tile_length) ≡ not (tile_length_allowed (cut_of big hs))
  unfolding cut_of among some
  tile-length-bad = grind (arith, common_steps, absent-bad, one-bad, needed Index.tile_length (lit< tt), λ (e : tiled hs ≡ false). no_tile hs mixed e Tag.tile_length refl)

  pub eleven-by : eleven_by v (numbers_of big hs) (all v.bits (values_of big Tag.bits hs)) (first_bad (disallowed big hs) (λ l. l.tag) others)
      ≡ rule11 (picture_lines v others) big hs
  unfolding rule11 eleven_by numbers_of first_bad
  eleven-by =
      rw (
        one-bad big hs (Of Index.width) (needed Index.width (lit< tt) refl),
        one-bad big hs (Of Index.length) (needed Index.length (lit< tt) refl),
        some-bad big hs (Of Index.bits) (needed Index.bits (lit< tt) refl),
        one-bad big hs (Of Index.compression) (needed Index.compression (lit< tt) refl),
        one-bad big hs (Of Index.photometric) (needed Index.photometric (lit< tt) refl),
        any-bad big hs (Of Index.strip_offsets) refl,
        one-bad big hs (Of Index.samples) (needed Index.samples (lit< tt) refl),
        rows-bad,
        any-bad big hs (Of Index.strip_byte_counts) refl,
        planar-bad,
        tile-width-bad,
        tile-length-bad,
        any-bad big hs (Of Index.tile_offsets) refl,
        any-bad big hs (Of Index.tile_byte_counts) refl,
      )

-- and of the image, whose other lines allow every value
pub eleven-is : (big : Bool) (hs : List Held) → rule27 hs ≡ kept → rule9 table hs ≡ kept → rule10 table hs ≡ kept
    → eleven_of (numbers_of big hs) (bits_of big hs).allowed ≡ rule11 table big hs
unfolding eleven_of bits_of table first_bad
eleven-is big hs mixed nine ten =
    let others : first_bad (disallowed big hs) (λ l. l.tag) (drop Index.pictured table) ≡ kept =
    rw (
      any-bad big hs (get_or table Index.scale no_line) refl,
      any-bad big hs (get_or table Index.tiepoint no_line) refl,
      any-bad big hs (get_or table Index.matrix no_line) refl,
      any-bad big hs (get_or table Index.key_directory no_line) refl,
      any-bad big hs (get_or table Index.doubles no_line) refl,
      any-bad big hs (get_or table Index.characters no_line) refl,
      any-bad big hs (get_or table Index.metadata no_line) refl,
    ) in
    ap (eleven_by image_values (numbers_of big hs) (bits_of big hs).allowed) (sym others) ∙ eleven-by image_values (drop Index.pictured table) table-named big hs mixed nine ten

pub counted_is : (big : Bool) (hs : List Held) → count_of_pieces (numbers_of big hs) ≡ piece_count big hs
unfolding pieces_by numbers_of cut_of piece_count
counted_is big hs = grind (arith, common_steps)

-- the cut is of tiles where the picture is in tiles
pub cut-tiled : (big : Bool) (hs : List Held) → is_tiled (cut_of big hs) ≡ tiled hs
unfolding cut_of
cut-tiled big hs = grind (arith, common_steps)

pub twelve-is : (big : Bool) (hs : List Held)
    → twelve_of (numbers_of big hs) (bits_of big hs) (count_of Tag.bits hs) (count_of (offsets_tag hs) hs) (count_of (byte_counts_tag hs) hs) ≡ rule12 big hs
unfolding rule12 twelve_of numbers_of bits_of
twelve-is big hs = rw (counted_is big hs, cut-tiled big hs)
