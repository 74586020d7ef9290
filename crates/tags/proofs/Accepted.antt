-- What verdict 0 of rules 27 and 9 to 12 gives to the functions that come after: the five rules are kept, width and length have their bounds, and each
-- tag's entry is as its line says. Assumes nothing.
use Prim.Native.Nat.{ℕ, ◌*◌, ◌≤◌, ◌<◌}
use mathlib.Core.Path.{◌≡◌, refl, sym, ap, ◌∙◌, subst}
use mathlib.Core.Bool.{Bool, true, false, cond, not, ◌||◌, or-true, not-not}
use mathlib.Core.List.{List}
use native.Mathlib.Omega.{arith}
use Rattle.std.proofs.lemmas.Grind.{common_steps}
use lib.Dec.{eqb, lit<}
use lib.ListN.{length, get_or}
use borrow.Author.Tests.{eqb-true}
use Rattle.order.specs.Width.{width}
use Rattle.paper.specs.declared.Entry.{Entry}
use Rattle.paper.specs.Bytes.{run}
use Rattle.paper.specs.Outcome.{first}
use Rattle.paper.specs.declared.Outcome.TheVariants.{Kept as kept}
use Rattle.paper.specs.Tests.{all, some}
use Rattle.paper.specs.Layout.{size_of}
use Rattle.paper.specs.Tag
use Rattle.paper.specs.Tags.{Line, Values, picture_lines, image_values, table, named, Held, has, count_of, value_of, tiled, offsets_tag, byte_counts_tag, piece_count}
use Rattle.paper.specs.Tags.{rule27, rule9, rule10, rule11, rule12}
use Rattle.paper.specs.Judge.{view_at, entries_in, dir_run, count_in}
use Rattle.paper.proofs.Laws.{run-length-in, or_same}
use Rattle.paper.proofs.First.{kept-first}
use Rattle.paper.proofs.Kept.{among}
use Rattle.paper.proofs.Bounds.{no_line, table-named}
use Rattle.tags.specs.Index
use Rattle.tags.specs.Slots.{line_at, tag_at, slot_of_offsets, slot_of_byte_counts}
use Rattle.tags.specs.Numbers.{numbers_of, bits_of, eleven_of}
use Rattle.paper.specs.Judge.{table_rules}
use Rattle.lines.specs.Ready.{entries_at, held_at, at_slot, Ready}
use Rattle.lines.proofs.Slots.{Slot, slot}
use Rattle.std.specs.Prelude.{Ok}
use Rattle.outcomes.proofs.Ruled.{found-ruled}
use Rattle.tags.specs.Tagging.{view_of, picture_of, tagged_of}
use Rattle.tags.specs.declared.Pictured.{Pictured}
use Rattle.tags.proofs.Slots.{in-front, slot_at}
use Rattle.tags.proofs.Rules.{Lined, LinedBy, lined, needed-lined, no-strip, no_tile, eleven-is, counted_is, twelve-is}
use Rattle.tags.proofs.Fetched.{kind-is, count-of}
use Rattle.tags.proofs.Kept.{in-range, Allowed, eleven-gives, Agreed, twelve-gives}

-- ---- the view and the rules, as the paper has them

-- the view is that of the directory at a place, where c is its count
pub view_is : (f : List ℕ) (big : Bool) (at c : ℕ) → c ≡ count_in f (record { size = length f; big = big; at = at })
    → view_of table f big at c ≡ view_at table f (record { size = length f; big = big; at = at })
unfolding view_of held_at entries_at view_at entries_in dir_run
view_is f big at c e = rw e

-- ---- the numbers of a tag

-- the offsets or the byte counts of the pieces: SHORTs or LONGs, one for each piece
pub record PieceColumn (f : List ℕ) (hs : List Held) (found : List Entry) (pieces t k : ℕ) : Type 0 where
  pub slot : Slot f hs found t k
  pub kind : eqb (at_slot found k).typ 3 || eqb (at_slot found k).typ 4 ≡ true
  pub wide : size_of (at_slot found k).typ ≡ width (eqb (at_slot found k).typ 4)
  pub count : (at_slot found k).count ≡ pieces
  pub room : width (eqb (at_slot found k).typ 4) * (at_slot found k).count ≤ length (run f (at_slot found k).start (at_slot found k).len)

-- a tag that is absent or has so many bytes
pub record FixedColumn (f : List ℕ) (hs : List Held) (found : List Entry) (bytes t k : ℕ) : Type 0 where
  pub slot : Slot f hs found t k
  pub len : (at_slot found k).len ≡ cond (eqb (at_slot found k).start 0) 0 bytes
  pub room : length (run f (at_slot found k).start (at_slot found k).len) ≡ cond (eqb (at_slot found k).start 0) 0 bytes

width_of : (typ : ℕ) → eqb typ 3 || eqb typ 4 ≡ true → size_of typ ≡ width (eqb typ 4)
unfolding size_of
width_of typ h = grind (arith, common_steps, h)

module _ {f : List ℕ} {hs : List Held} {found : List Entry} {t k : ℕ} (s : Slot f hs found t k) where
  piece-column : {pieces : ℕ} → eqb (at_slot found k).typ 3 || eqb (at_slot found k).typ 4 ≡ true → count_of t hs ≡ pieces → PieceColumn f hs found pieces t k
  piece-column q e =
      let w = width_of (at_slot found k).typ q in
      record {
        slot = s;
        kind = q;
        wide = w;
        count = sym (count-of s) ∙ e;
        room = subst (λ (x : ℕ). x * (at_slot found k).count ≤ length (run f (at_slot found k).start (at_slot found k).len)) w
            (omega (arith, s.size, run-length-in f (at_slot found k).start (at_slot found k).len s.within));
      }

  fixed-len : {a m bytes : ℕ} → (has t hs ≡ true → Lined hs t a a m m) → size_of a * m ≡ bytes
      → (at_slot found k).len ≡ cond (eqb (at_slot found k).start 0) 0 bytes
  fixed-len g e = grind (arith, common_steps, s, e, g)

  fixed-column : {a m bytes : ℕ} → (has t hs ≡ true → Lined hs t a a m m) → size_of a * m ≡ bytes
      → FixedColumn f hs found bytes t k
  fixed-column g e =
      let l = fixed-len g e in
      record { slot = s; len = l; room = run-length-in f (at_slot found k).start (at_slot found k).len s.within ∙ l }

-- ---- the numbers of the pieces, in any table of a picture

module _ (v : Values) {others : List Line} (names : all named (picture_lines v others) ≡ true) {f : List ℕ} {big : Bool} {at c : ℕ} {found : List Entry}
    (r : Ready (picture_lines v others) f big at c found) (mixed : rule27 (held_at (picture_lines v others) f big at c) ≡ kept) where
  abbrev All : List Held
  All = held_at (picture_lines v others) f big at c

  abbrev Of : ℕ → Line
  Of k = get_or (picture_lines v others) k no_line

  stands : (k : ℕ) → k < Index.pictured → Slot f All found (Of k).tag k
  stands k h = slot r names k (in-front v others k h)

  -- a tag of the other family is absent
  none-at : (k : ℕ) → k < Index.pictured → has (Of k).tag All ≡ false → (at_slot found k).len ≡ 0
  none-at k h n = (stands k h).none (eqb-true _ 0 (sym (not-not _) ∙ ap not (sym (stands k h).present ∙ n)))

  pub no-offsets-column : (at_slot found (slot_of_offsets (not (tiled (held_at (picture_lines v others) f big at c))))).len ≡ 0
  unfolding slot_of_offsets among some
  no-offsets-column = go (tiled All) refl
    where
      go : (b : Bool) → tiled All ≡ b → (at_slot found (cond (not b) Index.tile_offsets Index.strip_offsets)).len ≡ 0
      go true e = none-at Index.strip_offsets (lit< tt) (no-strip All mixed e Tag.strip_offsets refl)
      go false e = none-at Index.tile_offsets (lit< tt) (no_tile All mixed e Tag.tile_offsets refl)

  pub no-byte-counts-column : (at_slot found (slot_of_byte_counts (not (tiled (held_at (picture_lines v others) f big at c))))).len ≡ 0
  unfolding slot_of_byte_counts among some
  no-byte-counts-column = go (tiled All) refl
    where
      go : (b : Bool) → tiled All ≡ b → (at_slot found (cond (not b) Index.tile_byte_counts Index.strip_byte_counts)).len ≡ 0
      go true e = none-at Index.strip_byte_counts (lit< tt) (no-strip All mixed e Tag.strip_byte_counts refl)
      go false e = none-at Index.tile_byte_counts (lit< tt) (no_tile All mixed e Tag.tile_byte_counts refl)

  module _ (nine : rule9 (picture_lines v others) (held_at (picture_lines v others) f big at c) ≡ kept) (ten : rule10 (picture_lines v others) (held_at (picture_lines v others) f big at c) ≡ kept)
      (twelve : rule12 big (held_at (picture_lines v others) f big at c) ≡ kept) where
    agreed : Agreed (numbers_of big All) (count_of Tag.bits All) (count_of (offsets_tag All) All) (count_of (byte_counts_tag All) All)
    agreed = twelve-gives (numbers_of big All) (bits_of big All) _ _ _ (twelve-is big All ∙ twelve)

    -- a needed tag has a type of its line
    kind-of : (k : ℕ) → k < Index.pictured → (Of k).needed (tiled All) ≡ true → eqb (at_slot found k).typ (Of k).type || eqb (at_slot found k).typ (Of k).other ≡ true
    kind-of k h n = kind-is (stands k h) (needed-lined (picture_lines v others) names All ten nine k (in-front v others k h) n)

    abbrev Column : ℕ → ℕ → Type 0
    Column t k = PieceColumn f All found (piece_count big All) t k

    pub offsets-column : PieceColumn f (held_at (picture_lines v others) f big at c) found (piece_count big (held_at (picture_lines v others) f big at c))
        (offsets_tag (held_at (picture_lines v others) f big at c)) (slot_of_offsets (tiled (held_at (picture_lines v others) f big at c)))
    unfolding slot_of_offsets
    offsets-column = go (tiled All) refl (agreed.offsets_are ∙ counted_is big All)
      where
        go : (b : Bool) → tiled All ≡ b → count_of (cond b Tag.tile_offsets Tag.strip_offsets) All ≡ piece_count big All
            → Column (cond b Tag.tile_offsets Tag.strip_offsets) (cond b Index.tile_offsets Index.strip_offsets)
        go true e q =
            let typ = (at_slot found Index.tile_offsets).typ in
            piece-column (stands Index.tile_offsets (lit< tt)) (rw (or_same (eqb typ 4) (kind-of Index.tile_offsets (lit< tt) e), or-true (eqb typ 3))) q
        go false e q = piece-column (stands Index.strip_offsets (lit< tt)) (kind-of Index.strip_offsets (lit< tt) (ap not e)) q

    pub byte-counts-column : PieceColumn f (held_at (picture_lines v others) f big at c) found (piece_count big (held_at (picture_lines v others) f big at c))
        (byte_counts_tag (held_at (picture_lines v others) f big at c)) (slot_of_byte_counts (tiled (held_at (picture_lines v others) f big at c)))
    unfolding slot_of_byte_counts
    byte-counts-column = go (tiled All) refl (agreed.byte_counts_are ∙ counted_is big All)
      where
        go : (b : Bool) → tiled All ≡ b → count_of (cond b Tag.tile_byte_counts Tag.strip_byte_counts) All ≡ piece_count big All
            → Column (cond b Tag.tile_byte_counts Tag.strip_byte_counts) (cond b Index.tile_byte_counts Index.strip_byte_counts)
        go true e q = piece-column (stands Index.tile_byte_counts (lit< tt)) (kind-of Index.tile_byte_counts (lit< tt) e) q
        go false e q = piece-column (stands Index.strip_byte_counts (lit< tt)) (kind-of Index.strip_byte_counts (lit< tt) (ap not e)) q

-- ---- verdict 0

-- the five rules are kept, by any table
pub record RulesKept (tb : List Line) (big : Bool) (hs : List Held) : Type 0 where
  pub twenty_seven : rule27 hs ≡ kept
  pub nine : rule9 tb hs ≡ kept
  pub ten : rule10 tb hs ≡ kept
  pub eleven : rule11 tb big hs ≡ kept
  pub twelve : rule12 big hs ≡ kept

pub rules-kept : (tb : List Line) (f : List ℕ) (big : Bool) (at c : ℕ) → (first (table_rules (view_of tb f big at c))).number ≡ 0
    → RulesKept tb big (held_at tb f big at c)
unfolding table_rules view_of all
rules-kept tb f big at c zero =
    let k = kept-first (table_rules (view_of tb f big at c)) refl zero in
    record { twenty_seven = k 0; nine = k 1; ten = k 2; eleven = k 3; twelve = k 4 }

-- what is told of a picture
pub record Told (f : List ℕ) (big : Bool) (at c : ℕ) (p : Pictured) : Type 0 where
  pub zero : (first (table_rules (view_of table f big at c))).number ≡ 0
  pub width_is : p.size.width ≡ value_of big Tag.width (held_at table f big at c)
  pub length_is : p.size.length ≡ value_of big Tag.length (held_at table f big at c)
  pub tiled_is : p.tiled ≡ tiled (held_at table f big at c)

pub told : (f : List ℕ) (big : Bool) (at c : ℕ) (p : Pictured) → Ok p ≡ tagged_of (view_of table f big at c) → Told f big at c p
unfolding tagged_of picture_of view_of
told f big at c p is =
    let k = found-ruled _ _ p is in
    record {
      zero = k.0;
      width_is = ap (λ (x : Pictured). x.size.width) k.1;
      length_is = ap (λ (x : Pictured). x.size.length) k.1;
      tiled_is = ap (λ (x : Pictured). x.tiled) k.1;
    }

pub record Accepted (f : List ℕ) (big : Bool) (at c : ℕ) (found : List Entry) : Type 0 where
  pub twenty_seven : rule27 (held_at table f big at c) ≡ kept
  pub nine : rule9 table (held_at table f big at c) ≡ kept
  pub ten : rule10 table (held_at table f big at c) ≡ kept
  pub eleven : rule11 table big (held_at table f big at c) ≡ kept
  pub twelve : rule12 big (held_at table f big at c) ≡ kept
  pub width_low : 1 ≤ value_of big Tag.width (held_at table f big at c)
  pub width_high : value_of big Tag.width (held_at table f big at c) ≤ 1000000
  pub length_low : 1 ≤ value_of big Tag.length (held_at table f big at c)
  pub length_high : value_of big Tag.length (held_at table f big at c) ≤ 1000000
  pub offsets : PieceColumn f (held_at table f big at c) found
      (piece_count big (held_at table f big at c)) (offsets_tag (held_at table f big at c)) (slot_of_offsets (tiled (held_at table f big at c)))
  pub byte_counts : PieceColumn f (held_at table f big at c) found
      (piece_count big (held_at table f big at c)) (byte_counts_tag (held_at table f big at c)) (slot_of_byte_counts (tiled (held_at table f big at c)))
  pub no_offsets : (at_slot found (slot_of_offsets (not (tiled (held_at table f big at c))))).len ≡ 0
  pub no_byte_counts : (at_slot found (slot_of_byte_counts (not (tiled (held_at table f big at c))))).len ≡ 0
  pub scale : FixedColumn f (held_at table f big at c) found 24 Tag.scale 14
  pub tiepoint : FixedColumn f (held_at table f big at c) found 48 Tag.tiepoint 15
  pub matrix : FixedColumn f (held_at table f big at c) found 128 Tag.matrix 16
  pub directory : Slot f (held_at table f big at c) found Tag.key_directory Index.key_directory
  pub doubles : Slot f (held_at table f big at c) found Tag.doubles Index.doubles
  pub characters : Slot f (held_at table f big at c) found Tag.characters Index.characters
  pub metadata : Slot f (held_at table f big at c) found Tag.metadata Index.metadata

module _ (f : List ℕ) (big : Bool) (at c : ℕ) (found : List Entry) (r : Ready table f big at c found)
    (zero : (first (table_rules (view_of table f big at c))).number ≡ 0) where
  abbrev Hs : List Held
  Hs = held_at table f big at c

  rules : RulesKept table big Hs
  rules = rules-kept table f big at c zero

  allowed : Allowed image_values (numbers_of big Hs) (bits_of big Hs).allowed
  unfolding eleven_of
  allowed = eleven-gives image_values (numbers_of big Hs) (bits_of big Hs).allowed kept (eleven-is big Hs rules.twenty_seven rules.nine rules.ten ∙ rules.eleven)

  here : (k : ℕ) → k < Index.many → Slot f Hs found (tag_at k) k
  here = slot_at r

  line_of : (k : ℕ) → k < length table → has (get_or table k no_line).tag Hs ≡ true → LinedBy Hs (get_or table k no_line)
  line_of = lined table table-named Hs rules.ten

  pub accepted : Accepted f big at c found
  unfolding numbers_of line_at tag_at table size_of
  accepted =
      let w = in-range 1 1000000 (value_of big Tag.width Hs) allowed.width in
      let l = in-range 1 1000000 (value_of big Tag.length Hs) allowed.length in
      record {
        twenty_seven = rules.twenty_seven;
        nine = rules.nine;
        ten = rules.ten;
        eleven = rules.eleven;
        twelve = rules.twelve;
        width_low = w.0;
        width_high = w.1;
        length_low = l.0;
        length_high = l.1;
        offsets = offsets-column image_values table-named r rules.twenty_seven rules.nine rules.ten rules.twelve;
        byte_counts = byte-counts-column image_values table-named r rules.twenty_seven rules.nine rules.ten rules.twelve;
        no_offsets = no-offsets-column image_values table-named r rules.twenty_seven;
        no_byte_counts = no-byte-counts-column image_values table-named r rules.twenty_seven;
        scale = fixed-column (here Index.scale (lit< tt)) (line_of Index.scale (lit< tt)) refl;
        tiepoint = fixed-column (here Index.tiepoint (lit< tt)) (line_of Index.tiepoint (lit< tt)) refl;
        matrix = fixed-column (here Index.matrix (lit< tt)) (line_of Index.matrix (lit< tt)) refl;
        directory = here Index.key_directory (lit< tt);
        doubles = here Index.doubles (lit< tt);
        characters = here Index.characters (lit< tt);
        metadata = here Index.metadata (lit< tt);
      }
