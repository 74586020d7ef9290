-- The values as they stand in the file are those of the paper, where rules 9 and 10 are kept. Assumes nothing.
use Prim.Native.Nat.{ℕ, ◌+◌, ◌*◌, ◌≤◌, ◌<◌}
use Rattle.std.specs.Prelude.{Some, None}
use mathlib.Core.Path.{◌≡◌, refl, sym, ap, ◌∙◌}
use mathlib.Core.Bool.{Bool, true, false, cond, not, ◌||◌}
use mathlib.Core.List.{List}
use native.Mathlib.Omega.{arith}
use Rattle.std.proofs.lemmas.Grind.{common_steps}
use lib.Dec.{eqb, lit<}
use lib.ListN.{length, get_or}
use Rattle.paper.specs.declared.Entry.{Entry}
use Rattle.paper.specs.Bytes.{run}
use Rattle.paper.specs.Layout.{size_of}
use Rattle.paper.specs.Tests.{all}
use Rattle.paper.specs.Tags.{Line, Values, picture_lines, named, Held, find, has, count_of, value_of, values_of, tiled, offsets_tag, byte_counts_tag}
use Rattle.paper.specs.Tag
use Rattle.paper.proofs.Laws.{run-length-in}
use Rattle.paper.proofs.Bounds.{no_line}
use Rattle.tags.specs.Index
use Rattle.tags.specs.declared.Bits.{Bits}
use Rattle.tags.specs.Slots.{slot_of_offsets, slot_of_byte_counts}
use Rattle.tags.specs.Numbers.{cut_of, numbers_of, bits_of, bits_in, short_in, number_in, Single, cut_in, planar_in, numbers_in, Readable}
use Rattle.lines.specs.Ready.{held_at, at_slot}
use Rattle.lines.proofs.Slots.{Slot, slot}
use Rattle.tags.specs.Tagging.{Fitting}
use Rattle.tags.proofs.Slots.{in-front}
use Rattle.tags.proofs.Rules.{Lined, LinedBy, lined, needed-lined}

-- ---- one value

module _ {f : List ℕ} {hs : List Held} {found : List Entry} {t k : ℕ} (s : Slot f hs found t k) where
  typ-of : (find t hs).entry.typ ≡ (at_slot found k).typ
  typ-of = ap (λ (e : Entry). e.typ) s.entry

  pub count-of : count_of t hs ≡ (at_slot found k).count
  count-of = ap (λ (e : Entry). e.count) s.entry

  pub kind-is : {a b l m : ℕ} → Lined hs t a b l m → eqb (at_slot found k).typ a || eqb (at_slot found k).typ b ≡ true
  kind-is g = grind (arith, common_steps, s, g)

  -- a tag with one type
  pub typ-is : {a l m : ℕ} → Lined hs t a a l m → (at_slot found k).typ ≡ a
  typ-is g = grind (arith, common_steps, kind-is g)

  pub single-is : Lined hs t 3 4 1 1 → Single (length f) (at_slot found k)
  single-is g = record { kind = kind-is g; within = grind (arith, common_steps, s, g) }

  short-within : Lined hs t 3 3 1 1 → (at_slot found k).start + 2 ≤ length f
  unfolding size_of
  short-within g = grind (arith, common_steps, s, g)

  -- the value itself
  pub number_is : (big : Bool) {a b : ℕ} → Lined hs t a b 1 1 → number_in big f (at_slot found k) ≡ value_of big t hs
  unfolding number_in value_of
  number_is big g = grind (arith, common_steps, s, g)

  short-is : (big : Bool) → Lined hs t 3 3 1 1 → short_in big f (at_slot found k).start ≡ value_of big t hs
  unfolding short_in value_of size_of
  short-is big g = grind (arith, common_steps, s, g)

  -- a tag with one SHORT or LONG has its value in its entry
  pub short-len : {a b l : ℕ} → (has t hs ≡ true → Lined hs t a b l 1) → size_of a ≤ 4 → size_of b ≤ 4 → (at_slot found k).len ≤ 4
  short-len g wa wb = grind (arith, common_steps, s, g, wa, wb)

-- ---- all values

module _ (v : Values) {others : List Line} (names : all named (picture_lines v others) ≡ true) {f : List ℕ} {big : Bool} {at c : ℕ} {t : Bool} {found : List Entry}
    (w : Fitting (picture_lines v others) f big at c t found) where
  abbrev Hs : List Held
  Hs = held_at (picture_lines v others) f big at c

  abbrev Of : ℕ → Line
  Of k = get_or (picture_lines v others) k no_line

  pub slot_at : (k : ℕ) → k < Index.pictured → Slot f (held_at (picture_lines v others) f big at c) found (get_or (picture_lines v others) k no_line).tag k
  slot_at k h = slot w.ready names k (in-front v others k h)

  needed : (k : ℕ) → k < Index.pictured → (Of k).needed (tiled Hs) ≡ true → LinedBy Hs (Of k)
  needed k h n = needed-lined (picture_lines v others) names Hs w.ten w.nine k (in-front v others k h) n

  -- those of the family of the picture, and planar
  in-tiles : (k : ℕ) → k < Index.pictured → (Of k).needed true ≡ true → t ≡ true → LinedBy Hs (Of k)
  in-tiles k h n e = needed k h (ap (λ (b : Bool). (Of k).needed b) (sym w.tiled_is ∙ e) ∙ n)

  in-strips : (k : ℕ) → k < Index.pictured → (Of k).needed false ≡ true → t ≡ false → LinedBy Hs (Of k)
  in-strips k h n e = needed k h (ap (λ (b : Bool). (Of k).needed b) (sym w.tiled_is ∙ e) ∙ n)

  planar-at : eqb (at_slot found Index.planar).start 0 ≡ false → LinedBy Hs (Of Index.planar)
  planar-at e = lined (picture_lines v others) names Hs w.ten Index.planar (in-front v others Index.planar (lit< tt)) ((slot_at Index.planar (lit< tt)).present ∙ ap not e)

  -- a tag of type SHORT alone
  also-long : {t a l m : ℕ} → Lined Hs t a a l m → Lined Hs t a 4 l m
  also-long g = record { present = g.present; kind = grind (arith, common_steps, g); low = g.low; high = g.high }

  pub readable : Readable (length f) t found
  readable =
      record {
        width = single-is (slot_at Index.width (lit< tt)) (needed Index.width (lit< tt) refl);
        length = single-is (slot_at Index.length (lit< tt)) (needed Index.length (lit< tt) refl);
        compression = short-within (slot_at Index.compression (lit< tt)) (needed Index.compression (lit< tt) refl);
        photometric = short-within (slot_at Index.photometric (lit< tt)) (needed Index.photometric (lit< tt) refl);
        samples = short-within (slot_at Index.samples (lit< tt)) (needed Index.samples (lit< tt) refl);
        planar = λ e. single-is (slot_at Index.planar (lit< tt)) (also-long (planar-at e));
        cut =
            record {
              rows = λ e. single-is (slot_at Index.rows_per_strip (lit< tt)) (in-strips Index.rows_per_strip (lit< tt) refl e);
              tile_width = λ e. single-is (slot_at Index.tile_width (lit< tt)) (in-tiles Index.tile_width (lit< tt) refl e);
              tile_length = λ e. single-is (slot_at Index.tile_length (lit< tt)) (in-tiles Index.tile_length (lit< tt) refl e);
            };
      }

  planar-is : planar_in big f (at_slot found Index.planar) ≡ cond (has Tag.planar Hs) (Some (value_of big Tag.planar Hs)) None
  planar-is = grind (arith, common_steps, slot_at Index.planar (lit< tt), number_is (slot_at Index.planar (lit< tt)) big, planar-at)

  cut-is : cut_in big f t found ≡ cut_of big Hs
  unfolding cut_in cut_of
  cut-is =
      grind (
        arith,
        common_steps,
        w.tiled_is,
        λ (e : t ≡ true). number_is (slot_at Index.tile_width (lit< tt)) big (in-tiles Index.tile_width (lit< tt) refl e),
        λ (e : t ≡ true). number_is (slot_at Index.tile_length (lit< tt)) big (in-tiles Index.tile_length (lit< tt) refl e),
        λ (e : t ≡ false). number_is (slot_at Index.rows_per_strip (lit< tt)) big (in-strips Index.rows_per_strip (lit< tt) refl e),
      )

  pub numbers-are : numbers_in big f t found ≡ numbers_of big Hs
  unfolding numbers_in numbers_of
  numbers-are =
      let p0 = number_is (slot_at Index.width (lit< tt)) big (needed Index.width (lit< tt) refl) in
      let p1 = number_is (slot_at Index.length (lit< tt)) big (needed Index.length (lit< tt) refl) in
      let p3 = short-is (slot_at Index.compression (lit< tt)) big (needed Index.compression (lit< tt) refl) in
      let p4 = short-is (slot_at Index.photometric (lit< tt)) big (needed Index.photometric (lit< tt) refl) in
      let p6 = short-is (slot_at Index.samples (lit< tt)) big (needed Index.samples (lit< tt) refl) in
      λ i. record {
        width = p0 i;
        length = p1 i;
        compression = p3 i;
        photometric = p4 i;
        samples = p6 i;
        planar = planar-is i;
        cut = cut-is i;
      }

  bits-typ : (at_slot found Index.bits).typ ≡ 3
  bits-typ = typ-is (slot_at Index.bits (lit< tt)) (needed Index.bits (lit< tt) refl)

  bits_are : bits_in big (at_slot found Index.bits).count (run f (at_slot found Index.bits).start (at_slot found Index.bits).len) ≡ bits_of big Hs
  unfolding bits_in bits_of value_of values_of size_of
  bits_are =
      let s : Slot f Hs found Tag.bits Index.bits = slot_at Index.bits (lit< tt) in
      rw (typ-of s, count-of s, s.bytes, bits-typ)

  -- as they are read, up to where they end
  pub bits-same : {part : List ℕ} → part ≡ run f (at_slot found Index.bits).start (at_slot found Index.bits).len → {b : Bits}
      → b ≡ bits_in big (at_slot found Index.bits).count part → b ≡ bits_of big (held_at (picture_lines v others) f big at c)
  bits-same is-part is_b = is_b ∙ ap (bits_in big (at_slot found Index.bits).count) is-part ∙ bits_are

  -- the values of 258 lie in its part
  pub bits-some : 0 < (at_slot found Index.bits).count
  bits-some =
      let s : Slot f Hs found Tag.bits Index.bits = slot_at Index.bits (lit< tt) in
      let l : Lined Hs Tag.bits 3 3 1 4294967295 = needed Index.bits (lit< tt) refl in
      omega (arith, l.low, count-of s)

  pub bits-end : (at_slot found Index.bits).start + (at_slot found Index.bits).len ≤ length f
  bits-end = (slot_at Index.bits (lit< tt)).within

  pub bits-room : 2 * (at_slot found Index.bits).count ≤ length (run f (at_slot found Index.bits).start (at_slot found Index.bits).len)
  unfolding size_of
  bits-room =
      let s : Slot f Hs found Tag.bits Index.bits = slot_at Index.bits (lit< tt) in
      let e : (at_slot found Index.bits).len ≡ 2 * (at_slot found Index.bits).count = s.size ∙ ap (λ (x : ℕ). size_of x * (at_slot found Index.bits).count) bits-typ in
      omega (arith, run-length-in f (at_slot found Index.bits).start (at_slot found Index.bits).len s.within)

  -- the count of a tag, and of those with the offsets and with the byte counts
  pub count_at : (k : ℕ) → k < Index.pictured
      → (at_slot found k).count ≡ count_of (get_or (picture_lines v others) k no_line).tag (held_at (picture_lines v others) f big at c)
  count_at k l = sym (count-of (slot_at k l))

  pub offsets-same : (at_slot found (slot_of_offsets t)).count
      ≡ count_of (offsets_tag (held_at (picture_lines v others) f big at c)) (held_at (picture_lines v others) f big at c)
  unfolding slot_of_offsets
  offsets-same = go t w.tiled_is
    where
      go : (b : Bool) → b ≡ tiled Hs → (at_slot found (cond b Index.tile_offsets Index.strip_offsets)).count ≡ count_of (offsets_tag Hs) Hs
      go true e = rw (← e) (count_at Index.tile_offsets (lit< tt))
      go false e = rw (← e) (count_at Index.strip_offsets (lit< tt))

  pub byte-counts-same : (at_slot found (slot_of_byte_counts t)).count
      ≡ count_of (byte_counts_tag (held_at (picture_lines v others) f big at c)) (held_at (picture_lines v others) f big at c)
  unfolding slot_of_byte_counts
  byte-counts-same = go t w.tiled_is
    where
      go : (b : Bool) → b ≡ tiled Hs → (at_slot found (cond b Index.tile_byte_counts Index.strip_byte_counts)).count ≡ count_of (byte_counts_tag Hs) Hs
      go true e = rw (← e) (count_at Index.tile_byte_counts (lit< tt))
      go false e = rw (← e) (count_at Index.strip_byte_counts (lit< tt))
