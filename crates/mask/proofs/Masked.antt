-- What an Ok of rules 27 and 9 to 12 of a mask gives to the functions that come after: the five rules are kept, offsets and byte counts have a number
-- for each piece, and every other tag has its value in its entry. Assumes nothing.
use Rattle.std.specs.Prelude.{Ok}
use Prim.Native.Nat.{ℕ, ◌*◌, ◌≤◌, ◌<◌}
use mathlib.Core.Path.{◌≡◌, refl, sym, ap, ◌∙◌, subst}
use mathlib.Core.Bool.{Bool, true, false, not, ◌||◌}
use mathlib.Core.List.{List}
use native.Mathlib.Nat.{zero-add}
use native.Mathlib.Omega.{arith}
use lib.Dec.{eqb, leb, lit<}
use lib.ListN.{length, get_or}
use borrow.Author.Tests.{le-leb, leb-true}
use Rattle.paper.specs.Bytes.{build}
use Rattle.paper.specs.Layout.{size_of}
use Rattle.paper.specs.Outcome.{first}
use Rattle.paper.specs.Tests.{all}
use Rattle.paper.specs.Tag
use Rattle.paper.specs.Tags.{Line, mask_values, mask_table, Held, has, count_of, tiled, offsets_tag, byte_counts_tag, piece_count}
use Rattle.paper.specs.Judge.{table_rules}
use Rattle.paper.specs.declared.Entry.{Entry}
use Rattle.paper.proofs.Laws.{length-build, get_or-build, all-at}
use Rattle.paper.proofs.Bounds.{no_line}
use Rattle.lines.specs.Ready.{held_at, at_slot, Ready}
use Rattle.lines.proofs.Slots.{Slot, slot}
use Rattle.tags.specs.Index
use Rattle.tags.specs.Slots.{slot_of_offsets, slot_of_byte_counts}
use Rattle.tags.specs.Numbers.{numbers_of, bits_of}
use Rattle.tags.specs.Tagging.{view_of, Fitting}
use Rattle.tags.proofs.Rules.{Lined, lined, needed-lined, twelve-is}
use Rattle.tags.proofs.Fetched.{count-of, typ-is, short-len}
use Rattle.tags.proofs.Kept.{twelve-gives}
use Rattle.tags.proofs.Accepted.{PieceColumn, RulesKept, rules-kept, offsets-column, byte-counts-column, no-offsets-column, no-byte-counts-column}
use Rattle.mask.specs.Values.{subfile}
use Rattle.mask.specs.Masking.{tagged_of}
use Rattle.mask.proofs.Numbered.{found-numbered}
use Rattle.mask.proofs.Answers.{mask-named, exactly, allowed-where}

-- how many slots there are
abbrev pub many : ℕ
many = 15

pub record Masked (wide long : ℕ) (f : List ℕ) (big : Bool) (at c : ℕ) (t : Bool) (found : List Entry) : Type 0 where
  pub rules : RulesKept (mask_table wide long) big (held_at (mask_table wide long) f big at c)
  pub tiled_is : t ≡ tiled (held_at (mask_table wide long) f big at c)
  pub offsets : PieceColumn f (held_at (mask_table wide long) f big at c) found (piece_count big (held_at (mask_table wide long) f big at c))
      (offsets_tag (held_at (mask_table wide long) f big at c)) (slot_of_offsets t)
  pub byte_counts : PieceColumn f (held_at (mask_table wide long) f big at c) found (piece_count big (held_at (mask_table wide long) f big at c))
      (byte_counts_tag (held_at (mask_table wide long) f big at c)) (slot_of_byte_counts t)
  pub no_offsets : (at_slot found (slot_of_offsets (not t))).len ≡ 0
  pub no_byte_counts : (at_slot found (slot_of_byte_counts (not t))).len ≡ 0
  pub bits_count : (at_slot found Index.bits).count ≡ 1
  pub slots : (k : ℕ) → k < many → Slot f (held_at (mask_table wide long) f big at c) found (get_or (mask_table wide long) k no_line).tag k
  pub others : (k : ℕ) → k < many → eqb k (slot_of_offsets t) || eqb k (slot_of_byte_counts t) ≡ false → (at_slot found k).len ≤ 4

module _ (wide long : ℕ) (f : List ℕ) (big : Bool) (at c : ℕ) (found : List Entry) (r : Ready (mask_table wide long) f big at c found)
    {t : Bool} (is : Ok t ≡ tagged_of (view_of (mask_table wide long) f big at c)) where
  abbrev Hs : List Held
  Hs = held_at (mask_table wide long) f big at c

  told : ((first (table_rules (view_of (mask_table wide long) f big at c))).number ≡ 0) × (t ≡ tiled Hs)
  unfolding tagged_of view_of
  told = found-numbered _ _ _ is

  kept-all : RulesKept (mask_table wide long) big Hs
  kept-all = rules-kept (mask_table wide long) f big at c told.0

  here : (k : ℕ) → k < many → Slot f Hs found (get_or (mask_table wide long) k no_line).tag k
  unfolding mask_table
  here k h = slot r (mask-named wide long) k h

  fitting : Fitting (mask_table wide long) f big at c (tiled Hs) found
  fitting = record { ready = r; tiled_is = refl; twenty_seven = kept-all.twenty_seven; nine = kept-all.nine; ten = kept-all.ten }

  -- 258 has one value, as there is one sample
  one-count : count_of Tag.bits Hs ≡ 1
  unfolding numbers_of
  one-count =
      (twelve-gives (numbers_of big Hs) (bits_of big Hs) (count_of Tag.bits Hs) _ _ (twelve-is big Hs ∙ kept-all.twelve)).bits_are
      ∙ exactly _ 1 (allowed-where wide long fitting kept-all.eleven).samples

  bits-slot : Slot f Hs found Tag.bits Index.bits
  unfolding mask_table
  bits-slot = here Index.bits (lit< tt)

  one_bit : (at_slot found Index.bits).count ≡ 1
  one_bit = sym (count-of bits-slot) ∙ one-count

  bits-short : (at_slot found Index.bits).len ≤ 4
  unfolding mask_table size_of
  bits-short =
      let l : Lined Hs Tag.bits 3 3 1 4294967295 = needed-lined (mask_table wide long) (mask-named wide long) Hs kept-all.ten kept-all.nine Index.bits (lit< tt) refl in
      let e : (at_slot found Index.bits).len ≡ 2 = bits-slot.size ∙ (λ i. size_of (typ-is bits-slot l i) * one_bit i) in
      omega arith

  -- a tag with one number
  abbrev Of : ℕ → Line
  Of k = get_or (mask_table wide long) k no_line

  abbrev Upto : ℕ → ℕ → Type 0
  Upto k n = Lined Hs (Of k).tag (Of k).type (Of k).other (Of k).least n

  line_of : (k : ℕ) → k < many → has (Of k).tag Hs ≡ true → Upto k (Of k).most
  unfolding mask_table
  line_of k h p = lined (mask_table wide long) (mask-named wide long) Hs kept-all.ten k h p

  short : (k : ℕ) → k < many → size_of (Of k).type ≤ 4 → size_of (Of k).other ≤ 4 → (Of k).most ≡ 1 → leb (at_slot found k).len 4 ≡ true
  short k h a b m = le-leb _ _ (short-len (here k h) (λ p. subst (λ (n : ℕ). Upto k n) m (line_of k h p)) a b)

  -- those of the other family are absent
  no-offsets-there : (at_slot found (slot_of_offsets (not (tiled Hs)))).len ≡ 0
  unfolding mask_table
  no-offsets-there = no-offsets-column (mask_values wide long) (mask-named wide long) r kept-all.twenty_seven

  no-byte-counts-there : (at_slot found (slot_of_byte_counts (not (tiled Hs)))).len ≡ 0
  unfolding mask_table
  no-byte-counts-there = no-byte-counts-column (mask_values wide long) (mask-named wide long) r kept-all.twenty_seven

  -- each line but the two
  abbrev Fits : Bool → ℕ → Bool
  Fits b k = (eqb k (slot_of_offsets b) || eqb k (slot_of_byte_counts b)) || leb (at_slot found k).len 4

  each : (b : Bool) → b ≡ tiled Hs → all (Fits b) (build (λ k. k) 0 many) ≡ true
  unfolding mask_table size_of all build slot_of_offsets slot_of_byte_counts
  each b e = go b e no-offsets-there no-byte-counts-there
    where
      none : (k : ℕ) → (at_slot found k).len ≡ 0 → leb (at_slot found k).len 4 ≡ true
      none k z = le-leb (at_slot found k).len 4 (omega arith)

      s0 : leb (at_slot found Index.width).len 4 ≡ true
      s0 = short Index.width (lit< tt) (omega arith) (omega arith) refl

      s1 : leb (at_slot found Index.length).len 4 ≡ true
      s1 = short Index.length (lit< tt) (omega arith) (omega arith) refl

      s2 : leb (at_slot found Index.bits).len 4 ≡ true
      s2 = le-leb _ _ bits-short

      s3 : leb (at_slot found Index.compression).len 4 ≡ true
      s3 = short Index.compression (lit< tt) (omega arith) (omega arith) refl

      s4 : leb (at_slot found Index.photometric).len 4 ≡ true
      s4 = short Index.photometric (lit< tt) (omega arith) (omega arith) refl

      s6 : leb (at_slot found Index.samples).len 4 ≡ true
      s6 = short Index.samples (lit< tt) (omega arith) (omega arith) refl

      s7 : leb (at_slot found Index.rows_per_strip).len 4 ≡ true
      s7 = short Index.rows_per_strip (lit< tt) (omega arith) (omega arith) refl

      s9 : leb (at_slot found Index.planar).len 4 ≡ true
      s9 = short Index.planar (lit< tt) (omega arith) (omega arith) refl

      s10 : leb (at_slot found Index.tile_width).len 4 ≡ true
      s10 = short Index.tile_width (lit< tt) (omega arith) (omega arith) refl

      s11 : leb (at_slot found Index.tile_length).len 4 ≡ true
      s11 = short Index.tile_length (lit< tt) (omega arith) (omega arith) refl

      s14 : leb (at_slot found subfile).len 4 ≡ true
      s14 = short subfile (lit< tt) (omega arith) (omega arith) refl

      go : (b : Bool) → b ≡ tiled Hs → (at_slot found (slot_of_offsets (not (tiled Hs)))).len ≡ 0 → (at_slot found (slot_of_byte_counts (not (tiled Hs)))).len ≡ 0
          → all (Fits b) (build (λ k. k) 0 many) ≡ true
      go true e x y = rw (s0, s1, s2, s3, s4, none Index.strip_offsets (rw (← e) at x), s6, s7, none Index.strip_byte_counts (rw (← e) at y), s9, s10, s11, s14)
      go false e x y = rw (s0, s1, s2, s3, s4, s6, s7, s9, s10, s11, none Index.tile_offsets (rw (← e) at x), none Index.tile_byte_counts (rw (← e) at y), s14)

  others-short : (k : ℕ) → k < many → eqb k (slot_of_offsets (tiled Hs)) || eqb k (slot_of_byte_counts (tiled Hs)) ≡ false → (at_slot found k).len ≤ 4
  others-short k h n =
      let ok : ℕ → Bool = Fits (tiled Hs) in
      let l : k < length (build (λ (k : ℕ). k) 0 many) = subst (λ (x : ℕ). k < x) (sym (length-build (λ (k : ℕ). k) 0 many)) h in
      let a : ok (get_or (build (λ k. k) 0 many) k 0) ≡ true = all-at ok (build (λ k. k) 0 many) 0 (each (tiled Hs) refl) k l in
      let i : get_or (build (λ k. k) 0 many) k 0 ≡ k = get_or-build (λ (k : ℕ). k) 0 0 many k h ∙ zero-add k in
      let e : ok k ≡ true = sym (ap ok i) ∙ a in
      leb-true _ _ (rw n at e)

  pub masked : Masked wide long f big at c t found
  unfolding mask_table
  masked =
      subst (λ (b : Bool). Masked wide long f big at c b found) (sym told.1)
      (record {
        rules = kept-all;
        tiled_is = refl;
        offsets = offsets-column (mask_values wide long) (mask-named wide long) r kept-all.twenty_seven kept-all.nine kept-all.ten kept-all.twelve;
        byte_counts = byte-counts-column (mask_values wide long) (mask-named wide long) r kept-all.twenty_seven kept-all.nine kept-all.ten kept-all.twelve;
        no_offsets = no-offsets-there;
        no_byte_counts = no-byte-counts-there;
        bits_count = one_bit;
        slots = here;
        others = others-short;
      })
