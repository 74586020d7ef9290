-- One law for each answer of rules 27 and 9 to 12. Assumes nothing.
use Prim.Native.Nat.{ℕ, ◌*◌, ◌≤◌}
use mathlib.Core.Path.{◌≡◌, refl, sym, ap, ap₂, ◌∙◌}
use mathlib.Core.Bool.{Bool, true, false, not}
use mathlib.Core.List.{List, [], ◌∷◌}
use native.Mathlib.Omega.{arith}
use lib.Dec.{lit<}
use lib.ListN.{length}
use Rattle.paper.specs.Bytes.{run}
use Rattle.std.specs.Prelude.{Ok, Err}
use Rattle.paper.specs.declared.Verdict.{Verdict}
use Rattle.paper.specs.declared.Entry.{Entry}
use Rattle.paper.specs.Outcome.{breaks, first_of, first, verdict}
use Rattle.outcomes.specs.Ruled.{ruled}
use Rattle.outcomes.proofs.Ruled.{rule-refuses}
use Rattle.paper.specs.Tests.{some}
use Rattle.paper.specs.declared.Outcome.{Outcome}
use Rattle.paper.specs.declared.Outcome.TheVariants.{Kept as kept}
use Rattle.paper.specs.Tags.{image_values, table, Held, fits_the_line, rule27, rule9, rule10, rule11, rule12}
use Rattle.paper.proofs.Laws.{run-length-in}
use Rattle.paper.proofs.Bounds.{table-named}
use Rattle.tags.specs.Index
use Rattle.tags.specs.declared.Numbers.{Numbers}
use Rattle.tags.specs.declared.Bits.{Bits}
use Rattle.lines.specs.Rows.{ten_of, some_misfit}
use Rattle.lines.specs.Lined.{says, Lined}
use Rattle.lines.specs.declared.Line.{Line as Row}
use Rattle.lines.specs.Ready.{entries_at, held_at, at_slot, Ready, Behind}
use Rattle.lines.proofs.Ruled.{ten-is, later-misfits}
use Rattle.tags.specs.Slots.{line_at, slot_of_offsets, slot_of_byte_counts}
use Rattle.tags.specs.Numbers.{numbers_of, bits_of, bits_in, numbers_in, eleven_of, Countable, is_tiled, twelve_of, twelve_in}
use Rattle.paper.specs.Judge.{table_rules}
use Rattle.paper.specs.Tag
use Rattle.layout.specs.Repeats.{later_texts}
use Rattle.layout.specs.declared.Further.{Further}
use Rattle.layout.proofs.Repeats.{FurtherHolds, further-holds}
use Rattle.tags.specs.Tagging.{families_of, view_of, picture_of, tagged_of, Fitting}
use Rattle.tags.proofs.Families.{Alone, families-refuse, mixed-kept, nine-kept, ten-kept, families-fit}
use Rattle.tags.proofs.Rules.{eleven-is, cut-tiled, twelve-is}
use Rattle.tags.proofs.Fetched.{numbers-are, bits-same, count_at, offsets-same, byte-counts-same}
use Rattle.tags.proofs.Kept.{in-range, eleven-gives}

-- the further entries of 50909 lie in the file
pub later-holds : {f : List ℕ} {big : Bool} {at c : ℕ} {found : List Entry} {g : Further} → Ready table f big at c found
    → Behind f big at c g → FurtherHolds f big at c g
unfolding entries_at
later-holds {f} {big} {at} {c} r w = further-holds f big at c r.whole r.few w.six w.is

-- what the test of them asks
pub later_lent : {f : List ℕ} {big : Bool} {at c : ℕ} {found : List Entry} {g : Further} → Ready table f big at c found
    → Behind f big at c g → {later : List ℕ} → later ≡ run f g.start (12 * g.many) → (12 * g.many ≤ length later) × (g.many ≤ 1024)
later_lent {f} {g = g} r w e =
    let h = later-holds r w in
    let l = ap length e ∙ run-length-in f g.start (12 * g.many) h.room in
    (omega arith, h.few)

-- a rule with nothing in front of it
alone : (m : Bool) (p : ℕ) → breaks m p ≡ first_of (kept ∷ breaks m p ∷ [])
unfolding first_of
alone true p = refl
alone false p = refl

-- rules 27, 9 and 10 of the first entry of each tag refuse, or are kept and the entries of 50909 behind the first are tested
module _ {f : List ℕ} {big : Bool} {at c : ℕ} {found : List Entry} (r : Ready table f big at c found) {g : Further} (w : Behind f big at c g)
    {rows : List Row} (l : Lined rows table) where
  pub refused-families : {e : Verdict} → Err e ≡ families_of rows found → Err e ≡ tagged_of (view_of table f big at c)
  unfolding tagged_of table
  refused-families h = families-refuse image_values table-named r l w.six _ h

  module _ {t : Bool} (is : Ok t ≡ families_of rows found) {later : List ℕ} (is_later : later ≡ run f g.start (12 * g.many)) (x : Row)
      (said : says x (line_at Index.metadata) ≡ true) {n : Bool} (is-n : n ≡ some_misfit x big later 0 g.many) where
    -- the entries of 50909 behind the first
    abbrev Misfit : Bool
    Misfit = some (λ e. not (fits_the_line (line_at Index.metadata) e)) (later_texts (entries_at f big at c))

    misfit-same : n ≡ Misfit
    unfolding entries_at
    misfit-same =
        is-n
        ∙ ap (λ (s : List ℕ). some_misfit x big s 0 g.many) is_later
        ∙ later-misfits x (line_at Index.metadata) said big g.start g.many (run f g.start (12 * g.many)) (later-holds r w).are

    ten-same : breaks n Tag.metadata ≡ rule10 table (held_at table f big at c)
    unfolding line_at table first_of
    ten-same =
        let first : ten_of rows found ≡ kept = ten-kept image_values table-named r l is in
        rw misfit-same (alone Misfit Tag.metadata ∙ ap (λ (o : Outcome). first_of (o ∷ breaks Misfit Tag.metadata ∷ [])) (sym first) ∙ ten-is r w.six l)

    mixed : rule27 (held_at table f big at c) ≡ kept
    unfolding table
    mixed = mixed-kept image_values table-named r l is

    nine : rule9 table (held_at table f big at c) ≡ kept
    unfolding table
    nine = nine-kept image_values table-named r l is

    fits : rule10 table (held_at table f big at c) ≡ kept → Fitting table f big at c t found
    unfolding table
    fits ten = families-fit image_values table-named r l is ten

    pub refused-later : n ≡ true → Err (verdict 10 Tag.metadata) ≡ tagged_of (view_of table f big at c)
    unfolding tagged_of view_of table_rules first ruled
    refused-later b = rw (mixed, nine, ← ten-same, b)

    pub fitting : n ≡ false → Fitting table f big at c t found
    fitting b = fits (sym ten-same ∙ ap (λ (x : Bool). breaks x Tag.metadata) b)

-- the numbers and the bits that were fetched, and what rule 11 says of them
module _ {f : List ℕ} {big : Bool} {at c : ℕ} {t : Bool} {found : List Entry} (w : Fitting table f big at c t found)
    {n : Numbers} (is-n : n ≡ numbers_in big f t found) {b : Bits}
    {part : List ℕ} (is-part : part ≡ run f (at_slot found Index.bits).start (at_slot found Index.bits).len) (is_b : b ≡ bits_in big (at_slot found Index.bits).count part)
    {o : Outcome} (is-o : o ≡ eleven_of n b.allowed) where
  abbrev Hs : List Held
  Hs = held_at table f big at c

  n-same : n ≡ numbers_of big Hs
  unfolding table
  n-same = is-n ∙ numbers-are image_values table-named w

  b-same : b ≡ bits_of big Hs
  unfolding table
  b-same = bits-same image_values table-named w is-part is_b

  eleven-same : o ≡ rule11 table big Hs
  eleven-same =
      is-o
      ∙ ap₂ (λ (m : Numbers) (x : Bits). eleven_of m x.allowed) n-same b-same
      ∙ eleven-is big Hs w.twenty_seven w.nine w.ten

  pub refused-eleven : {e : Verdict} → Err e ≡ Alone 11 o → Err e ≡ tagged_of (view_of table f big at c)
  unfolding tagged_of view_of table_rules first
  refused-eleven h = rw (w.twenty_seven, w.nine, w.ten, ← eleven-same) (rule-refuses 11 o _ _ _ h)

  module _ (h : o ≡ kept) where
    pub countable : Countable n
    unfolding eleven_of
    countable =
        let a = eleven-gives image_values n b.allowed kept (sym is-o ∙ h) in
        record {
          width = (in-range 1 1000000 n.width a.width).1;
          length = (in-range 1 1000000 n.length a.length).1;
          cut = a.cut;
        }

    -- with the counts of 258, of the offsets and of the byte counts
    module _ {u : Outcome} (is-u : u ≡ twelve_in n b found) where
      twelve-same : u ≡ rule12 big Hs
      unfolding table numbers_of
      twelve-same =
          let bits = count_at image_values table-named w Index.bits (lit< tt) in
          let offsets = offsets-same image_values table-named w in
          let bytecounts = byte-counts-same image_values table-named w in
          let k : is_tiled n.cut ≡ t = ap (λ (m : Numbers). is_tiled m.cut) n-same ∙ cut-tiled big Hs ∙ sym w.tiled_is in
          is-u
          ∙ ap (λ (x : Bool). twelve_of n b (at_slot found Index.bits).count (at_slot found (slot_of_offsets x)).count (at_slot found (slot_of_byte_counts x)).count) k
          ∙ (λ z. twelve_of (n-same z) (b-same z) (bits z) (offsets z) (bytecounts z))
          ∙ twelve-is big Hs

      pub refused-twelve : {e : Verdict} → Err e ≡ Alone 12 u → Err e ≡ tagged_of (view_of table f big at c)
      unfolding tagged_of view_of table_rules first
      refused-twelve g = rw (w.twenty_seven, w.nine, w.ten, ← eleven-same, h, ← twelve-same) (rule-refuses 12 u _ _ _ g)

      pub accepted : u ≡ kept → Ok (record { size = record { width = n.width; length = n.length }; tiled = t }) ≡ tagged_of (view_of table f big at c)
      unfolding tagged_of picture_of view_of table_rules first ruled numbers_of
      accepted g = rw (w.twenty_seven, w.nine, w.ten, ← eleven-same, h, ← twelve-same, g, n-same, w.tiled_is)
