-- One law for each answer of rules 27 and 9 to 12 of a mask. Assumes nothing.
use Prim.Native.Nat.{ℕ, ◌<◌}
use mathlib.Core.Path.{◌≡◌, refl, sym, ap, ◌∙◌, subst}
use mathlib.Core.Bool.{Bool, true, false, cond, not, ◌&&◌, or-true}
use mathlib.Core.List.{List, [], ◌∷◌}
use lib.Dec.{eqb, lit<}
use lib.ListN.{length, get_or}
use borrow.Author.Tests.{eqb-true}
use Rattle.paper.specs.Outcome.{first_bad, verdict, or_else, first}
use Rattle.paper.specs.Tests.{all, just, allows}
use Rattle.paper.specs.Layout.{rule6}
use Rattle.paper.specs.Tag
use Rattle.paper.specs.Tags.{Line, line, yes, LONG, mask_values, mask_table, named, Held, find, value_of, values_of, tiled, disallowed, rule11, rule12}
use Rattle.paper.specs.Judge.{table_rules}
use Rattle.paper.specs.declared.Entry.{Entry}
use Rattle.paper.specs.declared.Outcome.{Outcome}
use Rattle.paper.specs.declared.Outcome.TheVariants.{Kept as kept, Broken as broken}
use Rattle.paper.specs.declared.Verdict.{Verdict}
use Rattle.paper.proofs.Laws.{and-eq, or_same}
use Rattle.paper.proofs.Bounds.{no_line}
use Rattle.lines.specs.Rows.{needed_by}
use Rattle.lines.specs.Lined.{says, all_say, text_last, Lined as LinedTable}
use Rattle.mask.specs.declared.table.TheConstants.{LINES}
use Rattle.lines.specs.Ready.{entries_at, held_at, at_slot, Ready}
use Rattle.lines.specs.declared.Line.{Line as Row}
use Rattle.lines.proofs.Slots.{Slot, slot}
use Rattle.lines.proofs.Ruled.{ten-once}
use Rattle.tags.specs.Index
use Rattle.tags.specs.Slots.{slot_of_offsets, slot_of_byte_counts}
use Rattle.tags.specs.Numbers.{CutReadable, cut_in, numbers_of, bits_of, numbers_in}
use Rattle.tags.specs.Numbers.{codings, rows_allowed, planar_allowed, tile_width_allowed, tile_length_allowed, Positive, pieces_by, count_of_pieces, eleven_by}
use Rattle.tags.specs.Tagging.{families_of, view_of, Fitting}
use Rattle.tags.specs.declared.Numbers.{Numbers}
use Rattle.tags.proofs.Families.{families-refuse, ten-kept, families-fit}
use Rattle.tags.proofs.Rules.{Lined, needed-lined, one-bad, eleven-by, twelve-is}
use Rattle.tags.proofs.Fetched.{single-is, number_is, readable, numbers-are, bits-same, bits-some, bits-end, bits-room, count_at, offsets-same, byte-counts-same}
use Rattle.tags.proofs.Kept.{Allowed, eleven-gives}
use Rattle.mask.specs.Values.{subfile, number_at, Sized, sized_in, Single258, all_one, single_in, Plain, plain_in, cut_allowed, agrees}
use Rattle.std.specs.Prelude.{Ok, Err}
use Rattle.mask.specs.Masking.{numbered, tagged_of}
use Rattle.tags.specs.declared.Cut.{Cut}
use Rattle.mask.proofs.Numbered.{number-told}
use Rattle.mask.proofs.Tested.{is_kept, kept-is, just-one, Tests, kept-eleven, cut-tests, in_order, one_bit, kept-twelve}

-- ---- the table

pub mask-named : (w l : ℕ) → all named (mask_table w l) ≡ true
unfolding all named mask_table
mask-named w l = refl

-- the rows of the code say what its lines say, which is all that rules 9 and 10 ask
said : (w l : ℕ) → all_say LINES (mask_table w l) ≡ true
unfolding all_say says needed_by mask_table
said w l = refl

pub lined : (w l : ℕ) → LinedTable LINES (mask_table w l)
unfolding mask_table text_last
lined w l = record { say = said w l; tags = mask-named w l; text = refl }

-- the line of 254
abbrev Kind : List Line
Kind = line Tag.subfile yes LONG LONG 1 1 (allows (just 4 ∷ [])) ∷ []

-- ---- a rule that is broken

told : (k : ℕ) → eqb k 0 ≡ false → (o : Outcome) (w : Verdict) (t : Bool) → is_kept o ≡ false → Err k ≡ numbered (or_else k o w) t
unfolding numbered
told k z kept w t h = cc
told k z (broken p) w t h = rw z

-- rules 27, 9 and 10 refuse, or are kept
module _ (wide long : ℕ) {f : List ℕ} {big : Bool} {at c : ℕ} {found : List Entry} (r : Ready (mask_table wide long) f big at c found)
    (six : rule6 (entries_at f big at c) ≡ kept) {rows : List Row} (l : LinedTable rows (mask_table wide long)) where
  pub refused-families : {e : Verdict} → Err e ≡ families_of rows found → Err e.number ≡ tagged_of (view_of (mask_table wide long) f big at c)
  unfolding tagged_of mask_table
  refused-families {e} h = number-told _ _ e (families-refuse (mask_values wide long) (mask-named wide long) r l six _ h)

  pub fitting : {t : Bool} → Ok t ≡ families_of rows found → Fitting (mask_table wide long) f big at c t found
  unfolding mask_table
  fitting is =
      let v = mask_values wide long in
      let n = mask-named wide long in
      families-fit v n r l is (sym (ten-once r six l refl) ∙ ten-kept v n r l is)

-- ---- the values

pub exactly : (x y : ℕ) → allows (just y ∷ []) x ≡ true → x ≡ y
exactly x y i = eqb-true x y (sym (just-one x y) ∙ i)

module _ (wide long : ℕ) {f : List ℕ} {big : Bool} {at c : ℕ} {t : Bool} {found : List Entry} (w : Fitting (mask_table wide long) f big at c t found) where
  abbrev Hs : List Held
  Hs = held_at (mask_table wide long) f big at c

  pub sized : Sized f found
  unfolding mask_table
  sized = let r = readable (mask_values wide long) (mask-named wide long) w in record { width = r.width; length = r.length }

  pub single : Single258 f found
  unfolding mask_table
  single =
      let v = mask_values wide long in
      let n = mask-named wide long in
      record { size = w.ready.size; some = bits-some v n w; end = bits-end v n w; room = bits-room v n w }

  -- 254
  kind-slot : Slot f Hs found Tag.subfile subfile
  unfolding mask_table
  kind-slot = slot w.ready (mask-named wide long) subfile (lit< tt)

  kind-lined : Lined Hs Tag.subfile 4 4 1 1
  unfolding mask_table
  kind-lined = needed-lined (mask_table wide long) (mask-named wide long) Hs w.ten w.nine subfile (lit< tt) refl

  either-lined : Lined Hs Tag.subfile 3 4 1 1
  either-lined =
      let g = kind-lined in
      record { present = g.present; kind = rw (or_same (eqb (find Tag.subfile Hs).entry.typ 4) g.kind, or-true); low = g.low; high = g.high }

  kind-is : number_at big f found subfile ≡ value_of big Tag.subfile Hs
  kind-is = number_is kind-slot big kind-lined

  pub plain : Plain f found
  unfolding mask_table
  plain =
      let r = readable (mask_values wide long) (mask-named wide long) w in
      record { compression = r.compression; photometric = r.photometric; samples = r.samples; planar = r.planar; kind = single-is kind-slot either-lined }

  pub cut-readable : CutReadable (length f) t found
  unfolding mask_table
  cut-readable = (readable (mask_values wide long) (mask-named wide long) w).cut

  numbers-same : numbers_in big f t found ≡ numbers_of big Hs
  unfolding mask_table
  numbers-same = numbers-are (mask_values wide long) (mask-named wide long) w

  bits-read : single_in big f found ≡ all_one (bits_of big Hs)
  unfolding mask_table single_in
  bits-read = ap all_one (bits-same (mask_values wide long) (mask-named wide long) w refl refl)

  some_bits : 0 < (at_slot found Index.bits).count
  unfolding mask_table
  some_bits = bits-some (mask_values wide long) (mask-named wide long) w

  bits-allowed : all_one (bits_of big Hs) ≡ all (allows (just 1 ∷ [])) (values_of big Tag.bits Hs)
  unfolding mask_table
  bits-allowed = one_bit big Hs (subst (λ (n : ℕ). 0 < n) (count_at (mask_values wide long) (mask-named wide long) w Index.bits (lit< tt)) some_bits)

  -- ---- rule 11

  abbrev Rest : Outcome
  Rest = cond (not (allows (just 4 ∷ []) (value_of big Tag.subfile Hs))) (broken Tag.subfile) kept

  eleven-is : eleven_by (mask_values wide long) (numbers_of big Hs) (all (allows (just 1 ∷ [])) (values_of big Tag.bits Hs)) Rest ≡ rule11 (mask_table wide long) big Hs
  unfolding mask_table first_bad
  eleven-is =
      let v = mask_values wide long in
      let rest : first_bad (disallowed big Hs) (λ l. l.tag) Kind ≡ Rest = rw (one-bad big Hs (get_or Kind 0 no_line) kind-lined) in
      ap (eleven_by v (numbers_of big Hs) (all (allows (just 1 ∷ [])) (values_of big Tag.bits Hs))) (sym rest)
      ∙ eleven-by v Kind (mask-named wide long) big Hs w.twenty_seven w.nine w.ten

  -- what it says of the values where it is kept
  pub allowed-where : rule11 (mask_table wide long) big (held_at (mask_table wide long) f big at c) ≡ kept
      → Allowed (mask_values wide long) (numbers_of big (held_at (mask_table wide long) f big at c))
      (all (allows (just 1 ∷ [])) (values_of big Tag.bits (held_at (mask_table wide long) f big at c)))
  allowed-where h = eleven-gives (mask_values wide long) (numbers_of big Hs) (all (allows (just 1 ∷ [])) (values_of big Tag.bits Hs)) Rest (eleven-is ∙ h)

  module _ {a b d e : Bool} (is-a : a ≡ sized_in big f wide long found) (is_b : b ≡ single_in big f found) (is-d : d ≡ plain_in big f found)
      {k : Cut} (is-k : k ≡ cut_in big f t found) (is-e : e ≡ cut_allowed k) where
    eleven-same : (a && b) && (d && e) ≡ is_kept (rule11 (mask_table wide long) big Hs)
    unfolding sized_in plain_in numbers_in
    eleven-same =
        let n = numbers_in big f t found in
        (λ z. (is-a z && (is_b ∙ bits-read ∙ bits-allowed) z) && (is-d z && (is-e ∙ ap cut_allowed is-k ∙ cut-tests n.cut) z))
        ∙ in_order (eqb n.width wide) (eqb n.length long) (all (allows (just 1 ∷ [])) (values_of big Tag.bits Hs)) (allows codings n.compression) (eqb n.photometric 4)
        (eqb n.samples 1) (rows_allowed n.cut) (planar_allowed n.planar) (tile_width_allowed n.cut) (tile_length_allowed n.cut) (eqb (number_at big f found subfile) 4)
        ∙ (λ z. Tests wide long (numbers-same z) (all (allows (just 1 ∷ [])) (values_of big Tag.bits Hs)) (kind-is z))
        ∙ sym (kept-eleven wide long (numbers_of big Hs) _ _)
        ∙ ap is_kept eleven-is

    pub refused-eleven : (a && b) && (d && e) ≡ false → Err 11 ≡ tagged_of (view_of (mask_table wide long) f big at c)
    unfolding tagged_of view_of table_rules first
    refused-eleven h =
        rw (w.twenty_seven, w.nine, w.ten)
        (told 11 refl (rule11 (mask_table wide long) big Hs) (or_else 12 (rule12 big Hs) (verdict 0 0)) (tiled Hs) (sym eleven-same ∙ h))

    -- ---- rule 12

    module _ (h : (a && b) && (d && e) ≡ true) where
      eleven-kept : rule11 (mask_table wide long) big Hs ≡ kept
      eleven-kept = kept-is _ (sym eleven-same ∙ h)

      allowed : Allowed (mask_values wide long) (numbers_of big Hs) (all (allows (just 1 ∷ [])) (values_of big Tag.bits Hs))
      allowed = allowed-where eleven-kept

      cut-same : k ≡ (numbers_of big Hs).cut
      unfolding numbers_in
      cut-same = is-k ∙ ap (λ (n : Numbers). n.cut) numbers-same

      pub positive : Positive k
      positive = subst Positive (sym cut-same) allowed.cut

      module _ {p : ℕ} (is-p : p ≡ pieces_by k wide long) {x y : ℕ} (is_x : x ≡ slot_of_offsets t) (is_y : y ≡ slot_of_byte_counts t) {u : Bool}
          (is-u : u ≡ agrees (at_slot found Index.bits).count (at_slot found x).count (at_slot found y).count p) where
        pieces-same : p ≡ count_of_pieces (numbers_of big Hs)
        pieces-same =
            let a = sym (exactly (numbers_of big Hs).width wide allowed.width) in
            let b = sym (exactly (numbers_of big Hs).length long allowed.length) in
            is-p ∙ (λ z. pieces_by (cut-same z) (a z) (b z))

        twelve-same : u ≡ is_kept (rule12 big Hs)
        unfolding mask_table all_one
        twelve-same =
            let v = mask_values wide long in
            let n = mask-named wide long in
            let bits = count_at v n w Index.bits (lit< tt) in
            let offsets = ap (λ (j : ℕ). (at_slot found j).count) is_x ∙ offsets-same v n w in
            let bytecounts = ap (λ (j : ℕ). (at_slot found j).count) is_y ∙ byte-counts-same v n w in
            let b = and-eq (bits_of big Hs).same _ (bits-allowed ∙ allowed.bits) in
            is-u
            ∙ (λ z. agrees (bits z) (offsets z) (bytecounts z) (pieces-same z))
            ∙ sym (kept-twelve (numbers_of big Hs) (bits_of big Hs) _ _ _ (exactly _ 1 allowed.samples) b.0 (eqb-true _ 1 b.1))
            ∙ ap is_kept (twelve-is big Hs)

        pub refused-twelve : u ≡ false → Err 12 ≡ tagged_of (view_of (mask_table wide long) f big at c)
        unfolding tagged_of view_of table_rules first
        refused-twelve g = rw (w.twenty_seven, w.nine, w.ten, eleven-kept) (told 12 refl (rule12 big Hs) (verdict 0 0) (tiled Hs) (sym twelve-same ∙ g))

        pub accepted : u ≡ true → Ok t ≡ tagged_of (view_of (mask_table wide long) f big at c)
        unfolding tagged_of numbered view_of table_rules first
        accepted g = rw (w.twenty_seven, w.nine, w.ten, eleven-kept, kept-is (rule12 big Hs) (sym twelve-same ∙ g), w.tiled_is)
