-- Rules 27, 9 and 10 of the first entry of each tag: one law for each answer of the code, and what they say of the rules of the paper, for any table of a
-- picture whose rows say what its lines say. Assumes nothing.
use Prim.Native.Nat.{ℕ}
use mathlib.Core.Path.{◌≡◌, refl, sym, ap, ◌∙◌}
use mathlib.Core.Bool.{Bool, true, false, not, ◌&&◌, ◌||◌}
use mathlib.Core.List.{List, ◌∷◌}
use borrow.Author.Rules.{rules}
use Rattle.std.specs.Prelude.{Result, Ok, Err}
use Rattle.paper.specs.declared.Entry.{Entry}
use Rattle.paper.specs.declared.Verdict.{Verdict}
use Rattle.paper.specs.declared.Outcome.{Outcome}
use Rattle.paper.specs.declared.Outcome.TheVariants.{Kept as kept, Broken as broken}
use Rattle.paper.specs.Outcome.{breaks, first_of, first, or_else, verdict}
use Rattle.paper.specs.Tests.{all}
use Rattle.paper.specs.Layout.{rule6}
use Rattle.paper.specs.Tags.{Line, Values, picture_lines, named, Held, tiled, rule27, rule9, rule10}
use Rattle.paper.specs.Judge.{table_rules}
use Rattle.outcomes.specs.Ruled.{ruled}
use Rattle.outcomes.proofs.Ruled.{broken-ruled, rule-refuses}
use Rattle.lines.specs.Rows.{nine_of, ten_of}
use Rattle.lines.specs.Lined.{Lined}
use Rattle.lines.specs.declared.Line.{Line as Row}
use Rattle.lines.specs.Ready.{entries_at, held_at, Ready}
use Rattle.lines.proofs.Ruled.{nine-is, ten-is}
use Rattle.tags.specs.Slots.{strip_slots, tile_slots, some_at}
use Rattle.tags.specs.Tagging.{families_of, view_of, Fitting}
use Rattle.tags.proofs.Slots.{tiles-are, mixed-is}

-- what one rule by itself answers
abbrev pub Alone : ℕ → Outcome → Result (Unit {0}) Verdict
Alone k o = ruled (or_else k o (verdict 0 0)) (tt {0})

-- ---- the answers: which families are present, whether that breaks rule 27, and then what rules 9 and 10 say

module _ (rows : List Row) (found : List Entry) {s t m : Bool} (is-s : s ≡ some_at strip_slots found) (is-t : t ≡ some_at tile_slots found)
    (is_m : m ≡ (s && t) || (not s && not t)) where
  families-told : families_of rows found ≡ ruled (or_else 27 (breaks m 0) (or_else 9 (nine_of rows t found) (or_else 10 (ten_of rows found) (verdict 0 0)))) t
  unfolding families_of
  families-told = rw (is_m, is-s, is-t)

  pub refused-mixed : m ≡ true → Err (verdict 27 0) ≡ families_of rows found
  unfolding ruled
  refused-mixed h = rw (families-told, h)

  module _ (alike : m ≡ false) {o : Outcome} (is-o : o ≡ nine_of rows t found) where
    pub refused-nine : {e : Verdict} → Err e ≡ Alone 9 o → Err e ≡ families_of rows found
    refused-nine h = rw (families-told, alike, ← is-o) (rule-refuses 9 o _ _ _ h)

    module _ (h : o ≡ kept) {u : Outcome} (is-u : u ≡ ten_of rows found) where
      pub refused-ten : {e : Verdict} → Err e ≡ Alone 10 u → Err e ≡ families_of rows found
      refused-ten k = rw (families-told, alike, ← is-o, h, ← is-u) (rule-refuses 10 u _ _ _ k)

      pub in-families : u ≡ kept → Ok t ≡ families_of rows found
      unfolding ruled
      in-families k = rw (families-told, alike, ← is-o, h, ← is-u, k)

-- ---- what they say of the rules, where rule 10 asks for more behind the first entries

-- the three rules, one after the other
abbrev Three : Outcome → Outcome → Outcome → Verdict → Verdict
Three a b u w = or_else 27 a (or_else 9 b (or_else 10 u w))

-- a refusal is that of all rules
refuses : {A : Type 0} (a b u : Outcome) (os : List Outcome) (w : Verdict) (t : Bool) (x : A) {e : Verdict} → Err e ≡ ruled (Three a b u (verdict 0 0)) t
    → Err e ≡ ruled (Three a b (first_of (u ∷ os)) w) x
unfolding first_of ruled
refuses kept kept kept os w t x h = search (rules, h)
refuses kept kept (broken p) os w t x h = ap Err (broken-ruled (verdict 10 p) t _ h).1
refuses kept (broken p) u os w t x h = ap Err (broken-ruled (verdict 9 p) t _ h).1
refuses (broken p) b u os w t x h = ap Err (broken-ruled (verdict 27 p) t _ h).1

-- and else each is kept
record Through (a b u : Outcome) (t x : Bool) : Type 0 where
  first : a ≡ kept
  second : b ≡ kept
  third : u ≡ kept
  told : x ≡ t

passed : (a b u : Outcome) (t x : Bool) → Ok x ≡ ruled (Three a b u (verdict 0 0)) t → Through a b u t x
unfolding ruled
passed kept kept kept t x h = record { first = refl; second = refl; third = refl; told = search (rules, h) }
passed kept kept (broken p) t x h = search (rules, h)
passed kept (broken p) u t x h = search (rules, h)
passed (broken p) b u t x h = search (rules, h)

module _ (v : Values) {others : List Line} (names : all named (picture_lines v others) ≡ true) {f : List ℕ} {big : Bool} {at c : ℕ} {found : List Entry}
    (r : Ready (picture_lines v others) f big at c found) {rows : List Row} (l : Lined rows (picture_lines v others)) where
  abbrev Tb : List Line
  Tb = picture_lines v others

  abbrev Hs : List Held
  Hs = held_at Tb f big at c

  families-same : families_of rows found ≡ ruled (Three (rule27 Hs) (rule9 Tb Hs) (ten_of rows found) (verdict 0 0)) (tiled Hs)
  unfolding families_of
  families-same =
      let tiles = tiles-are v names r in
      let nine : nine_of rows (some_at tile_slots found) found ≡ rule9 Tb Hs = ap (λ (b : Bool). nine_of rows b found) tiles ∙ nine-is r l in
      λ i. ruled (Three (sym (mixed-is v names r) i) (nine i) (ten_of rows found) (verdict 0 0)) (tiles i)

  -- a refusal is that of the rules of the paper
  pub families-refuse : (six : rule6 (entries_at f big at c) ≡ kept) {A : Type 0} (a : A) {e : Verdict} → Err e ≡ families_of rows found
      → Err e ≡ ruled (first (table_rules (view_of (picture_lines v others) f big at c))) a
  unfolding view_of table_rules first
  families-refuse six a h = rw (← ten-is r six l) (refuses (rule27 Hs) (rule9 Tb Hs) (ten_of rows found) _ _ (tiled Hs) a (h ∙ families-same))

  module _ {t : Bool} (is : Ok t ≡ families_of rows found) where
    through : Through (rule27 Hs) (rule9 Tb Hs) (ten_of rows found) (tiled Hs) t
    through = passed _ _ _ _ _ (is ∙ families-same)

    pub mixed-kept : rule27 (held_at (picture_lines v others) f big at c) ≡ kept
    mixed-kept = through.first

    pub nine-kept : rule9 (picture_lines v others) (held_at (picture_lines v others) f big at c) ≡ kept
    nine-kept = through.second

    -- the first entries fit their lines
    pub ten-kept : ten_of rows found ≡ kept
    ten-kept = through.third

    -- and where all do, the directory keeps the three rules
    pub families-fit : rule10 (picture_lines v others) (held_at (picture_lines v others) f big at c) ≡ kept → Fitting (picture_lines v others) f big at c t found
    families-fit ten = record { ready = r; tiled_is = through.told; twenty_seven = through.first; nine = through.second; ten = ten }
