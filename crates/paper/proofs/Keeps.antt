-- Of a file with verdict 0, and of its mask: each rule is kept, by its name. The number behind `all-kept` is the rule's place in the list. Assumes nothing.
use Prim.Native.Nat.{ℕ}
use mathlib.Core.Path.{◌≡◌, refl, sym, ap, ◌∙◌}
use mathlib.Core.Bool.{true, false, not, ◌&&◌, false≢true}
use mathlib.Core.List.{List}
use lib.Dec.{eqb}
use lib.ListN.{length}
use borrow.Author.Tests.{eqb-true, eq-eqb, ne_eqb, not-false}
use Rattle.paper.specs.Outcome.{kept, broken, Rule, first, verdict}
use Rattle.paper.specs.Tests.{all}
use Rattle.paper.specs.Layout.{rule4, rule5, rule6, rule7}
use Rattle.paper.specs.Tags.{table, rule27, rule9, rule10, rule11, rule12}
use Rattle.paper.specs.Pieces.{rule13, rule14}
use Rattle.paper.specs.Keys.{keys, rule15, rule16, rule17, rule18, rule19}
use Rattle.paper.specs.Ground.{corners, rule20, rule21, rule22}
use Rattle.paper.specs.Judge.{rule28, head_in, head_of, count_in, entries_in, view, view_at, runs_of, survey_of, pieces_of, full_of, verdict_of}
use Rattle.paper.specs.Judge.{has_mask, mask_view, both_parts, both_pieces, mask_rules, mask_verdict, file_stage, mask_stage}
use Rattle.paper.specs.Asked.{AllKept, FirstBroken}
use Rattle.paper.proofs.Laws.{breaks-kept}
use Rattle.paper.proofs.First.{ruled, all-kept, first-broken, kept-first, mask-ruled, mask-rules}
use Rattle.paper.specs.declared.Verdict.{Verdict}

module _ (f : List ℕ) (z : (verdict_of f).number ≡ 0) where
  pub rule4-kept : rule4 (length f) (head_in f).at ≡ kept
  unfolding ruled head_in head_of
  rule4-kept = all-kept f z 3

  pub rule5-kept : rule5 (length f) (head_in f).at (count_in f (head_in f)) ≡ kept
  unfolding ruled head_in head_of
  rule5-kept = all-kept f z 4

  pub rule6-kept : rule6 (entries_in f (head_in f)) ≡ kept
  unfolding ruled
  rule6-kept = all-kept f z 5

  pub rule7-kept : rule7 (length f) (entries_in f (head_in f)) ≡ kept
  unfolding ruled head_in head_of
  rule7-kept = all-kept f z 6

  pub rule27-kept : rule27 (view f).held ≡ kept
  unfolding ruled
  rule27-kept = all-kept f z 7

  pub rule9-kept : rule9 table (view f).held ≡ kept
  unfolding ruled view view_at
  rule9-kept = all-kept f z 8

  pub rule10-kept : rule10 table (view f).held ≡ kept
  unfolding ruled view view_at
  rule10-kept = all-kept f z 9

  pub rule11-kept : rule11 table (head_in f).big (view f).held ≡ kept
  unfolding ruled view view_at
  rule11-kept = all-kept f z 10

  pub rule12-kept : rule12 (head_in f).big (view f).held ≡ kept
  unfolding ruled view view_at
  rule12-kept = all-kept f z 11

  pub rule13-kept : rule13 (length f) (pieces_of (view f)) ≡ kept
  unfolding ruled head_in head_of view view_at
  rule13-kept = all-kept f z 12

  pub rule14-kept : rule14 (full_of (view f)) (pieces_of (view f)) ≡ kept
  unfolding ruled
  rule14-kept = all-kept f z 13

  pub rule15-kept : rule15 (runs_of (view f)) ≡ kept
  unfolding ruled
  rule15-kept = all-kept f z 14

  pub rule16-kept : rule16 (keys (runs_of (view f))) ≡ kept
  unfolding ruled
  rule16-kept = all-kept f z 15

  pub rule17-kept : rule17 (runs_of (view f)) (keys (runs_of (view f))) ≡ kept
  unfolding ruled
  rule17-kept = all-kept f z 16

  pub rule18-kept : rule18 (keys (runs_of (view f))) ≡ kept
  unfolding ruled
  rule18-kept = all-kept f z 17

  pub rule19-kept : rule19 (keys (runs_of (view f))) ≡ kept
  unfolding ruled
  rule19-kept = all-kept f z 18

  pub rule20-kept : rule20 (survey_of (view f)) ≡ kept
  unfolding ruled
  rule20-kept = all-kept f z 19

  pub rule21-kept : rule21 (survey_of (view f)) ≡ kept
  unfolding ruled
  rule21-kept = all-kept f z 20

  pub rule22-kept : rule22 (corners (survey_of (view f))) ≡ kept
  unfolding ruled
  rule22-kept = all-kept f z 21

  pub rule28-kept : rule28 f ≡ kept
  unfolding ruled
  rule28-kept = all-kept f z 22

-- the rules of a mask whose verdict is 0
mask-kept : (f : List ℕ) → (first (mask_rules f)).number ≡ 0 → AllKept (mask_rules f)
unfolding mask-ruled all
mask-kept f = kept-first (mask_rules f) refl

-- Of its mask, where there is one.
module _ (f : List ℕ) (z : (verdict_of f).number ≡ 0) (there : has_mask f ≡ true) where
  pub mask-zero : (mask_verdict f).number ≡ 0
  unfolding rule28
  mask-zero =
      let k = breaks-kept (has_mask f && not (eqb (mask_verdict f).number 0)) (mask_verdict f).number (rule28-kept f z) in
      let m : not (eqb (mask_verdict f).number 0) ≡ false = rw there at k in
      eqb-true _ _ (not-false _ m)

  pub mask-all-kept : AllKept (mask_rules f)
  mask-all-kept = mask-kept f (ap (λ (v : Verdict). v.number) (sym (mask-rules f)) ∙ mask-zero)

  pub mask-rule13-kept : rule13 (length f) (pieces_of (mask_view f)) ≡ kept
  unfolding mask-ruled
  mask-rule13-kept = mask-all-kept 10

  pub mask-rule14-kept : rule14 (both_parts f) (both_pieces f) ≡ kept
  unfolding mask-ruled
  mask-rule14-kept = mask-all-kept 11

-- The mask breaks rule p first, and the file's own rules are kept.
pub mask-refused : (f : List ℕ) (p q : ℕ) → (file_stage f).number ≡ 0 → has_mask f ≡ true → FirstBroken (mask_rules f) p q → verdict_of f ≡ verdict 28 p
unfolding verdict_of mask_stage rule28 first
mask-refused f p q z there b =
    let e : mask_verdict f ≡ verdict p q = mask-rules f ∙ first-broken (mask_rules f) p q b in
    let k : (mask_verdict f).number ≡ p = ap (λ (v : Verdict). v.number) e in
    let n : eqb (mask_verdict f).number 0 ≡ false = ne_eqb _ 0 (λ y. none (all (sym (ap (λ (v : Verdict). v.number) (mask-rules f)) ∙ y))) in
    rw (eq-eqb (file_stage f).number 0 z, there, n, k)
  where
    none : AllKept (mask_rules f) → ⊥
    none a =
        let x : kept ≡ broken q = sym (a b.at) ∙ ap (λ (r : Rule). r.outcome) b.there in
        false≢true cc

    all : (first (mask_rules f)).number ≡ 0 → AllKept (mask_rules f)
    all = mask-kept f
