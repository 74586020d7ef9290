-- The judgement without C-14: rule 8 wants next offset 0, directly behind rule 7, and no mask is looked for; every other rule is the verdict's own. A file
-- whose next offset is 0 has the same verdict and place from both, and only one that was refused by 8 can have another. Assumes nothing.
use Prim.Native.Nat.{ℕ}
use mathlib.Core.Path.{◌≡◌, refl, sym, ◌∙◌}
use mathlib.Core.Bool.{Bool, true, false}
use mathlib.Core.List.{List}
use lib.Dec.{eqb}
use borrow.Author.Tests.{eqb-true, eq-eqb}
use Rattle.paper.specs.Outcome.{verdict, first, ◌▷◌}
use Rattle.paper.specs.Tests.{all}
use Rattle.paper.specs.Layout.{rule8}
use Rattle.paper.specs.Keys.{key_rules}
use Rattle.paper.specs.Judge.{head_in, next_in, view, next_rules, ground_rules, survey_rules, has_mask, rule28, verdict_of}
use Rattle.paper.specs.Judge.{head_stage, directory_stage, next_stage, picture_stage, survey_stage, image_stage, file_stage, mask_stage}
use Rattle.paper.proofs.First.{first-kept, kept-first, chain-both, chain-zero}
use Rattle.paper.specs.declared.Verdict.{Verdict}

unfoldable pub verdict_alone : List ℕ → Verdict
verdict_alone f = (head_stage f ▷ (directory_stage f (head_in f) ▷ (next_stage f (head_in f) ▷ picture_stage (view f)))) ▷ survey_stage (view f)

-- ---- where the next offset is 0

-- number 0 comes with place 0
own-zero : (f : List ℕ) → (file_stage f).number ≡ 0 → file_stage f ≡ verdict 0 0
unfolding file_stage survey_stage survey_rules key_rules ground_rules all
own-zero f z =
    let a = chain-both (image_stage f) (survey_stage (view f)) z in
    chain-zero (image_stage f) (survey_stage (view f)) a.0 ∙ first-kept (survey_rules (view f)) (kept-first (survey_rules (view f)) refl a.1)

file-alone : (f : List ℕ) → eqb (next_in f (head_in f)) 0 ≡ true → verdict_alone f ≡ file_stage f
unfolding verdict_alone file_stage image_stage next_stage next_rules rule8 first
file-alone f e = rw e

no-mask : (f : List ℕ) → eqb (next_in f (head_in f)) 0 ≡ true → verdict_of f ≡ file_stage f
unfolding verdict_of mask_stage rule28 has_mask first
no-mask f e = go (eqb (file_stage f).number 0) refl
  where
    go : (b : Bool) → eqb (file_stage f).number 0 ≡ b → verdict_of f ≡ file_stage f
    go true z = rw (z, e) (sym (own-zero f (eqb-true _ _ z)))
    go false z = rw z

alone : (f : List ℕ) → eqb (next_in f (head_in f)) 0 ≡ true → verdict_of f ≡ verdict_alone f
alone f e = no-mask f e ∙ sym (file-alone f e)

pub verdict-alone : (f : List ℕ) → next_in f (head_in f) ≡ 0 → verdict_of f ≡ verdict_alone f
verdict-alone f z = alone f (eq-eqb _ 0 z)

-- ---- where rule 8 does not refuse the file

-- an earlier rule refuses it
earlier : (h d x s m : Verdict) → ((h ▷ (d ▷ verdict 8 0)) ▷ s ≡ verdict 8 0 → ⊥) → ((h ▷ (d ▷ x)) ▷ s) ▷ m ≡ (h ▷ (d ▷ verdict 8 0)) ▷ s
earlier h d x s m n = go (eqb h.number 0) refl (eqb d.number 0) refl
  where
    go : (t : Bool) → eqb h.number 0 ≡ t → (u : Bool) → eqb d.number 0 ≡ u → ((h ▷ (d ▷ x)) ▷ s) ▷ m ≡ (h ▷ (d ▷ verdict 8 0)) ▷ s
    go false e u i = rw (e, e, e)
    go true e false i = rw (e, i, i, i)
    go true e true i = absurd (n (rw (e, i)))

pub verdict-eight : (f : List ℕ) → (verdict_alone f ≡ verdict 8 0 → ⊥) → verdict_of f ≡ verdict_alone f
unfolding verdict_of file_stage image_stage verdict_alone next_stage next_rules rule8 first
verdict-eight f n = go (eqb (next_in f (head_in f)) 0) refl
  where
    go : (b : Bool) → eqb (next_in f (head_in f)) 0 ≡ b → verdict_of f ≡ verdict_alone f
    go true e = alone f e
    go false e =
        rw e (earlier (head_stage f) (directory_stage f (head_in f)) (picture_stage (view f)) (survey_stage (view f)) (mask_stage f) (rw e at n))
