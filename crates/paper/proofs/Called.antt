-- A call's answer where the rules of a file are kept, and where one is broken; and that the judgement's verdict is that of the rules.
-- Assumes nothing.
use Prim.Native.Nat.{ℕ}
use mathlib.Core.Path.{◌≡◌, refl, sym, ◌∙◌}
use mathlib.Core.Bool.{Bool, true, false}
use mathlib.Core.List.{List}
use borrow.Author.Tests.{eq-eqb, ne_eqb, eqb-true}
use Rattle.paper.specs.Outcome.{verdict}
use Rattle.paper.specs.Judge.{View, view, verdict_of, rules}
use Rattle.paper.specs.Calls.{accepts, answer, judged_of, judged_in}
use Rattle.paper.proofs.First.{first-kept, verdict-rules, all-kept}
use Rattle.paper.specs.declared.Verdict.{Verdict}

pub answer-good : {A : Type 0} (f : List ℕ) (good : View → A) (bad : Verdict → A) → (verdict_of f).number ≡ 0 → answer f good bad ≡ good (view f)
unfolding answer
answer-good f good bad z = rw (eq-eqb (verdict_of f).number 0 z)

pub answer-bad : {A : Type 0} (f : List ℕ) (good : View → A) (bad : Verdict → A) → ((verdict_of f).number ≡ 0 → ⊥) → answer f good bad ≡ bad (verdict_of f)
unfolding answer
answer-bad f good bad n = rw (ne_eqb (verdict_of f).number 0 n)

-- number 0 comes with place 0
pub accepted-place : (f : List ℕ) → (verdict_of f).number ≡ 0 → verdict_of f ≡ verdict 0 0
accepted-place f z = verdict-rules f ∙ first-kept (rules f) (all-kept f z)

pub judged-verdict : (f : List ℕ) → (judged_of f).verdict ≡ verdict_of f
unfolding judged_of judged_in answer
judged-verdict f = go (accepts (verdict_of f)) refl
  where
    go : (b : Bool) → accepts (verdict_of f) ≡ b → (judged_of f).verdict ≡ verdict_of f
    go true e = rw e (sym (accepted-place f (eqb-true _ _ e)))
    go false e = rw e
