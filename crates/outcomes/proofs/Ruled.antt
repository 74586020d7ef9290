-- What code answers of rules that are judged one after the other. Assumes nothing.
use Rattle.std.specs.Prelude.{◌≡◌, ℕ, ◌<◌, Bool, true, false, eqb, cond, Result, Ok, Err}
use mathlib.Core.Path.{refl, ap}
use borrow.Author.Rules.{rules}
use borrow.Author.Tests.{eq-eqb}
use Rattle.paper.specs.declared.Verdict.{Verdict}
use Rattle.paper.specs.declared.Outcome.{Outcome}
use Rattle.paper.specs.declared.Outcome.TheVariants.{Kept as kept, Broken as broken}
use Rattle.paper.specs.Outcome.{or_else, verdict, ◌▷◌}
use Rattle.outcomes.specs.Ruled.{ruled}

-- what was found where no rule is broken
found : {A : Type 0} → A → Result A Verdict → A
found d (Ok a) = a
found d (Err v) = d

-- the verdict of a refusal
told : {A : Type 0} → Verdict → Result A Verdict → Verdict
told d (Ok a) = d
told d (Err v) = v

-- the first verdict refuses, and so it is answered
pub first-refuses : {A B : Type 0} (v w : Verdict) (a : A) (b : B) (e : Verdict) → Err e ≡ ruled v a → Err e ≡ ruled (v ▷ w) b
unfolding ruled told
first-refuses v w a b e h = go (eqb v.number 0) refl h
  where
    go : (t : Bool) → eqb v.number 0 ≡ t → Err e ≡ cond t (Ok a) (Err v) → Err e ≡ cond (eqb (cond t w v).number 0) (Ok b) (Err (cond t w v))
    go true p h = search (rules, h)
    go false p h = rw p (ap Err (ap (told v) h))

-- it does not, and so the second says what is answered
pub first-kept : {A B : Type 0} (v w : Verdict) (a x : A) (b : B) → Ok x ≡ ruled v a → ruled (v ▷ w) b ≡ ruled w b
unfolding ruled
first-kept v w a x b h = go (eqb v.number 0) refl h
  where
    go : (t : Bool) → eqb v.number 0 ≡ t → Ok x ≡ cond t (Ok a) (Err v) → cond (eqb (cond t w v).number 0) (Ok b) (Err (cond t w v)) ≡ cond (eqb w.number 0) (Ok b) (Err w)
    go true p h = refl
    go false p h = search (rules, h)

-- and what was found is told
pub found-ruled : {A : Type 0} (v : Verdict) (a x : A) → Ok x ≡ ruled v a → (v.number ≡ 0) × (x ≡ a)
unfolding ruled found
found-ruled v a x h = go (eqb v.number 0) refl h
  where
    go : (t : Bool) → eqb v.number 0 ≡ t → Ok x ≡ cond t (Ok a) (Err v) → (v.number ≡ 0) × (x ≡ a)
    go true p h = (search (rules, p), ap (found a) h)
    go false p h = search (rules, h)

pub broken-ruled : {A : Type 0} (v : Verdict) (a : A) (e : Verdict) → Err e ≡ ruled v a → (v.number ≡ 0 → ⊥) × (e ≡ v)
unfolding ruled told
broken-ruled v a e h = go (eqb v.number 0) refl h
  where
    go : (t : Bool) → eqb v.number 0 ≡ t → Err e ≡ cond t (Ok a) (Err v) → (v.number ≡ 0 → ⊥) × (e ≡ v)
    go true p h = search (rules, h)
    go false p h = (λ z. search (rules, p, z), ap (told v) h)

-- no rule is broken
pub kept-ruled : {A : Type 0} (v : Verdict) (a : A) → v.number ≡ 0 → ruled v a ≡ Ok a
unfolding ruled
kept-ruled v a z = rw (eq-eqb v.number 0 z)

-- what would have been found does not matter to a refusal
pub other-refuses : {A B : Type 0} (v : Verdict) (a : A) (b : B) (e : Verdict) → Err e ≡ ruled v a → Err e ≡ ruled v b
unfolding ruled told
other-refuses v a b e h = go (eqb v.number 0) refl h
  where
    go : (t : Bool) → eqb v.number 0 ≡ t → Err e ≡ cond t (Ok a) (Err v) → Err e ≡ cond (eqb v.number 0) (Ok b) (Err v)
    go true p h = search (rules, h)
    go false p h = rw p (ap Err (ap (told v) h))

-- ---- one rule in front of others

-- where it is broken it is answered
pub rule-refuses : {A : Type 0} (k : ℕ) (o : Outcome) (w : Verdict) (a : A) (e : Verdict) → Err e ≡ ruled (or_else k o (verdict 0 0)) (tt {0})
    → Err e ≡ ruled (or_else k o w) a
unfolding ruled told
rule-refuses k kept w a e h = search (rules, h)
rule-refuses k (broken p) w a e h = go (eqb k 0) refl h
  where
    go : (t : Bool) → eqb k 0 ≡ t → Err e ≡ cond t (Ok (tt {0})) (Err (verdict k p)) → Err e ≡ cond (eqb k 0) (Ok a) (Err (verdict k p))
    go true q h = search (rules, h)
    go false q h = rw q (ap Err (ap (told (verdict k p)) h))

-- and where nothing is answered it is kept
pub rule-kept : (k : ℕ) (o : Outcome) → 0 < k → (x : Unit {0}) → Ok x ≡ ruled (or_else k o (verdict 0 0)) (tt {0}) → o ≡ kept
unfolding ruled
rule-kept k kept some x h = refl
rule-kept k (broken p) some x h = grind (rules, h, some)
