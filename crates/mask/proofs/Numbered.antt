-- What code answers of a mask's rules that are judged one after the other. Assumes nothing.
use Rattle.std.specs.Prelude.{ℕ, ◌≡◌, Bool, true, false, eqb, cond, Result, Ok, Err}
use mathlib.Core.Path.{refl, sym, ap, ◌∙◌}
use borrow.Author.Rules.{rules}
use borrow.Author.Tests.{ne_eqb}
use Rattle.paper.specs.declared.Verdict.{Verdict}
use Rattle.paper.specs.Outcome.{◌▷◌}
use Rattle.std.specs.Result.{MatchResult, IsErrAnd}
use Rattle.outcomes.specs.Ruled.{ruled}
use Rattle.outcomes.proofs.Ruled.{broken-ruled}
use Rattle.mask.specs.Masking.{numbered}

-- what was found where no rule is broken
found : {A : Type 0} → A → Result A ℕ → A
found d (Ok a) = a
found d (Err k) = d

-- and then none is
pub found-numbered : {A : Type 0} (v : Verdict) (a x : A) → Ok x ≡ numbered v a → (v.number ≡ 0) × (x ≡ a)
unfolding numbered found
found-numbered v a x h = go (eqb v.number 0) refl h
  where
    go : (t : Bool) → eqb v.number 0 ≡ t → Ok x ≡ cond t (Ok a) (Err v.number) → (v.number ≡ 0) × (x ≡ a)
    go true p h = (search (rules, p), ap (found a) h)
    go false p h = search (rules, h)

-- a verdict that refuses
pub refused : {A : Type 0} (v : Verdict) (a : A) → (v.number ≡ 0 → ⊥) → Err v.number ≡ numbered v a
unfolding numbered
refused v a n = rw (ne_eqb v.number 0 n)

-- the first verdict refuses, and so its number is answered
pub first-refuses : {A B : Type 0} (v w : Verdict) (a : A) (b : B) (k : ℕ) → Err k ≡ numbered v a → Err k ≡ numbered (v ▷ w) b
unfolding numbered
first-refuses v w a b k h = go (eqb v.number 0) refl h
  where
    go : (t : Bool) → eqb v.number 0 ≡ t → Err k ≡ cond t (Ok a) (Err v.number) → Err k ≡ cond (eqb (cond t w v).number 0) (Ok b) (Err (cond t w v).number)
    go true p h = search (rules, h)
    go false p h = rw p (cc)

-- it does not, and so the second says what is answered
pub first-kept : {A B : Type 0} (v w : Verdict) (a x : A) (b : B) → Ok x ≡ numbered v a → numbered (v ▷ w) b ≡ numbered w b
unfolding numbered
first-kept v w a x b h = go (eqb v.number 0) refl h
  where
    go : (t : Bool) → eqb v.number 0 ≡ t → Ok x ≡ cond t (Ok a) (Err v.number)
        → cond (eqb (cond t w v).number 0) (Ok b) (Err (cond t w v).number) ≡ cond (eqb w.number 0) (Ok b) (Err w.number)
    go true p h = refl
    go false p h = search (rules, h)

-- a refusal that is told by its number alone
pub number-told : {A : Type 0} (v : Verdict) (a : A) (e : Verdict) → Err e ≡ ruled v a → Err e.number ≡ numbered v a
number-told v a e h = let b = broken-ruled v a e h in ap (λ (x : Verdict). Err x.number) b.1 ∙ refused v a b.0

-- what `map_err` was asked of, where it answers a refusal and where it answers none
module _ (Gives : Verdict → ℕ → Type 0) {A : Type 0} (r : Result A Verdict) (m : Result A ℕ)
    (mapped : MatchResult r (λ x. m ≡ Ok x) (λ v. IsErrAnd m (Gives v))) where
  pub map-refused : {k : ℕ} → m ≡ Err k → (v : Verdict) × (Err v ≡ r) × Gives v k
  map-refused = go r mapped
    where
      go : (r : Result A Verdict) → MatchResult r (λ x. m ≡ Ok x) (λ v. IsErrAnd m (Gives v)) → {k : ℕ} → m ≡ Err k → (v : Verdict) × (Err v ≡ r) × Gives v k
      go (Ok x) h e = search (rules, h, e)
      go (Err v) h e = (v, refl, rw e at h)

  pub map-passed : {x : A} → m ≡ Ok x → Ok x ≡ r
  unfolding found
  map-passed = go r mapped
    where
      go : (r : Result A Verdict) → MatchResult r (λ x. m ≡ Ok x) (λ v. IsErrAnd m (Gives v)) → {x : A} → m ≡ Ok x → Ok x ≡ r
      go (Ok y) h {x} e = ap Ok (ap (found x) (sym e ∙ h))
      go (Err v) h e = absurd (rw e at h)
