-- A pass from the last element to the first: the elements from i on, and what is told of a rule with one more in front. Assumes nothing.
use Prim.Native.Nat.{ℕ, ◌+◌, ◌-◌, ◌≤◌, ◌<◌}
use mathlib.Core.Path.{◌≡◌, refl, ap, ◌∙◌}
use mathlib.Core.Bool.{Bool, true, false, cond, not}
use mathlib.Core.List.{List, [], ◌∷◌}
use native.Mathlib.Omega.{arith}
use lib.Dec.{leb, ltb}
use borrow.Author.Tests.{lt-ltb, le-ltb, ltb-false, leb-true, leb-false, ne_eqb}
use Rattle.paper.specs.Bytes.{build}
use Rattle.paper.specs.Outcome.{ascending, ordered, ordered_from}
use Rattle.paper.specs.declared.Outcome.TheVariants.{Broken as broken}
use Rattle.paper.proofs.Laws.{build-step}
use Rattle.outcomes.specs.Told.{told_by}

-- element h - 1 comes in front of those from h on
pub step_back : {A : Type 0} (g : ℕ → A) (c h : ℕ) → 0 < h → h ≤ c → build g (h - 1) (c - (h - 1)) ≡ g (h - 1) ∷ build g h (c - h)
step_back g c h some few =
    let w : h - 1 + 1 ≡ h = omega arith in
    build-step g (h - 1) c (omega arith) ∙ ap (λ (j : ℕ). g (h - 1) ∷ build g j (c - j)) w

-- the first number; where there is none, one above every SHORT
unfoldable pub front : List ℕ → ℕ
front [] = 65536
front (b ∷ bs) = b

-- one of two numbers that are not above 65536
pub near : (bad : Bool) (place later : ℕ) {r : ℕ} → r ≡ cond bad place later → place ≤ 65536 → later ≤ 65536 → r ≤ 65536
near true place later e p l = omega arith
near false place later e p l = omega arith

-- broken at a SHORT, or else what is told of the later ones
pub told-or : (bad : Bool) (place later : ℕ) → place < 65536 → told_by (cond bad place later) ≡ cond bad (broken place) (told_by later)
unfolding told_by
told-or true place later l = rw (ne_eqb place 65536 (λ z. omega arith))
told-or false place later l = refl

-- whether numbers follow each other, with one more in front, which the number above every SHORT would follow
module _ (follows : ℕ → ℕ → Bool) (a : ℕ) (top : follows a 65536 ≡ true) where
  ordered-front : (bs : List ℕ) → cond (follows a (front bs)) (ordered follows bs) (broken (front bs)) ≡ ordered follows (a ∷ bs)
  unfolding front ordered ordered_from
  ordered-front [] = rw top
  ordered-front (b ∷ bs) = refl

  pub told-order : (next six : ℕ) (bs : List ℕ) → (follows a next ≡ false → next < 65536) → told_by six ≡ ordered follows bs → next ≡ front bs
      → told_by (cond (not (follows a next)) next six) ≡ ordered follows (a ∷ bs)
  told-order next six bs low known after = go (follows a next) refl ∙ rw (after, known) (ordered-front bs)
    where
      go : (b : Bool) → follows a next ≡ b → told_by (cond (not (follows a next)) next six) ≡ cond (follows a next) (told_by six) (broken next)
      go true e = rw e
      go false e = rw e (told-or true next six (low e))

-- whether they ascend
pub told-rise : (a next six : ℕ) (bs : List ℕ) → a < 65536 → told_by six ≡ ascending bs → next ≡ front bs
    → told_by (cond (leb next a) next six) ≡ ascending (a ∷ bs)
told-rise a next six bs h known after =
    ap (λ (b : Bool). told_by (cond b next six)) (turned (leb next a) refl)
    ∙ told-order ltb a (lt-ltb a 65536 h) next six bs (λ e. let l = ltb-false a next e in omega arith) known after
  where
    turned : (b : Bool) → leb next a ≡ b → leb next a ≡ not (ltb a next)
    turned true e = rw (e, le-ltb a next (leb-true next a e))
    turned false e = rw (e, lt-ltb a next (leb-false next a e))
