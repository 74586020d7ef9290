-- A list that is written from the front, one element a turn: after i turns it is the first i of what g gives, and then what stood there.
-- Assumes nothing.
use Prim.Native.Nat.{ℕ, zero, suc, ◌+◌, ◌<◌}
use native.Mathlib.Nat.{not-suc-le-zero, le_of_suc-le-suc, zero-add}
use native.Mathlib.Numerals.{add-one}
use native.Mathlib.Omega.{arith}
use mathlib.Core.Path.{◌≡◌, refl, sym, ap, subst, ◌∙◌}
use mathlib.Core.List.{List, [], ◌∷◌, ◌++◌}
use lib.ListN.{length, set, drop}
use Rattle.paper.specs.Bytes.{build}
use Rattle.paper.proofs.Laws.{length-build}

module _ {X : Type 0} where
  -- one more at the end
  build-last : (g : ℕ → X) (i k : ℕ) → build g i (suc k) ≡ build g i k ++ (g (i + k) ∷ [])
  unfolding build
  build-last g i zero = ap (λ (n : ℕ). g n ∷ []) (omega arith)
  build-last g i (suc k) =
      ap (λ (l : List X). g i ∷ l) (build-last g (suc i) k ∙ ap (λ (n : ℕ). build g (suc i) k ++ (g n ∷ [])) (omega arith))

  -- a store right behind us
  set_after : (us ds : List X) (d y : X) → set (us ++ (d ∷ ds)) (length us) y ≡ (us ++ (y ∷ [])) ++ ds
  set_after [] ds d y = refl
  set_after (u ∷ us) ds d y = ap (λ (t : List X). u ∷ t) (set_after us ds d y)

  set_next : (i : ℕ) (ys us : List X) (y : X) → i < length ys
      → set (us ++ drop i ys) (length us) y ≡ (us ++ (y ∷ [])) ++ drop (suc i) ys
  set_next i [] us y l = absurd (not-suc-le-zero l)
  set_next zero (x ∷ ys) us y l = set_after us ys x y
  set_next (suc i) (x ∷ ys) us y l = set_next i ys us y (le_of_suc-le-suc l)

  filled-suc : (g : ℕ → X) (i : ℕ) (ys : List X) → i < length ys
      → set (build g 0 i ++ drop i ys) i (g i) ≡ build g 0 (suc i) ++ drop (suc i) ys
  filled-suc g i ys l =
      subst (λ (k : ℕ). set (build g 0 i ++ drop i ys) k (g i) ≡ (build g 0 i ++ (g i ∷ [])) ++ drop (suc i) ys) (length-build g 0 i)
      (set_next i ys (build g 0 i) (g i) l)
      ∙ ap (λ (us : List X). us ++ drop (suc i) ys)
      (ap (λ (n : ℕ). build g 0 i ++ (g n ∷ [])) (sym (zero-add i)) ∙ sym (build-last g 0 i))

  -- a store of element i
  pub filled_more : (g : ℕ → X) (i : ℕ) (ys : List X) (r : X) → r ≡ g i → i < length ys
      → set (build g 0 i ++ drop i ys) i r ≡ build g 0 (i + 1) ++ drop (i + 1) ys
  filled_more g i ys r e l =
      ap (λ (x : X). set (build g 0 i ++ drop i ys) i x) e
      ∙ subst (λ (k : ℕ). set (build g 0 i ++ drop i ys) i (g i) ≡ build g 0 k ++ drop k ys) (sym (add-one i)) (filled-suc g i ys l)
