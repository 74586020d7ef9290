-- What is read of a run: its doubles, one after the other, and whether all of them are finite. Assumes nothing.
use Prim.Native.Nat.{ℕ, ◌*◌, ◌/◌, ◌<◌}
use mathlib.Core.Path.{◌≡◌, refl, sym, ap, ◌∙◌}
use mathlib.Core.Bool.{Bool, true, not, ◌&&◌, and-true, and_assoc}
use mathlib.Core.List.{List, [], ◌∷◌}
use native.Mathlib.Omega.{arith}
use lib.Dec.{T}
use lib.ListN.{length, get_or}
use lib.Ieee.{Float, binary64, of_bits, nan_bits}
use Rattle.std.specs.List.{fold}
use Rattle.std.proofs.Common.{zero-add}
use Rattle.std.proofs.lemmas.List.{ext_get_or}
use Rattle.paper.specs.Bytes.{num, elems, build}
use Rattle.paper.specs.Tests.{all}
use Rattle.paper.specs.Ground.{zero64, double, finite, all_finite}
use Rattle.paper.proofs.Laws.{length-build, get_or-build, all-at}
use Rattle.ground.specs.Answer.{Holds}
use Rattle.ground.specs.Steps.{finite_bits, numbers}
use Rattle.ground.proofs.Finite.{no_nan}

-- a fold that leaves off no test
fold-all : (ok : ℕ → Bool) (a : Bool) (bs : List ℕ) → fold (λ r b. r && ok b) a bs ≡ a && all ok bs
unfolding all
fold-all ok a [] = sym (and-true a)
fold-all ok a (b ∷ bs) = fold-all ok (a && ok b) bs ∙ and_assoc a (ok b) (all ok bs)

abbrev is_finite : ℕ → Bool
is_finite b = finite (of_bits binary64 b)

-- what `f64::from_bits` asks of each
pub each_finite : (bs : List ℕ) (k : ℕ) → finite_bits bs ≡ true → k < length bs → T (not (nan_bits binary64 (get_or bs k 0)))
each_finite bs k h l = no_nan _ (all-at is_finite bs 0 (sym (fold-all is_finite true bs) ∙ h) k l)

-- a run with no double
pub none_finite : (big : Bool) → all_finite big [] ≡ true
unfolding all_finite elems build all
none_finite big = refl

module _ (big : Bool) (s : List ℕ) where
  -- double k of a run
  pub number_at : (k : ℕ) (d : Float) → k < length s / 8 → get_or (numbers big s) k d ≡ double big s k
  number_at k d few = get_or-build (double big s) d 0 (length s / 8) k few ∙ ap (double big s) (zero-add k)

  -- and its bits
  elems-at : (n k : ℕ) → k < n → get_or (elems big 8 n s) k 0 ≡ num big 8 s (8 * k)
  unfolding elems
  elems-at n k l = get_or-build (λ (i : ℕ). num big 8 s (8 * i)) 0 0 n k l ∙ ap (λ (j : ℕ). num big 8 s (8 * j)) (zero-add k)

  pub elems_are : (n : ℕ) (bs : List ℕ) → length bs ≡ n → ((k : ℕ) → k < n → get_or bs k 0 ≡ num big 8 s (8 * k)) → bs ≡ elems big 8 n s
  unfolding elems
  elems_are n bs l h =
      ext_get_or 0 bs (elems big 8 n s) (l ∙ sym (length-build _ 0 n)) (λ k m. let few : k < n = omega arith in h k few ∙ sym (elems-at n k few))

  module _ (n : ℕ) where
    pub run-finite : Holds (8 * n) s → finite_bits (elems big 8 n s) ≡ all_finite big s
    unfolding all_finite
    run-finite sized =
        let many : length s / 8 ≡ n = omega arith in
        rw many (fold-all is_finite true (elems big 8 n s))

    pub numbers-are : (d : List Float) → Holds (8 * n) s → length d ≡ n → ((k : ℕ) → k < n → get_or d k zero64 ≡ of_bits binary64 (get_or (elems big 8 n s) k 0))
        → d ≡ numbers big s
    unfolding double
    numbers-are d sized l f =
        let many : length s / 8 ≡ n = omega arith in
        let each : (k : ℕ) → k < length d → get_or d k zero64 ≡ get_or (numbers big s) k zero64 =
        λ k m. let few : k < n = omega arith in
        let some : k < length s / 8 = omega arith in
        f k few ∙ ap (of_bits binary64) (elems-at n k few) ∙ sym (number_at k zero64 some) in
        ext_get_or zero64 d (numbers big s) (l ∙ sym many ∙ sym (length-build _ 0 (length s / 8))) each

-- what `doubles` asks of its run
pub ruleset made = (each_finite, run-finite, numbers-are)
