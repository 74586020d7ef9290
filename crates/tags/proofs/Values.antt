-- The values that rules 11 and 12 ask for, as code tests and reads them. Assumes nothing.
use Prim.Native.Nat.{ℕ, ◌+◌, ◌-◌, ◌*◌, ◌≤◌, ◌<◌}
use mathlib.Core.Path.{◌≡◌, sym, ap, ◌∙◌}
use mathlib.Core.Bool.{Bool, true, ◌&&◌, ◌||◌, or-false, and-true, and_assoc}
use mathlib.Core.List.{List, [], ◌∷◌, map}
use native.Mathlib.Omega.{arith}
use lib.Dec.{eqb}
use Rattle.paper.specs.Bytes.{num, build, elems}
use Rattle.paper.specs.Tests.{all, some, just, allows}
use Rattle.paper.proofs.Laws.{just-is}
use Rattle.paper.proofs.Loops.{all-step, build-end}
use Rattle.tags.specs.Numbers.{depths, bits_in}

-- ---- one of some numbers

abbrev pub is_one : ℕ → ℕ → List ℕ → Bool
is_one v a [] = eqb v a
is_one v a (b ∷ bs) = eqb v a || is_one v b bs

pub one_of : (v a : ℕ) (bs : List ℕ) → is_one v a bs ≡ allows (map just (a ∷ bs)) v
unfolding allows some
one_of v a [] = rw (just-is v a, or-false (eqb v a))
one_of v a (b ∷ bs) = rw (just-is v a) (ap (λ (t : Bool). eqb v a || t) (one_of v b bs))

-- ---- a pass over k SHORTs

abbrev short_at : Bool → List ℕ → ℕ → ℕ
short_at big s j = num big 2 s (2 * j)

-- b is the test of those before i
pub record SoFar (s : List ℕ) (big : Bool) (k : ℕ) (ok : ℕ → Bool) (i : ℕ) (b : Bool) : Type 0 where
  pub same : b && all ok (build (short_at big s) i (k - i)) ≡ all ok (elems big 2 k s)

module _ {s : List ℕ} {big : Bool} {k : ℕ} {ok : ℕ → Bool} where
  pub so-far-none : SoFar s big k ok 0 true
  unfolding elems
  so-far-none = let e : k - 0 ≡ k = omega arith in record { same = rw e }

  pub so_far_more : {i v : ℕ} {b r : Bool} → i < k → v ≡ num big 2 s (2 * i) → r ≡ ok v → SoFar s big k ok i b → SoFar s big k ok (i + 1) (b && r)
  so_far_more {i} {v} {b} {r} l e t h =
      let rest = all ok (build (short_at big s) (i + 1) (k - (i + 1))) in
      let step : r && rest ≡ all ok (build (short_at big s) i (k - i)) = ap (λ (x : Bool). x && rest) (t ∙ ap ok e) ∙ sym (all-step ok (short_at big s) i k l) in
      record { same = and_assoc b r rest ∙ ap (λ (x : Bool). b && x) step ∙ h.same }

  so-far-all : {i : ℕ} {b : Bool} → k ≤ i → i ≤ k → SoFar s big k ok i b → b ≡ all ok (elems big 2 k s)
  unfolding all
  so-far-all {i} {b} l m h =
      let e : i ≡ k = omega arith in
      let z : all ok (build (short_at big s) i (k - i)) ≡ true = rw (e, build-end (short_at big s) k) in
      sym (and-true b) ∙ ap (λ (x : Bool). b && x) (sym z) ∙ h.same

pub bits-read : {s : List ℕ} {big : Bool} {k i first : ℕ} {allowed same : Bool} → k ≤ i → i ≤ k → first ≡ num big 2 s 0
    → SoFar s big k (allows depths) i allowed → SoFar s big k (eqb first) i same → record { first = first; allowed = allowed; same = same } ≡ bits_in big k s
unfolding bits_in
bits-read l m e a b = rw (so-far-all l m a, so-far-all l m b, e)
