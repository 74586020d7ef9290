-- A number of w bytes as code spells it, byte by byte at p, p + 1, p + 2 ..: shown once over the order and the width. Assumes nothing.
use Prim.Native.Nat.{ℕ, zero, suc, ◌+◌, ◌*◌, ◌^◌}
use mathlib.Core.Path.{◌≡◌, refl, ap, ◌∙◌}
use mathlib.Core.Bool.{Bool, true, false}
use mathlib.Core.List.{List}
use native.Mathlib.Nat.{add-suc}
use native.Mathlib.Numerals.{add-one}
use lib.ListN.{get_or}
use Rattle.paper.specs.Bytes.{num}

-- a byte before a number of w bytes
abbrev before : Bool → ℕ → ℕ → ℕ → ℕ
before true w b n = b * 256 ^ w + n
before false w b n = b + 256 * n

module _ (s : List ℕ) (p : ℕ) where
  -- w bytes from p + k on
  abbrev from : Bool → ℕ → ℕ → ℕ
  from big zero k = 0
  from big (suc w) k = before big w (get_or s (p + k) 0) (from big w (suc k))

  first : (big : Bool) (w at : ℕ) → num big (suc w) s at ≡ before big w (get_or s at 0) (num big w s (suc at))
  unfolding num
  first true w at = refl
  first false w at = refl

  none : (big : Bool) (at : ℕ) → num big 0 s at ≡ 0
  unfolding num
  none true at = refl
  none false at = refl

  num-from : (big : Bool) (w k : ℕ) → num big w s (p + k) ≡ from big w k
  num-from big zero k = none big (p + k)
  num-from big (suc w) k =
      first big w (p + k) ∙ ap (before big w (get_or s (p + k) 0)) (ap (num big w s) (rw add-suc) ∙ num-from big w (suc k))

  pub spelled : (big : Bool) (w : ℕ) → num big (suc w) s p ≡ before big w (get_or s p 0) (from big w 1)
  spelled big w = first big w p ∙ ap (before big w (get_or s p 0)) (ap (num big w s) (rw add-one) ∙ num-from big w 1)
