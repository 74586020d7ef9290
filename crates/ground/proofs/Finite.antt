-- A computed double that std calls finite is finite, and the bits of a finite one are no NaN's. Assumes nothing.
use Rattle.std.specs.Prelude.{Float}
use Rattle.std.specs.Float.{float_is_finite}
use Prim.Native.Nat.{ℕ}
use mathlib.Core.Path.{◌≡◌, refl, sym, ◌∙◌}
use mathlib.Core.Bool.{Bool, true, false, not}
use lib.Dec.{T}
use lib.Ieee.{nan, inf, fin, binary64, of_bits, nan_bits}
use Rattle.paper.specs.Ground.{finite}
use Rattle.paper.proofs.Doubles.{finite-bits, finite-no-nan}

-- a test that was turned round
not-true : (a : Bool) → not a ≡ true → a ≡ false
not-true true h = sym h
not-true false h = refl

-- what `f64::from_bits` asks
pub no_nan : (b : ℕ) → finite (of_bits binary64 b) ≡ true → T (not (nan_bits binary64 b))
no_nan b h = rw (finite-no-nan b (not-true _ (sym (finite-bits b) ∙ h))) tt

pub same_finite : (x : Float) → float_is_finite x ≡ finite x
unfolding float_is_finite finite
same_finite nan = refl
same_finite (inf s) = refl
same_finite (fin s m e) = refl

-- the exponent's field alone decides
pub ruleset by_bits = (finite-bits)
