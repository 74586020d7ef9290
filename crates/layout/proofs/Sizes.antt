-- The length of a value, and rule 7 at one entry as code tests it: by the value's length first. Assumes nothing.
use Prim.Native.Nat.{ℕ, zero, suc, ◌+◌, ◌*◌, ◌≤◌, ◌<◌, zero-le, suc-le-suc}
use mathlib.Core.Path.{◌≡◌, refl}
use mathlib.Core.Bool.{Bool, true, false, ◌||◌}
use mathlib.Core.List.{List}
use native.Mathlib.Nat.{zero-mul, mul-zero, mul-le-mul}
use native.Mathlib.Omega.{arith}
use lib.Dec.{eqb, ltb}
use borrow.Author.Tests.{lt-ltb, le-ltb, eq-eqb, ne_eqb, ltb-true}
use Rattle.paper.specs.Layout.{odd, size_of, entry_of, bad_value}
use Rattle.paper.specs.declared.Entry.{Entry}

-- ---- the length of a value

-- an element's size times a LONG
pub value-length : (s k : ℕ) → s ≤ 8 → k < 4294967296 → s * k ≤ 34359738360
value-length s k hs hk = mul-le-mul {n₁ = s} {m₁ = k} {n₂ = 8} {m₂ = 4294967295} hs (omega arith)

-- a value that has bytes has a size and a count
both : (s k : ℕ) → 0 < s * k → (0 < s) × (0 < k)
both zero k h = absurd (omega (arith, zero-mul k))
both (suc s) zero h = absurd (omega (arith, mul-zero (suc s)))
both (suc s) (suc k) h = (suc-le-suc zero-le, suc-le-suc zero-le)

-- a value of none, but with a size, has count 0
none : (s k : ℕ) → s * k ≤ 0 → 0 < s → k ≡ 0
none s zero h p = refl
none zero (suc k) h p = absurd (omega arith)
none (suc s) (suc k) h p = absurd (omega (arith, mul-le-mul {n₁ = 1} {m₁ = 1} {n₂ = suc s} {m₂ = suc k} (suc-le-suc zero-le) (suc-le-suc zero-le)))

-- an entry's length, from its type and count
pub len_of : (big : Bool) (at : ℕ) (dir : List ℕ) (p : ℕ) (e : Entry) → e ≡ entry_of big at dir p → e.len ≡ size_of e.typ * e.count
unfolding entry_of
len_of big at dir p e is = rw is

-- ---- rule 7 at an entry whose value is far, near, or has no bytes

module _ (n : ℕ) (e : Entry) (is-len : e.len ≡ size_of e.typ * e.count) where
  some : 0 < e.len → (ltb 0 (size_of e.typ) ≡ true) × (eqb e.count 0 ≡ false)
  some h =
      let p : 0 < size_of e.typ * e.count = omega arith in
      let b = both (size_of e.typ) e.count p in
      let z : e.count ≡ 0 → ⊥ = λ q. omega (arith, b.1) in
      (lt-ltb _ _ b.0, ne_eqb _ _ z)

  pub bad-far : {r : Bool} → r ≡ (odd e.start || (ltb e.start 8 || ltb n (e.start + e.len))) → 4 < e.len → r ≡ bad_value n e
  unfolding bad_value
  bad-far is-r h = let s = some (omega arith) in rw (s.0, s.1, lt-ltb 4 e.len h) is-r

  pub bad-near : 0 < e.len → e.len ≤ 4 → false ≡ bad_value n e
  unfolding bad_value
  bad-near h l = let s = some h in rw (s.0, s.1, le-ltb 4 e.len l)

  pub bad-none : {s : ℕ} → s ≡ size_of e.typ → e.len ≤ 0 → ltb 0 s ≡ bad_value n e
  unfolding bad_value
  bad-none {s} is-s h = rw is-s (go (ltb 0 (size_of e.typ)) refl)
    where
      go : (b : Bool) → ltb 0 (size_of e.typ) ≡ b → ltb 0 (size_of e.typ) ≡ bad_value n e
      go false q = rw q
      go true q =
          let p : size_of e.typ * e.count ≤ 0 = omega arith in
          rw (q, eq-eqb e.count 0 (none (size_of e.typ) e.count p (ltb-true _ _ q)))
