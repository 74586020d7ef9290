-- What a pass that refuses nothing says of values: each entry's value lies in the file, and what `value` hands back is what the rules after 8
-- call the tag's bytes. Assumes nothing.
use Prim.Native.Nat.{ℕ, zero, suc, ◌+◌, ◌*◌, ◌≤◌, ◌<◌}
use mathlib.Core.Path.{◌≡◌, refl}
use mathlib.Core.Bool.{Bool, true, false}
use mathlib.Core.List.{List, map}
use native.Mathlib.Nat.{zero-mul}
use native.Mathlib.Omega.{arith}
use lib.Dec.{eqb}
use borrow.Author.Tests.{eqb-true, ltb-false}
use Rattle.std.specs.Prelude.{Ok}
use Rattle.paper.specs.Bytes.{run, num, build}
use Rattle.paper.specs.Outcome.{first}
use Rattle.paper.specs.declared.Outcome.TheVariants.{Kept as kept}
use Rattle.paper.specs.declared.Entry.{Entry}
use Rattle.paper.specs.Layout.{dir_len, size_of, start_of, entry_of, entry_at, entries, typed, rule6, rule7}
use Rattle.paper.specs.Tests.{all}
use Rattle.paper.specs.Tags.{Line, in_table, listed, hold, find, bytes_of}
use Rattle.paper.specs.Judge.{Head, entry_rules}
use Rattle.paper.proofs.Bounds.{entry-inside}
use Rattle.paper.proofs.First.{kept-first}
use Rattle.outcomes.specs.Ruled.{ruled}
use Rattle.outcomes.proofs.Ruled.{found-ruled}
use Rattle.layout.specs.Columns.{first_with}

-- where rules 6 and 7 answer no verdict, both are kept
module _ (h : Head) (es : List Entry) {x : Unit {0}} (good : Ok x ≡ ruled (first (entry_rules h es)) (tt {0})) where
  none-broken : (first (entry_rules h es)).number ≡ 0
  none-broken = (found-ruled (first (entry_rules h es)) (tt {0}) x good).0

  pub six-kept : rule6 es ≡ kept
  unfolding entry_rules all
  six-kept = kept-first (entry_rules h es) refl none-broken 0

  pub seven-kept : rule7 h.size es ≡ kept
  unfolding entry_rules all
  seven-kept = kept-first (entry_rules h es) refl none-broken 1

-- ---- an entry of another type than 1 to 12 has no value bytes

module _ (big : Bool) (at : ℕ) (dir : List ℕ) (p : ℕ) where
  pub untyped-len : typed (entry_of big at dir p) ≡ false → (entry_of big at dir p).len ≡ 0
  unfolding entry_of
  untyped-len h =
      let z : size_of (num big 2 dir (p + 2)) ≡ 0 = omega (arith, ltb-false 0 (size_of (num big 2 dir (p + 2))) h) in
      rw z (zero-mul (num big 4 dir (p + 4)))

  empty-start : (entry_of big at dir p).len ≡ 0 → (entry_of big at dir p).start ≡ at + (p + 8)
  unfolding entry_of start_of
  empty-start h = rw h

-- ---- the value of an entry lies in the file

module _ (n at c : ℕ) (big : Bool) (dir : List ℕ) (low : 8 ≤ at) (fits : at + dir_len c ≤ n) (seven : rule7 n (entries big at c dir) ≡ kept) where
  pub entry-within : (i : ℕ) → i < c → (entry_at big at dir i).start + (entry_at big at dir i).len ≤ n
  entry-within i l = go (typed (entry_at big at dir i)) refl
    where
      go : (b : Bool) → typed (entry_at big at dir i) ≡ b → (entry_at big at dir i).start + (entry_at big at dir i).len ≤ n
      go true q = (entry-inside n at c big dir low fits seven i l q).high
      go false q =
          let z = untyped-len big at dir (2 + 12 * i) q in
          omega (arith, z, empty-start big at dir (2 + 12 * i) z)

-- ---- the bytes of a tag of the table are the run that its entry names; with no entry they are none

module _ (tb : List Line) (f : List ℕ) (t : ℕ) (m : in_table tb t ≡ true) where
  abbrev Named : List Entry → Type 0
  Named es = (find t (map (hold tb f) es)).bytes ≡ run f (first_with t es).start (first_with t es).len

  bytes-from : (g : ℕ → Entry) → ((j : ℕ) → typed (g j) ≡ false → (g j).len ≡ 0) → (i k : ℕ) → Named (build g i k)
  unfolding build find first_with hold listed
  bytes-from g u i zero = refl
  bytes-from g u i (suc k) = go (eqb (g i).tag t) refl (typed (g i)) refl (bytes-from g u (suc i) k)
    where
      here : eqb (g i).tag t ≡ true → in_table tb (g i).tag ≡ true
      here q = rw (eqb-true (g i).tag t q) m

      go : (b : Bool) → eqb (g i).tag t ≡ b → (y : Bool) → typed (g i) ≡ y → Named (build g (suc i) k) → Named (build g i (suc k))
      go true q true y r = rw (q, here q, y)
      go true q false y r = rw (q, here q, y, u i y)
      go false q true y r = rw q r
      go false q false y r = rw q r

pub found-bytes : (tb : List Line) (f : List ℕ) (t : ℕ) (big : Bool) (at c : ℕ) (dir : List ℕ) → in_table tb t ≡ true
    → bytes_of t (map (hold tb f) (entries big at c dir)) ≡ run f (first_with t (entries big at c dir)).start (first_with t (entries big at c dir)).len
unfolding entries
found-bytes tb f t big at c dir m = bytes-from tb f t m (entry_at big at dir) (λ j. untyped-len big at dir (2 + 12 * j)) 0 c
