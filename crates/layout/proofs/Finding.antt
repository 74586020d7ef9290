-- The first entry of a tag, where there is one, and the slot of a tag. Assumes nothing.
use Prim.Native.Nat.{ℕ, zero, suc, ◌+◌, ◌≤◌, ◌<◌}
use mathlib.Core.Path.{◌≡◌, refl, sym, ap, ◌∙◌, subst}
use mathlib.Core.Bool.{Bool, true, false, cond, false≢true}
use mathlib.Core.List.{List, [], ◌∷◌}
use mathlib.Core.Logic.{◌⊎◌, inl, inr}
use native.Mathlib.Nat.{zero-add}
use native.Mathlib.Omega.{arith}
use lib.Dec.{eqb, ltb}
use lib.ListN.{length, get_or}
use borrow.Author.Tests.{eqb-true, eq-eqb, ltb-true}
use Rattle.std.specs.Prelude.{Some, None, unwrap_or}
use Rattle.paper.specs.Bytes.{build}
use Rattle.paper.specs.Layout.{entry_at, entries}
use Rattle.paper.specs.Tags.{absent}
use Rattle.paper.specs.declared.Entry.{Entry}
use Rattle.paper.specs.Tests.{all, index_of}
use Rattle.paper.proofs.Loops.{find_entry}
use Rattle.paper.proofs.Laws.{and-eq, all-at, length-build, get_or-build}
use Rattle.layout.specs.declared.Cell.{Cell}
use Rattle.layout.specs.Columns.{first_with}
use Rattle.layout.specs.Finding.{cell_of, at_cell, in_cell, slot_in, right, Celled, found_in}

-- ---- the first entry of a tag

-- the first entry of a tag is the one that the paper finds
pub first-entry : (t : ℕ) (es : List Entry) → first_with t es ≡ find_entry t es
unfolding first_with find_entry
first-entry t [] = refl
first-entry t (e ∷ es) = go (eqb e.tag t) refl (first-entry t es)
  where
    go : (b : Bool) → eqb e.tag t ≡ b → first_with t es ≡ find_entry t es → first_with t (e ∷ es) ≡ find_entry t (e ∷ es)
    go true p h = rw p
    go false p h = rw p h

-- where there is none, it is the one of zeros
pub found-first : (t : ℕ) (es : List Entry) → unwrap_or (found_in t es) absent.entry ≡ first_with t es
unfolding found_in first_with
found-first t [] = refl
found-first t (e ∷ es) = go (eqb e.tag t) refl (found-first t es)
  where
    go : (b : Bool) → eqb e.tag t ≡ b → unwrap_or (found_in t es) absent.entry ≡ first_with t es → unwrap_or (found_in t (e ∷ es)) absent.entry ≡ first_with t (e ∷ es)
    go true p h = rw p
    go false p h = rw p h

-- entries g i, g (i + 1), .., k of them: the first with tag t is entry j
record First (t : ℕ) (g : ℕ → Entry) (i k j : ℕ) : Type 0 where
  low : i ≤ j
  high : j < i + k
  entry : first_with t (build g i k) ≡ g j
  tag : (g j).tag ≡ t

first-from : (t : ℕ) (g : ℕ → Entry) (i k : ℕ) → (first_with t (build g i k) ≡ absent.entry) ⊎ ((j : ℕ) × First t g i k j)
unfolding first_with build
first-from t g i zero = inl refl
first-from t g i (suc k) = go (eqb (g i).tag t) refl (first-from t g (suc i) k)
  where
    go : (b : Bool) → eqb (g i).tag t ≡ b → ((first_with t (build g (suc i) k) ≡ absent.entry) ⊎ ((j : ℕ) × First t g (suc i) k j))
        → ((first_with t (build g i (suc k)) ≡ absent.entry) ⊎ ((j : ℕ) × First t g i (suc k) j))
    go true p h = inr (i, record { low = omega arith; high = omega arith; entry = rw p; tag = eqb-true _ _ p })
    go false p (inl none) = inl (rw p none)
    go false p (inr (j, f)) =
        inr (j, record { low = omega (arith, f.low); high = omega (arith, f.high); entry = rw p f.entry; tag = f.tag })

-- ---- for the functions that come after

-- the first entry with tag t of a directory of c entries is entry i
pub record Placed (t : ℕ) (big : Bool) (at c : ℕ) (dir : List ℕ) (i : ℕ) : Type 0 where
  pub low : i < c
  pub entry : first_with t (entries big at c dir) ≡ entry_at big at dir i
  pub tag : (entry_at big at dir i).tag ≡ t

-- there is none, or it is one of them
pub first-placed : (t : ℕ) (big : Bool) (at c : ℕ) (dir : List ℕ)
    → (first_with t (entries big at c dir) ≡ absent.entry) ⊎ ((i : ℕ) × Placed t big at c dir i)
unfolding entries
first-placed t big at c dir = go (first-from t (entry_at big at dir) 0 c)
  where
    go : ((first_with t (build (entry_at big at dir) 0 c) ≡ absent.entry) ⊎ ((j : ℕ) × First t (entry_at big at dir) 0 c j))
        → ((first_with t (build (entry_at big at dir) 0 c) ≡ absent.entry) ⊎ ((i : ℕ) × Placed t big at c dir i))
    go (inl none) = inl none
    go (inr (j, f)) = inr (j, record { low = omega (arith, f.high); entry = f.entry; tag = f.tag })

-- ---- the slot of a tag

-- a test that passes at each member of a table fails only at what is none
none_passes : (ok : ℕ → Bool) (ts : List ℕ) (x : ℕ) → all ok ts ≡ true → ok x ≡ false → index_of x ts ≡ length ts
unfolding all index_of
none_passes ok [] x h n = refl
none_passes ok (t ∷ ts) x h n = go (eqb x t) refl (none_passes ok ts x (and-eq (ok t) _ h).1 n)
  where
    go : (b : Bool) → eqb x t ≡ b → index_of x ts ≡ length ts → index_of x (t ∷ ts) ≡ length (t ∷ ts)
    go true e r = absurd (false≢true (sym n ∙ ap ok (eqb-true x t e) ∙ (and-eq (ok t) _ h).0))
    go false e r = rw e (ap suc r)

-- a test that passes for each number below n
passes_at : (ok : ℕ → Bool) (n : ℕ) → all ok (build (λ c. c) 0 n) ≡ true → (c : ℕ) → c < n → ok c ≡ true
passes_at ok n h c l =
    let e : get_or (build (λ (c : ℕ). c) 0 n) c 0 ≡ c = get_or-build (λ (c : ℕ). c) 0 0 n c l ∙ zero-add c in
    subst (λ (x : ℕ). ok x ≡ true) e (all-at ok (build (λ (c : ℕ). c) 0 n) 0 h c (subst (λ (m : ℕ). c < m) (sym (length-build (λ (c : ℕ). c) 0 n)) l))

module _ {factor : ℕ} {cells : List Cell} {ts : List ℕ} (is : Celled factor cells ts) where
  cell-low : (t : ℕ) → cell_of factor t < 32
  unfolding cell_of
  cell-low t = omega arith

  -- the slot in the cell of a tag that stands there
  held : (t : ℕ) → in_cell factor cells t ≡ true → ((at_cell factor cells t).slot ≡ index_of t ts) × ((at_cell factor cells t).slot < length ts)
  unfolding in_cell right
  held t h =
      let has : (at_cell factor cells t).tag ≡ t = eqb-true _ _ h in
      let own : cell_of factor (at_cell factor cells t).tag ≡ cell_of factor t = ap (cell_of factor) has in
      let r : right factor cells ts (cell_of factor t) ≡ true = passes_at (right factor cells ts) 32 is.rights (cell_of factor t) (cell-low t) in
      let both = and-eq (ltb (at_cell factor cells t).slot (length ts)) _ (rw (eq-eqb _ _ own) at r) in
      (eqb-true _ _ both.1 ∙ ap (λ (x : ℕ). index_of x ts) has, ltb-true _ _ both.0)

  -- a tag that has no slot is none of them
  pub slot-none : (t : ℕ) → slot_in factor cells t ≡ None → length ts ≤ index_of t ts
  unfolding slot_in
  slot-none t h = go (in_cell factor cells t) refl h
    where
      go : (b : Bool) → in_cell factor cells t ≡ b → cond b (Some (at_cell factor cells t).slot) None ≡ None → length ts ≤ index_of t ts
      go true p h = cc
      go false p h = omega (arith, none_passes (in_cell factor cells) ts t is.stand p)

  -- and one that has is that of its slot
  pub slot-some : (t : ℕ) {k : ℕ} → slot_in factor cells t ≡ Some k → (k ≡ index_of t ts) × (k < length ts)
  unfolding slot_in
  slot-some t {k} h = go (in_cell factor cells t) refl h
    where
      go : (b : Bool) → in_cell factor cells t ≡ b → cond b (Some (at_cell factor cells t).slot) None ≡ Some k → (k ≡ index_of t ts) × (k < length ts)
      go true p h = let e : (at_cell factor cells t).slot ≡ k = cc in rw e at (held t p)
      go false p h = cc
