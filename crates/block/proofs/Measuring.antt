-- The pass before the writing: what an entry adds at most, and one turn of the loop: what is found from an entry on. Assumes nothing.
use Prim.Native.Nat.{ℕ, ◌+◌, ◌-◌, ◌≤◌, ◌<◌, zero-le}
use Rattle.std.specs.Prelude.{Result, Ok, Err}
use mathlib.Core.Path.{◌≡◌, refl, ap, ◌∙◌}
use mathlib.Core.Bool.{Bool, true, false, cond, not, ◌&&◌}
use mathlib.Core.List.{List, [], ◌∷◌}
use native.Mathlib.Nat.{add-zero, add_assoc}
use native.Mathlib.Omega.{arith}
use lib.Dec.{eqb, ltb}
use Rattle.paper.specs.Bytes.{build}
use Rattle.paper.specs.Outcome.{first_bad, verdict}
use Rattle.paper.specs.Keys.{key_at}
use Rattle.paper.specs.Block.{count_if_at, new_index, moved, too_far}
use Rattle.paper.specs.declared.Verdict.{Verdict}
use Rattle.paper.specs.declared.KeyEntry.{KeyEntry}
use Rattle.paper.proofs.Laws.{build-step}
use Rattle.keys.specs.Pass.{runs}
use Rattle.block.specs.Sizes.{total, next_of, measured}
use Rattle.block.specs.declared.Before.{Before}

-- ---- one entry

-- an entry has no more than its count at a location
pub few_at : (l : ℕ) (e : KeyEntry) → count_if_at l e ≤ e.count
unfolding count_if_at
few_at l e = pick (eqb e.location l)
  where
    pick : (b : Bool) → cond b e.count 0 ≤ e.count
    pick true = omega arith
    pick false = zero-le

-- whether its value would start too far, with b before
abbrev is-far : Before → KeyEntry → Bool
is-far b e = not (eqb e.location 0) && ltb 65535 (new_index b.shorts b.doubles b.characters e)

-- an entry in front of others
one-more : (b : Before) (e : KeyEntry) (es : List KeyEntry) → measured b (e ∷ es) ≡ cond (is-far b e) (Err (verdict 24 e.key)) (measured (next_of b e) es)
unfolding measured moved first_bad too_far total
one-more b e es = go (is-far b e) refl
  where
    go : (t : Bool) → is-far b e ≡ t → measured b (e ∷ es) ≡ cond (is-far b e) (Err (verdict 24 e.key)) (measured (next_of b e) es)
    go true p = rw p
    go false p = rw (p, add_assoc, add_assoc, add_assoc)

-- ---- the loop

module _ (directory : List ℕ) (big : Bool) (n : ℕ) where
  abbrev entry : ℕ → KeyEntry
  entry = key_at (runs big directory [] [])

  -- what is found from entry i on, with b before
  abbrev pub found_from : Before → ℕ → Result Before Verdict
  found_from b i = measured b (build entry i (n - i))

  pub found_more : (b : Before) (i : ℕ) → i < n → found_from b i ≡ cond (is-far b (entry i)) (Err (verdict 24 (entry i).key)) (found_from (next_of b (entry i)) (i + 1))
  found_more b i h = ap (measured b) (build-step entry i n h) ∙ one-more b (entry i) (build entry (i + 1) (n - (i + 1)))

  pub found_none : (b : Before) (i : ℕ) → n ≤ i → found_from b i ≡ Ok b
  unfolding measured moved first_bad total build
  found_none b i h =
      let e : n - i ≡ 0 = omega arith in
      rw (e, add-zero, add-zero, add-zero)

-- what `measure` asks of all that
pub ruleset found_turn = (few_at, found_more, found_none)
