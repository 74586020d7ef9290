-- The search for a key among key entries, from the first to the last; and what is found is the paper's entry: where there is none, the paper's is that of
-- key 0. Assumes nothing.
use Prim.Native.Nat.{ℕ, ◌+◌, ◌-◌, ◌≤◌, ◌<◌}
use mathlib.Core.Path.{◌≡◌, refl}
use mathlib.Core.Bool.{Bool, true, false, cond}
use mathlib.Core.List.{List, [], ◌∷◌}
use native.Mathlib.Omega.{arith}
use lib.Dec.{eqb}
use borrow.Author.Tests.{eqb-true}
use Rattle.std.proofs.Common.{Some, None}
use Rattle.std.specs.Prelude.{MatchOption}
use Rattle.paper.specs.Bytes.{build}
use Rattle.paper.specs.Keys.{key_at, find_key, no_key_entry}
use Rattle.paper.specs.declared.KeyEntry.{KeyEntry}
use Rattle.paper.proofs.Laws.{build-step}
use Rattle.paper.proofs.Loops.{build-end}
use Rattle.keys.specs.Pass.{runs}
use Rattle.texts.specs.Finding.{with_key}

-- ---- the entries of a directory, from i on

abbrev pub rest : Bool → List ℕ → ℕ → ℕ → List KeyEntry
rest big d c i = build (key_at (runs big d [] [])) i (c - i)

-- no entry before entry i has key k
abbrev pub Sought : ℕ → Bool → List ℕ → ℕ → ℕ → Type 0
Sought k big d c i = with_key k (build (key_at (runs big d [] [])) 0 c) ≡ with_key k (rest big d c i)

pub one-first : (big : Bool) (d : List ℕ) (c i : ℕ) → i < c → rest big d c i ≡ key_at (runs big d [] []) i ∷ rest big d c (i + 1)
one-first big d c i h = build-step (key_at (runs big d [] [])) i c h

pub none-left : (big : Bool) (d : List ℕ) (c i : ℕ) → c ≤ i → i ≤ c → rest big d c i ≡ []
none-left big d c i h l = let e : i ≡ c = omega arith in rw e (build-end (key_at (runs big d [] [])) c)

-- what `find_key` asks of all that
pub ruleset turns = (one-first, none-left)

-- ---- what is found is the paper's entry

entry-is : (k : ℕ) (es : List KeyEntry)
    → MatchOption (with_key k es) (find_key k es ≡ no_key_entry) (λ x. (x ≡ find_key k es) × (x.key ≡ k))
unfolding with_key find_key
entry-is k [] = refl
entry-is k (e ∷ es) = pick (eqb e.key k) refl (entry-is k es)
  where
    pick : (b : Bool) → eqb e.key k ≡ b
        → MatchOption (with_key k es) (find_key k es ≡ no_key_entry) (λ x. (x ≡ find_key k es) × (x.key ≡ k))
        → MatchOption (cond b (Some e) (with_key k es)) (cond b e (find_key k es) ≡ no_key_entry)
        (λ x. (x ≡ cond b e (find_key k es)) × (x.key ≡ k))
    pick true t h = (refl, eqb-true _ _ t)
    pick false t h = h

module _ (k : ℕ) (es : List KeyEntry) where
  pub some-found : (x : KeyEntry) → Some x ≡ with_key k es → (x ≡ find_key k es) × (x.key ≡ k)
  some-found x h = rw (← h) at (entry-is k es)

  pub none_found : None ≡ with_key k es → find_key k es ≡ no_key_entry
  none_found h = rw (← h) at (entry-is k es)
