-- One turn of the pass over the key entries, from the last to the first: what is known of the entries from i on, and what one entry more in
-- front makes of it. Assumes nothing.
use Prim.Native.Nat.{ℕ, ◌-◌, ◌<◌, ◌≤◌}
use mathlib.Core.Path.{◌≡◌, refl, sym, ap, ◌∙◌}
use mathlib.Core.Bool.{Bool, true, false, cond, not}
use mathlib.Core.List.{List, [], ◌∷◌, map}
use native.Mathlib.Nat.{sub-zero}
use lib.Dec.{eqb, ltb}
use borrow.Author.Tests.{ltb-true, ltb-false}
use Rattle.std.proofs.lemmas.Bool.{lt-leb, le-leb}
use Rattle.std.specs.Prelude.{Option, Some, None, IfSome}
use Rattle.paper.specs.Bytes.{build}
use Rattle.paper.specs.Outcome.{first_bad, ascending, ordered, ordered_from}
use Rattle.paper.specs.Key
use Rattle.paper.specs.Keys.{Runs, short_kind, known_keys, kind_in, kind_of, short, key_at, room, right_place, misplaced, rule16, rule17}
use Rattle.paper.specs.declared.KeyEntry.{KeyEntry}
use Rattle.paper.specs.declared.Outcome.{Outcome}
use Rattle.paper.specs.declared.Outcome.TheVariants.{Kept as kept, Broken as broken}
use Rattle.paper.proofs.Loops.{build-end}
use Rattle.outcomes.proofs.Back.{step_back}
use Rattle.keys.specs.declared.Found.{Found}
use borrow.Author.Tests.{ne_eqb}
use Rattle.keys.specs.Pass.{runs, Head, rise_of, place_of, entries_judged, held, found_in, found_with, finished}
use Rattle.keys.proofs.Numbers.{needed-is, allowed-is, held-is}

-- the first of the keys, if there is one
abbrev pub front : List ℕ → Option ℕ
front [] = None
front (b ∷ bs) = Some b

-- keys that ascend, with one more in front
rise-is : (a : ℕ) (bs : List ℕ) → rise_of a (front bs) (ascending bs) ≡ ascending (a ∷ bs)
unfolding ordered ordered_from
rise-is a [] = refl
rise-is a (b ∷ bs) = go (ltb a b) refl
  where
    go : (t : Bool) → ltb a b ≡ t → rise_of a (Some b) (ascending (b ∷ bs)) ≡ ascending (a ∷ b ∷ bs)
    go true p = rw (lt-leb b a (ltb-true a b p), p)
    go false p = rw (le-leb b a (ltb-false a b p), p)

-- ---- the entries of a directory, from i on

-- an entry is read out of the key directory alone
pub entry-any : (big : Bool) (d x t : List ℕ) (i : ℕ) → key_at (runs big d [] []) i ≡ key_at (runs big d x t) i
unfolding key_at short
entry-any big d x t i = refl

abbrev pub rest : Bool → List ℕ → ℕ → ℕ → List KeyEntry
rest big d c i = build (key_at (runs big d [] [])) i (c - i)

-- before entry i - 1 is looked at
pub record Passing (big : Bool) (d x t : List ℕ) (c i : ℕ) (a b : Outcome) (n : Option ℕ) (f : Found) : Type 0 where
  pub few : i ≤ c
  pub near : IfSome n (λ k. k < 65536)
  pub rises : a ≡ rule16 (rest big d c i)
  pub placed : b ≡ rule17 (runs big d x t) (rest big d c i)
  pub after : n ≡ front (map (λ e. e.key) (rest big d c i))
  pub numbers : f ≡ found_in (rest big d c i)

-- ---- one entry more in front

pub one-more : (big : Bool) (d : List ℕ) (c h : ℕ) → 0 < h → h ≤ c → rest big d c (h - 1) ≡ key_at (runs big d [] []) (h - 1) ∷ rest big d c h
one-more big d c h p q = step_back (key_at (runs big d [] [])) c h p q

pub rule16-more : (e : KeyEntry) (es : List KeyEntry) → rule16 (e ∷ es) ≡ rise_of e.key (front (map (λ e. e.key) es)) (rule16 es)
unfolding rule16
rule16-more e es = sym (rise-is e.key (map (λ x. x.key) es))

pub rule17-more : (big : Bool) (d x t : List ℕ) (e : KeyEntry) (es : List KeyEntry)
    → rule17 (runs big d x t) (e ∷ es) ≡ place_of (right_place (runs false d x t) e (kind_of e.key)) e.key (rule17 (runs big d x t) es)
unfolding rule17 first_bad misplaced right_place room
rule17-more big d x t e es = go (right_place (runs big d x t) e (kind_of e.key))
  where
    go : (p : Bool) → cond (not p) (broken e.key) (rule17 (runs big d x t) es) ≡ cond p (rule17 (runs big d x t) es) (broken e.key)
    go true = refl
    go false = refl

pub numbers-more : (e : KeyEntry) (es : List KeyEntry) → found_in (e ∷ es) ≡ found_with e (found_in es)
unfolding held
numbers-more e es = refl

pub numbers-same : (e : KeyEntry) (f : Found) → (kind_of e.key ≡ short_kind → ⊥) → found_with e f ≡ f
unfolding kind_of kind_in known_keys
numbers-same e f n =
    let other : (a : ℕ) → kind_of a ≡ short_kind → eqb e.key a ≡ false = λ a s. ne_eqb e.key a (λ q. n (ap kind_of q ∙ s)) in
    rw (
      other Key.model_type refl,
      other Key.raster_type refl,
      other Key.geodetic_crs refl,
      other Key.angular_units refl,
      other Key.projected_crs refl,
      other Key.linear_units refl,
      other Key.vertical_crs refl,
    )

-- ---- no entry

pub none-left : (big : Bool) (d : List ℕ) (c : ℕ) → rest big d c c ≡ []
none-left big d c = build-end (key_at (runs big d [] [])) c

pub rule16-none : rule16 [] ≡ kept
unfolding rule16 ordered
rule16-none = refl

pub rule17-none : (r : Runs) → rule17 r [] ≡ kept
unfolding rule17 first_bad
rule17-none r = refl

pub held-none : (k : ℕ) → held k [] ≡ None
unfolding held
held-none k = refl

-- ---- all entries

pub all-seen : (big : Bool) (d x t : List ℕ) (h : Head)
    → entries_judged (runs big d x t) h ≡ finished (rule16 (rest big d h.count 0)) (rule17 (runs big d x t) (rest big d h.count 0)) (found_in (rest big d h.count 0)) h
unfolding entries_judged finished key_at short
all-seen big d x t h =
    let ks = build (key_at (runs big d x t)) 0 h.count in
    rw (sub-zero, needed-is ks, allowed-is ks, held-is Key.raster_type 2 ks refl)

-- what `judge_entries` asks of all that
pub ruleset turns = (none-left, rule16-none, rule17-none, held-none, one-more, rule16-more, rule17-more, numbers-more, numbers-same, all-seen)
