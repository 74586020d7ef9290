-- What a loop over i, from 0 up to c, has to do with a list that is built by index, and what one over the entries of a directory finds with no value
-- bytes in hand. Assumes nothing.
use Prim.Native.Nat.{ℕ, ◌+◌, ◌-◌, ◌<◌}
use mathlib.Core.Path.{◌≡◌, refl, ap}
use mathlib.Core.Bool.{Bool, true, false, cond, ◌&&◌}
use mathlib.Core.List.{List, [], ◌∷◌, map}
use native.Mathlib.Nat.{sub_self}
use lib.Dec.{eqb}
use Rattle.paper.specs.Bytes.{build}
use Rattle.paper.specs.Tests.{all, some, keep}
use Rattle.paper.specs.Tags.{Line, hold, find, absent, listed}
use Rattle.paper.specs.Pieces.{Part, part, value_parts}
use Rattle.paper.proofs.Laws.{build-step}
use Rattle.paper.specs.declared.Entry.{Entry}

-- nothing is left at the end
pub build-end : {A : Type 0} (g : ℕ → A) (c : ℕ) → build g c (c - c) ≡ []
unfolding build
build-end g c = rw sub_self

-- a test of all, one turn
pub all-step : {A : Type 0} (ok : A → Bool) (g : ℕ → A) (i c : ℕ) → i < c
    → all ok (build g i (c - i)) ≡ ok (g i) && all ok (build g (i + 1) (c - (i + 1)))
unfolding all
all-step ok g i c h = ap (all ok) (build-step g i c h)

-- ---- the directory's entries, without their value bytes

-- the entry of a tag, found among entries alone
unfoldable pub find_entry : ℕ → List Entry → Entry
find_entry t [] = absent.entry
find_entry t (e ∷ es) = cond (eqb e.tag t) e (find_entry t es)

pub find-entry : (tb : List Line) (f : List ℕ) (t : ℕ) (es : List Entry) → (find t (map (hold tb f) es)).entry ≡ find_entry t es
unfolding find find_entry hold
find-entry tb f t [] = refl
find-entry tb f t (e ∷ es) = go (eqb e.tag t) refl (find-entry tb f t es)
  where
    go : (b : Bool) → eqb e.tag t ≡ b → (find t (map (hold tb f) es)).entry ≡ find_entry t es → (find t (map (hold tb f) (e ∷ es))).entry ≡ find_entry t (e ∷ es)
    go true p x = rw p
    go false p x = rw p x

-- whether some value on the reading list meets a test, for rule 14
abbrev pub listed_is : List Line → (Part → Bool) → Entry → Bool
listed_is tb is e = listed tb e && is (part e.start e.len)

pub some-values : (tb : List Line) (is : Part → Bool) (f : List ℕ) (es : List Entry) → some is (value_parts tb (map (hold tb f) es)) ≡ some (listed_is tb is) es
unfolding some value_parts keep hold
some-values tb is f [] = refl
some-values tb is f (e ∷ es) = go (listed tb e) refl (some-values tb is f es)
  where
    go : (b : Bool) → listed tb e ≡ b → some is (value_parts tb (map (hold tb f) es)) ≡ some (listed_is tb is) es
        → some is (value_parts tb (map (hold tb f) (e ∷ es))) ≡ some (listed_is tb is) (e ∷ es)
    go true p x = rw (p, x)
    go false p x = rw (p, x)
