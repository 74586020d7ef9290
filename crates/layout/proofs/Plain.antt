-- A pass over a directory from the first entry to the last, which stops at the one that it looks for; and what rules 6 and 7 say together. Assumes nothing.
use Prim.Native.Nat.{ℕ, zero, suc, ◌+◌, ◌-◌, ◌*◌, ◌≤◌, ◌<◌}
use mathlib.Core.Path.{◌≡◌, refl, sym, ap, ◌∙◌}
use mathlib.Core.Bool.{Bool, true, false}
use mathlib.Core.List.{List, []}
use native.Mathlib.Nat.{sub-zero}
use native.Mathlib.Numerals.{add-one}
use native.Mathlib.Omega.{arith}
use lib.Dec.{eqb}
use borrow.Author.Tests.{eq-eqb, ne_eqb}
use Rattle.std.specs.Prelude.{Option, Some, None, option_map}
use Rattle.paper.specs.Bytes.{build, num}
use Rattle.paper.specs.Outcome.{first_bad, first}
use Rattle.paper.specs.Layout.{entry_of, entry_at, entries, bad_value, rule7}
use Rattle.paper.specs.Judge.{entry_rules}
use Rattle.paper.specs.declared.Outcome.{Outcome}
use Rattle.paper.specs.declared.Outcome.TheVariants.{Kept as kept, Broken as broken}
use Rattle.paper.specs.declared.Entry.{Entry}
use Rattle.paper.proofs.Laws.{build-step}
use Rattle.paper.proofs.Loops.{build-end}
use Rattle.layout.specs.Opening.{scanned_of, ordered_of, concluded_of}
use Rattle.layout.specs.Finding.{place_from, place_in, found_in}
use Rattle.layout.specs.declared.Ordered.{Ordered}
use Rattle.layout.specs.declared.Scanned.{Scanned}

-- the entries from i on
abbrev Rest : Bool → ℕ → ℕ → List ℕ → ℕ → List Entry
Rest big at c dir i = build (entry_at big at dir) i (c - i)

all_rest : (big : Bool) (at c : ℕ) (dir : List ℕ) → entries big at c dir ≡ Rest big at c dir 0
unfolding entries
all_rest big at c dir = rw sub-zero

none_rest : (big : Bool) (at c : ℕ) (dir : List ℕ) (i : ℕ) → i ≤ c → c ≤ i → Rest big at c dir i ≡ []
none_rest big at c dir i l h = let e : i ≡ c = omega arith in rw e (build-end (entry_at big at dir) c)

-- ---- the first entry of a tag

-- no entry before entry i has tag t, wherever the directory stands
pub record Sought (t : ℕ) (big : Bool) (c : ℕ) (dir : List ℕ) (i : ℕ) : Type 0 where
  pub few : i ≤ c
  pub so_far : (at : ℕ) → place_in t (entries big at c dir) ≡ place_from t i (build (entry_at big at dir) i (c - i))

pub seek-start : {t : ℕ} {big : Bool} {c : ℕ} {dir : List ℕ} → Sought t big c dir 0
seek-start {t} {big} {c} {dir} = record { few = omega arith; so_far = λ at. ap (place_from t 0) (all_rest big at c dir) }

module _ {t : ℕ} {big : Bool} {c : ℕ} {dir : List ℕ} {i : ℕ} (sought : Sought t big c dir i) where
  module _ (more : i < c) {v : ℕ} (is-v : v ≡ num big 2 dir (2 + 12 * i)) where
    tag-is : (at : ℕ) → (entry_at big at dir i).tag ≡ v
    unfolding entry_of
    tag-is at = sym is-v

    pub seek_found : v ≡ t → (at : ℕ) → Some i ≡ place_in t (entries big at c dir)
    unfolding place_from
    seek_found q at = sym (sought.so_far at ∙ rw (build-step (entry_at big at dir) i c more, eq-eqb (entry_at big at dir i).tag t (tag-is at ∙ q)))

    pub seek-more : (v ≡ t → ⊥) → Sought t big c dir (i + 1)
    unfolding place_from
    seek-more n =
        record {
          few = omega arith;
          so_far = λ at. sought.so_far at ∙ rw (build-step (entry_at big at dir) i c more, ne_eqb (entry_at big at dir i).tag t (λ z. n (sym (tag-is at) ∙ z)), add-one);
        }

  pub seek-none : c ≤ i → (at : ℕ) → None ≡ place_in t (entries big at c dir)
  unfolding place_from
  seek-none h at = sym (sought.so_far at ∙ rw (none_rest big at c dir i sought.few h))

-- the entry itself
found-from : (t : ℕ) (g : ℕ → Entry) (i k : ℕ) → found_in t (build g i k) ≡ option_map g (place_from t i (build g i k))
unfolding found_in place_from build
found-from t g i zero = refl
found-from t g i (suc k) = go (eqb (g i).tag t) refl (found-from t g (suc i) k)
  where
    go : (b : Bool) → eqb (g i).tag t ≡ b → found_in t (build g (suc i) k) ≡ option_map g (place_from t (suc i) (build g (suc i) k))
        → found_in t (build g i (suc k)) ≡ option_map g (place_from t i (build g i (suc k)))
    go true p h = rw p
    go false p h = rw p h

pub found-placed : (t : ℕ) (big : Bool) (at c : ℕ) (dir : List ℕ) {o : Option ℕ} → o ≡ place_in t (entries big at c dir)
    → option_map (entry_at big at dir) o ≡ found_in t (entries big at c dir)
unfolding entries
found-placed t big at c dir is = rw is (sym (found-from t (entry_at big at dir) 0 c))

-- ---- rule 7

-- no entry before entry i has a bad value
pub record Fitting (n : ℕ) (big : Bool) (at c : ℕ) (dir : List ℕ) (i : ℕ) : Type 0 where
  pub few : i ≤ c
  pub so_far : rule7 n (entries big at c dir) ≡ rule7 n (build (entry_at big at dir) i (c - i))

pub fit-start : {n : ℕ} {big : Bool} {at c : ℕ} {dir : List ℕ} → Fitting n big at c dir 0
fit-start {n} {big} {at} {c} {dir} = record { few = omega arith; so_far = ap (rule7 n) (all_rest big at c dir) }

module _ {n : ℕ} {big : Bool} {at c : ℕ} {dir : List ℕ} {i : ℕ} (fits : Fitting n big at c dir i) where
  module _ (more : i < c) {e : Entry} (is-e : e ≡ entry_at big at dir i) {bad : Bool} (is-bad : bad ≡ bad_value n e) where
    pub fit-bad : bad ≡ true → broken e.tag ≡ rule7 n (entries big at c dir)
    unfolding rule7 first_bad
    fit-bad b = sym (fits.so_far ∙ rw (build-step (entry_at big at dir) i c more, ← is-e, ← is-bad, b))

    pub fit-more : bad ≡ false → Fitting n big at c dir (i + 1)
    unfolding rule7 first_bad
    fit-more b = record { few = omega arith; so_far = fits.so_far ∙ rw (build-step (entry_at big at dir) i c more, ← is-e, ← is-bad, b) }

  pub fit-end : c ≤ i → kept ≡ rule7 n (entries big at c dir)
  unfolding rule7 first_bad
  fit-end h = sym (fits.so_far ∙ rw (none_rest big at c dir i fits.few h))

-- ---- both rules

pub conclusion : (n : ℕ) (big : Bool) (at c : ℕ) (dir : List ℕ) (seven : Outcome) {o : Ordered} {r : Scanned} → o ≡ ordered_of (entries big at c dir) at
    → seven ≡ rule7 n (entries big at c dir) → r ≡ concluded_of big c dir o seven → r ≡ scanned_of (record { size = n; big = big; at = at }) c dir
unfolding scanned_of ordered_of concluded_of entry_rules first
conclusion n big at c dir seven six fits is = is ∙ rw (six, fits)
