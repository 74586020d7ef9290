-- The rows without C-15: four numbers each, by what document 01 says of them. The rows with the places of their entries taken off are these, in all lent
-- memory and for every file. Assumes nothing.
use Prim.Native.Nat.{ℕ, zero, suc, ◌+◌, ◌*◌}
use mathlib.Core.Path.{◌≡◌, refl, ap, ap₂, ◌∙◌}
use mathlib.Core.Bool.{Bool, true, false, cond}
use mathlib.Core.List.{List, [], ◌∷◌, ◌++◌, map, map-append}
use native.Mathlib.Omega.{arith}
use lib.Dec.{eqb, ltb}
use lib.ListN.{length, drop, length-map}
use Rattle.paper.specs.Bytes.{build}
use Rattle.paper.specs.Tag
use Rattle.paper.specs.Keys.{key_at, key_count, kind_of}
use Rattle.paper.specs.Judge.{View, view, runs_of, verdict_of}
use Rattle.paper.specs.Calls.{accepts, answer, Starts, starts_of, row_of, row_at, rows_in, rows_over, left_rows}
use Rattle.paper.specs.declared.KeyEntry.{KeyEntry}
use Rattle.paper.specs.declared.Row.{Row}

-- ---- the rows without C-15

pub record Four : Type 0 where
  pub key : ℕ
  pub kind : ℕ
  pub first : ℕ
  pub len : ℕ

abbrev pub four : Row → Four
four r = record { key = r.key; kind = r.kind; first = r.first; len = r.len }

-- at location 0 the entry's fourth SHORT: 8 bytes of header, i entries of 8 bytes and 6 bytes behind the start of the key directory
unfoldable pub four_of : Starts → ℕ → KeyEntry → Four
four_of s i e =
    let row : ℕ → ℕ → Four = λ first len. record { key = e.key; kind = kind_of e.key; first = first; len = len } in
    cond (eqb e.location 0) (row (s.directory + (8 * i + 14)) 2)
    (cond (eqb e.location Tag.key_directory) (row (s.directory + 2 * e.index) (2 * e.count))
    (cond (eqb e.location Tag.doubles) (row (s.doubles + 8 * e.index) (8 * e.count))
    (row (s.characters + e.index) e.count)))

unfoldable pub fours_in : View → List Four
fours_in v = build (λ i. four_of (starts_of v) i (key_at (runs_of v) i)) 0 (key_count (runs_of v))

unfoldable pub fours_over : List Four → View → List Four
fours_over lent w = cond (ltb (length lent) (key_count (runs_of w))) lent (fours_in w ++ drop (key_count (runs_of w)) lent)

unfoldable pub fours_left : List ℕ → List Four → List Four
fours_left f lent = answer f (fours_over lent) (λ v. lent)

-- ---- the rows of now

map-cond : {A B : Type 0} (g : A → B) (b : Bool) (x y : A) → g (cond b x y) ≡ cond b (g x) (g y)
map-cond g true x y = refl
map-cond g false x y = refl

map-build : {A B : Type 0} (g : A → B) (h : ℕ → A) (h' : ℕ → B) → ((i : ℕ) → g (h i) ≡ h' i) → (i k : ℕ) → map g (build h i k) ≡ build h' i k
unfolding build
map-build g h h' same i zero = refl
map-build g h h' same i (suc k) = ap₂ (λ x xs. x ∷ xs) (same i) (map-build g h h' same (suc i) k)

map-drop : {A B : Type 0} (g : A → B) (k : ℕ) (xs : List A) → map g (drop k xs) ≡ drop k (map g xs)
map-drop g zero xs = refl
map-drop g (suc k) [] = refl
map-drop g (suc k) (x ∷ xs) = map-drop g k xs

four-row : (s : Starts) (i : ℕ) (e : KeyEntry) → four (row_of s i e) ≡ four_of s i e
unfolding row_of four_of
four-row s i e = go (eqb e.location 0) refl (eqb e.location Tag.key_directory) refl (eqb e.location Tag.doubles) refl
  where
    own : s.directory + (8 + 8 * i) + 6 ≡ s.directory + (8 * i + 14)
    own = omega arith

    go : (a : Bool) → eqb e.location 0 ≡ a → (b : Bool) → eqb e.location Tag.key_directory ≡ b → (c : Bool) → eqb e.location Tag.doubles ≡ c
        → four (row_of s i e) ≡ four_of s i e
    go true p b q c t = rw (p, own)
    go false p true q c t = rw (p, q)
    go false p false q true t = rw (p, q, t)
    go false p false q false t = rw (p, q, t)

four-rows : (v : View) → map four (rows_in v) ≡ fours_in v
unfolding rows_in fours_in row_at
four-rows v = map-build four (row_at v) _ (λ i. four-row (starts_of v) i (key_at (runs_of v) i)) 0 (key_count (runs_of v))

four-over : (lent : List Row) (v : View) → map four (rows_over lent v) ≡ fours_over (map four lent) v
unfolding rows_over fours_over
four-over lent v =
    map-cond (map four) (ltb (length lent) (key_count (runs_of v))) lent (rows_in v ++ drop (key_count (runs_of v)) lent)
    ∙ rw
    (length-map lent four, map-append four (rows_in v) (drop (key_count (runs_of v)) lent), four-rows v, map-drop four (key_count (runs_of v)) lent)

pub rows_four : (f : List ℕ) (lent : List Row) → map four (left_rows f lent) ≡ fours_left f (map four lent)
unfolding left_rows fours_left answer
rows_four f lent =
    map-cond (map four) (accepts (verdict_of f)) (rows_over lent (view f)) lent
    ∙ ap (λ (xs : List Four). cond (accepts (verdict_of f)) xs (map four lent)) (four-over lent (view f))
