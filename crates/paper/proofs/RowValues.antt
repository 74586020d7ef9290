-- The keys and rows of an accepted file: each row names the part of the file that holds its key's value and the place of its key's entry, and the rows
-- after the first K keep their content. Assumes nothing.
use Prim.Native.Nat.{ℕ, zero, suc, ◌+◌, ◌-◌, ◌*◌, ◌/◌, ◌≤◌, ◌<◌}
use mathlib.Core.Path.{◌≡◌, refl, sym, ap, ap₂, ◌∙◌, subst}
use mathlib.Core.Bool.{Bool, true, false, ◌||◌, ◌&&◌}
use mathlib.Core.List.{List, [], ◌∷◌, ◌++◌}
use mathlib.Core.Logic.{◌⊎◌, inl, inr}
use native.Mathlib.Nat.{add-zero, zero-add, mul-add, mul-suc, mul-pos, mul-le-mul_left}
use native.Mathlib.Omega.{arith}
use lib.Dec.{eqb, leb, lit<}
use lib.ListN.{length, get_or, drop, length-append, length-drop, get_or-append}
use lib.Seq.{ext_get_or, get_or-drop, get_or-append-add}
use borrow.Author.Tests.{eqb-true, leb-true, le-ltb, not-false}
use Rattle.paper.specs.Bytes.{run, num, build, elems}
use Rattle.paper.specs.Outcome.{kept}
use Rattle.paper.specs.Tag
use Rattle.paper.specs.Tags.{bytes_of}
use Rattle.paper.specs.Keys.{Runs, short, keys, key_at, minor_revision, key_count, no_key_entry, rule15, rule17, misplaced, right_place, in_entry, within, room, kind_of}
use Rattle.paper.specs.Judge.{view, verdict_of, runs_of, head_in, view_at}
use Rattle.paper.specs.Calls.{judged_of, judged_in, not_judged, Starts, starts_of, entry_place, row_of, row_at, rows_in, rows_over, left_rows}
use Rattle.paper.specs.Block.{elements}
use Rattle.paper.specs.Asked.{elements_of}
use Rattle.paper.specs.Shown.{start_in, keys_in, key_in, short_in, KeysHold, width_at, EntryHolds, RowHolds, RowsHold}
use Rattle.paper.proofs.Laws.{and-eq, kept-all, num-run, length-build, get_or-build}
use Rattle.paper.proofs.Codec.{num-drop, length_elems, get_or-elems}
use Rattle.paper.proofs.Keeps.{rule15-kept, rule17-kept}
use Rattle.paper.proofs.Header.{header-kept}
use Rattle.paper.proofs.Called.{answer-good}
use Rattle.paper.proofs.Held.{tag-part}
use Rattle.paper.proofs.Values.{tag-number}
use Rattle.paper.proofs.RoundTrip.{key-at}
use Rattle.paper.specs.declared.KeyEntry.{KeyEntry}
use Rattle.paper.specs.declared.Row.{Row}
use Rattle.paper.specs.declared.Judged.{Judged}

-- ---- values that are read out of a run

-- the elements of a run that is just as long
pub elems-run : (big : Bool) (w k : ℕ) (s : List ℕ) (a : ℕ) → elems big w k (run s a (w * k)) ≡ elems big w k (drop a s)
elems-run big w k s a =
    ext_get_or 0 (elems big w k (run s a (w * k))) (elems big w k (drop a s)) (length_elems big w k _ ∙ sym (length_elems big w k (drop a s))) at
  where
    at : (i : ℕ) → i < length (elems big w k (run s a (w * k))) → get_or (elems big w k (run s a (w * k))) i 0 ≡ get_or (elems big w k (drop a s)) i 0
    at i l =
        let h : i < k = subst (λ (n : ℕ). i < n) (length_elems big w k (run s a (w * k))) l in
        let m : w * suc i ≤ w * k = mul-le-mul_left w h in
        let fits : w * i + w ≤ w * k = subst (λ (n : ℕ). n ≤ w * k) (mul-suc w i) m in
        get_or-elems big w k (run s a (w * k)) i h
        ∙ num-run big w s a (w * k) (w * i) fits
        ∙ sym (get_or-elems big w k (drop a s) i h ∙ num-drop big w a s (w * i))

-- ---- what rules 15 and 17 give

-- the number is in the entry, or the elements are within the named tag's
right_or : (r : Runs) (e : KeyEntry) (kind : ℕ) → right_place r e kind ≡ true → in_entry e || within r e ≡ true
unfolding right_place
right_or r e kind h = go (eqb kind 0) refl (eqb kind 1) refl (eqb kind 2) refl
  where
    first : in_entry e ≡ true → in_entry e || within r e ≡ true
    first p = rw p

    second : (a : Bool) → within r e ≡ true → a || within r e ≡ true
    second true p = refl
    second false p = p

    go : (a : Bool) → eqb kind 0 ≡ a → (b : Bool) → eqb kind 1 ≡ b → (c : Bool) → eqb kind 2 ≡ c → in_entry e || within r e ≡ true
    go true p b q c t = first (rw p at h)
    go false p true q c t =
        let x : eqb e.location 34736 && (eqb e.count 1 && within r e) ≡ true = rw (p, q) at h in
        second (in_entry e) (and-eq (eqb e.count 1) _ (and-eq (eqb e.location 34736) _ x).1).1
    go false p false q true t =
        let x : eqb e.location 34737 && (within r e && eqb (get_or r.characters (e.index + e.count - 1) 0) 124) ≡ true = rw (p, q, t) at h in
        second (in_entry e) (and-eq (within r e) _ (and-eq (eqb e.location 34737) _ x).1).0
    go false p false q false t = rw (p, q, t) at h

-- ---- a row, by the location of its key

-- the fourth SHORT of entry i, as the only element of a run
index_at : (r : Runs) (i : ℕ) → (key_at r i).index ≡ num r.big 2 r.directory (2 * (7 + 4 * i))
unfolding key_at short
index_at r i = refl

own-elements : (r : Runs) (i : ℕ) → (key_at r i).location ≡ 0 → elements_of r (key_at r i) ≡ elems r.big 2 1 (drop (2 * (7 + 4 * i)) r.directory)
unfolding elements_of elems build
own-elements r i at =
    rw at
    (ap (λ (n : ℕ). n ∷ [])
    (index_at r i ∙ ap (num r.big 2 r.directory) (sym (add-zero (2 * (7 + 4 * i)))) ∙ sym (num-drop r.big 2 (2 * (7 + 4 * i)) r.directory 0)))

-- the four SHORTs of entry i, which stand 8 bytes and i entries behind the start of the directory
four-numbers : (r : Runs) (i : ℕ) → elems r.big 2 4 (drop (8 + 8 * i) r.directory)
    ≡ (key_at r i).key ∷ (key_at r i).location ∷ (key_at r i).count ∷ (key_at r i).index ∷ []
unfolding elems build key_at short
four-numbers r i = λ d. at 0 4 (omega arith) d ∷ at 1 5 (omega arith) d ∷ at 2 6 (omega arith) d ∷ at 3 7 (omega arith) d ∷ []
  where
    at : (j k : ℕ) → 8 + 8 * i + 2 * j ≡ 2 * (k + 4 * i) → num r.big 2 (drop (8 + 8 * i) r.directory) (2 * j) ≡ num r.big 2 r.directory (2 * (k + 4 * i))
    at j k e = num-drop r.big 2 (8 + 8 * i) r.directory (2 * j) ∙ ap (num r.big 2 r.directory) e

-- the row of a key entry, with where it says that the value and the entry stand
abbrev made : KeyEntry → ℕ → ℕ → ℕ → Row
made e first len place = record { key = e.key; kind = kind_of e.key; first = first; len = len; entry = place }

-- where key entry i of a file stands
abbrev place_in : List ℕ → ℕ → ℕ
place_in f i = entry_place (starts_of (view f)) i

module _ (f : List ℕ) (i : ℕ) (h : i < keys_in f) (kept15 : rule15 (runs_of (view f)) ≡ kept) where
  whole : 8 + 8 * keys_in f ≤ length (bytes_of Tag.key_directory (view f).held)
  unfolding runs_of view view_at
  whole = (header-kept (runs_of (view f)) kept15).whole

  entry-holds : (first len : ℕ) → EntryHolds f i (made (key_in f i) first len (place_in f i))
  unfolding starts_of runs_of view view_at
  entry-holds first len =
      let part = tag-part f Tag.key_directory (8 + 8 * i) 8 (omega (arith, whole)) (omega (arith, whole)) in
      record {
        place = refl;
        inside = omega (arith, part.inside);
        numbers =
            ap (elems (head_in f).big 2 4) part.same
            ∙ elems-run (head_in f).big 2 4 (bytes_of Tag.key_directory (view f).held) (8 + 8 * i)
            ∙ four-numbers (runs_of (view f)) i;
      }

  -- in the value of a tag t, whose elements have w bytes
  tag-row : (t w : ℕ) → (key_in f i).location ≡ t → (t ≡ 0 → ⊥) → width_at t ≡ w → 0 < w
      → elements_of (runs_of (view f)) (key_in f i) ≡ elements (head_in f).big w (bytes_of t (view f).held) (key_in f i)
      → 1 ≤ (key_in f i).count → w * ((key_in f i).index + (key_in f i).count) ≤ length (bytes_of t (view f).held)
      → RowHolds f i (made (key_in f i) (start_in f t + w * (key_in f i).index) (w * (key_in f i).count) (place_in f i))
  unfolding elements
  tag-row t w at n wide pos is some room =
      let l : w * (key_in f i).index + w * (key_in f i).count ≤ length (bytes_of t (view f).held) =
      subst (λ (x : ℕ). x ≤ length (bytes_of t (view f).held)) (mul-add w (key_in f i).index (key_in f i).count) room in
      let part = tag-part f t (w * (key_in f i).index) (w * (key_in f i).count) (omega (arith, mul-pos pos some)) l in
      let width : width_at (key_in f i).location ≡ w = ap width_at at ∙ wide in
      record {
        key = refl;
        kind = refl;
        inside = part.inside;
        long = ap (λ (x : ℕ). x * (key_in f i).count) (sym width);
        value =
            (λ d. elems (head_in f).big (width d) (key_in f i).count (run f (start_in f t + w * (key_in f i).index) (w * (key_in f i).count)))
            ∙ ap (elems (head_in f).big w (key_in f i).count) part.same
            ∙ elems-run (head_in f).big w (key_in f i).count (bytes_of t (view f).held) (w * (key_in f i).index)
            ∙ sym is;
        own = λ z. absurd (n (sym at ∙ z));
        named = λ z. ap₂ (λ (l x : ℕ). start_in f l + x * (key_in f i).index) (sym at) (sym width);
        entry = entry-holds _ _;
      }

  -- in the entry itself
  own_row : (key_in f i).location ≡ 0 → (key_in f i).count ≡ 1 → RowHolds f i (made (key_in f i) (place_in f i + 6) 2 (place_in f i))
  unfolding width_at starts_of runs_of view view_at
  own_row at one =
      let part = tag-part f Tag.key_directory (2 * (7 + 4 * i)) 2 (omega (arith, whole)) (omega (arith, whole)) in
      let width : width_at (key_in f i).location ≡ 2 = ap width_at at in
      let first : place_in f i + 6 ≡ start_in f Tag.key_directory + 2 * (7 + 4 * i) = omega arith in
      record {
        key = refl;
        kind = refl;
        inside = omega (arith, part.inside);
        long = sym (ap₂ (λ (x y : ℕ). x * y) width one);
        value =
            (λ d. elems (head_in f).big (width d) (one d) (run f (first d) 2))
            ∙ ap (elems (head_in f).big 2 1) part.same
            ∙ elems-run (head_in f).big 2 1 (bytes_of Tag.key_directory (view f).held) (2 * (7 + 4 * i))
            ∙ sym (own-elements (runs_of (view f)) i at);
        own = λ z. first;
        named = λ z. absurd (z at);
        entry = entry-holds _ _;
      }

-- as the definition makes it, at each location
module _ (s : Starts) (i : ℕ) (e : KeyEntry) where
  made-own : e.location ≡ 0 → row_of s i e ≡ made e (entry_place s i + 6) 2 (entry_place s i)
  unfolding row_of
  made-own p = rw p

  made-short : e.location ≡ Tag.key_directory → row_of s i e ≡ made e (s.directory + 2 * e.index) (2 * e.count) (entry_place s i)
  unfolding row_of
  made-short p = rw p

  made-double : e.location ≡ Tag.doubles → row_of s i e ≡ made e (s.doubles + 8 * e.index) (8 * e.count) (entry_place s i)
  unfolding row_of
  made-double p = rw p

  made-character : e.location ≡ Tag.characters → row_of s i e ≡ made e (s.characters + e.index) e.count (entry_place s i)
  unfolding row_of
  made-character p = rw p

module _ (f : List ℕ) (z : (verdict_of f).number ≡ 0) where
  -- each key is in its entry, or within the tag that it names
  key-placed : (i : ℕ) → i < keys_in f → in_entry (key_in f i) || within (runs_of (view f)) (key_in f i) ≡ true
  unfolding rule17 misplaced keys
  key-placed i h =
      let l : i < length (keys (runs_of (view f))) = subst (λ (n : ℕ). i < n) (sym (length-build (key_at (runs_of (view f))) 0 (keys_in f))) h in
      let good = kept-all (misplaced (runs_of (view f))) _ (keys (runs_of (view f))) no_key_entry (rule17-kept f z) i l in
      right_or (runs_of (view f)) (key_in f i) _
      (not-false _ (subst (λ (e : KeyEntry). misplaced (runs_of (view f)) e ≡ false) (key-at (runs_of (view f)) i h) good))

  -- ---- the keys, as they stand in the file

  short-in : (j : ℕ) → j < 4 + 4 * keys_in f → short (runs_of (view f)) j ≡ short_in f j
  unfolding short short_in runs_of view view_at
  short-in j h =
      let long : 8 + 8 * keys_in f ≤ length (bytes_of Tag.key_directory (view f).held) = (header-kept (runs_of (view f)) (rule15-kept f z)).whole in
      tag-number f Tag.key_directory (head_in f).big 2 (2 * j) (lit< tt) (omega arith)

  judged-keys : (judged_of f).keys ≡ keys_in f
  unfolding judged_of judged_in
  judged-keys = ap (λ (j : Judged). j.keys) (answer-good f judged_in not_judged z)

  fourth : keys_in f ≡ short (runs_of (view f)) 3
  unfolding key_count
  fourth = refl

  judged-minor : (judged_of f).minor ≡ minor_revision (runs_of (view f))
  unfolding judged_of judged_in
  judged-minor = ap (λ (j : Judged). j.minor) (answer-good f judged_in not_judged z)

  third : minor_revision (runs_of (view f)) ≡ short (runs_of (view f)) 2
  unfolding minor_revision
  third = refl

  zero_one : (n : ℕ) → n ≤ 1 → (n ≡ 0) ⊎ (n ≡ 1)
  zero_one zero h = inl refl
  zero_one (suc zero) h = inr refl
  zero_one (suc (suc n)) h = absurd (omega arith)

  pub keys-hold : KeysHold f
  unfolding key_at
  keys-hold =
      let header = header-kept (runs_of (view f)) (rule15-kept f z) in
      record {
        version = sym (short-in 0 (omega arith)) ∙ header.version;
        revision = sym (short-in 1 (omega arith)) ∙ header.revision;
        minor = judged-minor ∙ third ∙ short-in 2 (omega arith);
        zero_or_one = zero_one (judged_of f).minor (subst (λ (n : ℕ). n ≤ 1) (sym judged-minor) header.minor);
        many = judged-keys ∙ fourth ∙ short-in 3 (omega arith);
        same = judged-keys;
        each = λ i h d. record {
          key = short-in (4 + 4 * i) (omega arith) d;
          location = short-in (5 + 4 * i) (omega arith) d;
          count = short-in (6 + 4 * i) (omega arith) d;
          index = short-in (7 + 4 * i) (omega arith) d;
        };
      }

  -- ---- each row

  module _ (i : ℕ) (h : i < keys_in f) where
    abbrev E : KeyEntry
    E = key_in f i

    row-own : in_entry E ≡ true → RowHolds f i (row_at (view f) i)
    unfolding row_at starts_of
    row-own p =
        let q = and-eq (eqb E.location 0) _ p in
        let at : E.location ≡ 0 = eqb-true _ _ q.0 in
        subst (RowHolds f i) (sym (made-own (starts_of (view f)) i E at)) (own_row f i h (rule15-kept f z) at (eqb-true _ _ q.1))

    -- the elements are within those of the tag that the location names
    module _ (some : 1 ≤ E.count) (fits : leb (E.index + E.count) (room (runs_of (view f)) E.location) ≡ true) where
      row-short : E.location ≡ Tag.key_directory → RowHolds f i (row_at (view f) i)
      unfolding row_at starts_of room runs_of view view_at width_at elements_of
      row-short at =
          let l : E.index + E.count ≤ length (bytes_of Tag.key_directory (view f).held) / 2 = leb-true _ _ (rw at at fits) in
          subst (RowHolds f i) (sym (made-short (starts_of (view f)) i E at))
          (tag-row f i h (rule15-kept f z) Tag.key_directory 2 at (λ p. omega arith) refl (lit< tt) (rw at) some (omega arith))

      row-double : E.location ≡ Tag.doubles → RowHolds f i (row_at (view f) i)
      unfolding row_at starts_of room runs_of view view_at width_at elements_of
      row-double at =
          let l : E.index + E.count ≤ length (bytes_of Tag.doubles (view f).held) / 8 = leb-true _ _ (rw at at fits) in
          subst (RowHolds f i) (sym (made-double (starts_of (view f)) i E at))
          (tag-row f i h (rule15-kept f z) Tag.doubles 8 at (λ p. omega arith) refl (lit< tt) (rw at) some (omega arith))

      row-character : E.location ≡ Tag.characters → RowHolds f i (row_at (view f) i)
      unfolding row_at starts_of room runs_of view view_at width_at elements_of
      row-character at =
          let l : E.index + E.count ≤ length (bytes_of Tag.characters (view f).held) = leb-true _ _ (rw at at fits) in
          let one : (n : ℕ) → n ≡ 1 * n = λ n. omega arith in
          let is : row_at (view f) i ≡ made E (start_in f Tag.characters + 1 * E.index) (1 * E.count) (place_in f i) =
          made-character (starts_of (view f)) i E at ∙ ap₂ (λ (a b : ℕ). made E (start_in f Tag.characters + a) b (place_in f i)) (one E.index) (one E.count) in
          subst (RowHolds f i) (sym is)
          (tag-row f i h (rule15-kept f z) Tag.characters 1 at (λ p. omega arith) refl (lit< tt) (rw at) some (omega arith))

      row_named : RowHolds f i (row_at (view f) i)
      unfolding room
      row_named = at (eqb E.location 34735) refl (eqb E.location 34736) refl (eqb E.location 34737) refl
        where
          at : (a : Bool) → eqb E.location 34735 ≡ a → (b : Bool) → eqb E.location 34736 ≡ b → (c : Bool) → eqb E.location 34737 ≡ c
              → RowHolds f i (row_at (view f) i)
          at true p b q c t = row-short (eqb-true _ _ p)
          at false p true q c t = row-double (eqb-true _ _ q)
          at false p false q true t = row-character (eqb-true _ _ t)
          at false p false q false t =
              let none : leb (E.index + E.count) 0 ≡ true = rw (p, q, t) at fits in
              let n : E.index + E.count ≤ 0 = leb-true _ _ none in
              absurd (omega arith)

    pub row-holds : RowHolds f i (row_at (view f) i)
    row-holds = go (in_entry E) refl
      where
        go : (b : Bool) → in_entry E ≡ b → RowHolds f i (row_at (view f) i)
        go true p = row-own p
        go false p =
            let w : within (runs_of (view f)) E ≡ true = rw p at (key-placed i h) in
            let c = and-eq (leb 1 E.count) _ w in
            row_named (leb-true 1 E.count c.0) c.1

  -- ---- and so the lent rows

  module _ (lent : List Row) (many : keys_in f ≤ length lent) where
    left_is : left_rows f lent ≡ rows_in (view f) ++ drop (keys_in f) lent
    unfolding left_rows rows_over
    left_is = answer-good f (rows_over lent) (λ v. lent) z ∙ rw (le-ltb (length lent) (keys_in f) many)

    length-rows : length (rows_in (view f)) ≡ keys_in f
    unfolding rows_in
    length-rows = length-build (row_at (view f)) 0 (keys_in f)

    row-at : (i : ℕ) → i < keys_in f → (d : Row) → row_at (view f) i ≡ get_or (left_rows f lent) i d
    unfolding rows_in
    row-at i h d =
        sym
        (ap (λ (rs : List Row). get_or rs i d) left_is
        ∙ get_or-append (rows_in (view f)) (drop (keys_in f) lent) d i (subst (λ (n : ℕ). i < n) (sym length-rows) h)
        ∙ get_or-build (row_at (view f)) d 0 (keys_in f) i h
        ∙ ap (row_at (view f)) (zero-add i))

    row-after : (i : ℕ) → keys_in f ≤ i → (d : Row) → get_or (left_rows f lent) i d ≡ get_or lent i d
    row-after i h d =
        let e : i ≡ length (rows_in (view f)) + (i - keys_in f) = omega (arith, length-rows) in
        let b : keys_in f + (i - keys_in f) ≡ i = omega arith in
        ap (λ (rs : List Row). get_or rs i d) left_is
        ∙ ap (λ (n : ℕ). get_or (rows_in (view f) ++ drop (keys_in f) lent) n d) e
        ∙ get_or-append-add (rows_in (view f)) (drop (keys_in f) lent) (i - keys_in f) d
        ∙ get_or-drop (keys_in f) lent (i - keys_in f) d
        ∙ ap (λ (n : ℕ). get_or lent n d) b

    pub rows-hold : RowsHold f lent
    rows-hold =
        record {
          long =
              ap length left_is
              ∙ length-append (rows_in (view f)) (drop (keys_in f) lent)
              ∙ omega (arith, length-rows, length-drop (keys_in f) lent);
          each = λ i h d. subst (RowHolds f i) (row-at i h d) (row-holds i h);
          after = row-after;
        }
