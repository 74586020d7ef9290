-- The key block of an accepted file is laid out as document 01 says, byte for byte, and rules 24 and 25 refuse what they say. Assumes nothing.
use Prim.Native.Nat.{ℕ, zero, suc, ◌+◌, ◌*◌, ◌/◌, ◌≤◌, ◌<◌, zero-le, suc-le-suc}
use mathlib.Core.Path.{◌≡◌, refl, sym, ap, ap₂, ◌∙◌, subst}
use mathlib.Core.Bool.{Bool, true, false, cond, ◌&&◌, false≢true}
use mathlib.Core.List.{List, [], ◌∷◌, ◌++◌}
use native.Mathlib.Nat.{add-zero, zero-add, mul-add}
use native.Mathlib.Omega.{arith}
use lib.Dec.{eqb, leb, ltb, lit<}
use lib.ListN.{length, get_or, take, drop, length-append, length-drop}
use lib.Seq.{ext_get_or, take-append_seam, drop-append_seam}
use borrow.Author.Tests.{eqb-true, leb-true, lt-ltb, le-ltb, ltb-true, not-false}
use Rattle.paper.specs.Bytes.{num, enc, build, elems}
use Rattle.paper.specs.Outcome.{Outcome, kept, broken, breaks, first_bad, or_else, first, verdict}
use Rattle.paper.specs.Keys.{Runs, short, minor_revision, key_count, key_at, keys, no_key_entry, room, right_place, misplaced, kind_of, rule17}
use Rattle.paper.specs.Judge.{view, runs_of, verdict_of}
use Rattle.paper.specs.Calls.{back_of}
use Rattle.paper.specs.Block.{joined, encs, elements, values_at, short_values, double_values, character_values, count_if_at, new_index, with_index, moved_keys, entry_numbers}
use Rattle.paper.specs.Block.{directory_numbers, block_directory, block_doubles, block_characters, block_bytes, too_far, rule24, rule25, block_verdict, block_in, block_of, block_left}
use Rattle.paper.specs.Asked.{Bytes, elements_of, lent_runs}
use Rattle.paper.specs.Laid.{number_at, numbers_from, total, base, start_index, fourth, directory_length, doubles_length, characters_length, bytes_needed}
use Rattle.paper.specs.Laid.{LaidEntry, LaidOut, far, key_numbers, NoneFar, BlockRefusals}
use Rattle.paper.proofs.Laws.{length-build, get_or-build, kept-all, all-kept, and-eq}
use Rattle.paper.proofs.Keeps.{rule17-kept}
use Rattle.paper.proofs.Codec.{num-drop, length_elems, get_or-elems, length-encs, sum_at, length-values, below-append, below-joined}
use Rattle.paper.proofs.RoundTrip.{Writable, written, new_at, key-at, length-keys, moved-key, length-moved_keys, length-entries, short_back, entry-back, value-back}
use Rattle.paper.proofs.Places.{first-fault, fault-first}
use Rattle.paper.proofs.Lent.{block_room}
use Rattle.paper.proofs.Called.{answer-good}
use Rattle.paper.proofs.Trip.{accepted-block, block-is, left_is, lent_written, can_write}
use Rattle.paper.specs.declared.Verdict.{Verdict}
use Rattle.paper.specs.declared.KeyEntry.{KeyEntry}
use Rattle.paper.specs.declared.Block.{Block}

-- ---- numbers of a run

-- they are those of a list, one by one
numbers-are : (w : ℕ) (s : List ℕ) (a : ℕ) (xs : List ℕ) → ((j : ℕ) → j < length xs → number_at w s (a + j) ≡ get_or xs j 0)
    → numbers_from w s a (length xs) ≡ xs
unfolding numbers_from
numbers-are w s a xs h =
    ext_get_or 0 (build (number_at w s) a (length xs)) xs (length-build (number_at w s) a (length xs)) at
  where
    at : (j : ℕ) → j < length (build (number_at w s) a (length xs)) → get_or (build (number_at w s) a (length xs)) j 0 ≡ get_or xs j 0
    at j l =
        let m : j < length xs = omega (arith, length-build (number_at w s) a (length xs)) in
        get_or-build (number_at w s) 0 a (length xs) j m ∙ h j m

numbers-elements : (w : ℕ) (s : List ℕ) (e : KeyEntry) → numbers_from w s e.index e.count ≡ elements false w s e
unfolding number_at elements
numbers-elements w s e =
    ap (numbers_from w s e.index) (sym (length_elems false w e.count (drop (w * e.index) s)))
    ∙ numbers-are w s e.index (elems false w e.count (drop (w * e.index) s)) at
  where
    at : (j : ℕ) → j < length (elems false w e.count (drop (w * e.index) s))
        → num false w s (w * (e.index + j)) ≡ get_or (elems false w e.count (drop (w * e.index) s)) j 0
    at j l =
        let m : j < e.count = omega (arith, length_elems false w e.count (drop (w * e.index) s)) in
        ap (num false w s) (mul-add w e.index j)
        ∙ sym (num-drop false w (w * e.index) s (w * j))
        ∙ sym (get_or-elems false w e.count (drop (w * e.index) s) j m)

bytes-enc : (w n : ℕ) → Bytes (enc w n)
unfolding enc
bytes-enc zero n i = lit< tt
bytes-enc (suc w) n zero = omega arith
bytes-enc (suc w) n (suc i) = bytes-enc w (n / 256) i

bytes-encs : (w : ℕ) (ns : List ℕ) → Bytes (encs w ns)
unfolding encs
bytes-encs w ns = below-joined 256 (enc w) 0 ns (lit< tt) (λ i l. bytes-enc w (get_or ns i 0))

-- ---- counts, added up

total-before : (l : ℕ) (es : List KeyEntry) (i : ℕ) → sum_at l es i ≡ total l (take i es)
unfolding sum_at count_if_at total
total-before l [] zero = refl
total-before l [] (suc i) = refl
total-before l (e ∷ es) zero = refl
total-before l (e ∷ es) (suc i) = ap (λ (n : ℕ). cond (eqb e.location l) e.count 0 + n) (total-before l es i)

total-values : (big : Bool) (l w : ℕ) (s : List ℕ) (es : List KeyEntry) → length (joined (values_at big l w s) es) ≡ total l es
unfolding joined count_if_at total
total-values big l w s [] = refl
total-values big l w s (e ∷ es) =
    length-append (values_at big l w s e) (joined (values_at big l w s) es)
    ∙ ap₂ (λ (a b : ℕ). a + b) (length-values big l w s e) (total-values big l w s es)

-- ---- the new index

cond-true : (t a : Bool) → cond t false a ≡ true → a ≡ true
cond-true true a h = absurd (false≢true h)
cond-true false a h = h

-- a key that keeps rule 17 is at location 0 or at one of the three
no_other : (r : Runs) (e : KeyEntry) → misplaced r e ≡ false → eqb e.location 0 ≡ false → eqb e.location 34735 ≡ false → eqb e.location 34736 ≡ false
    → eqb e.location 34737 ≡ false → ⊥
unfolding misplaced right_place room
no_other r e m p q s t =
    let k : ℕ = kind_of e.key in
    let a : cond (eqb k 0) false (cond (eqb k 1) false (cond (eqb k 2) false (leb 1 e.count && leb (e.index + e.count) 0))) ≡ true =
    rw (p, q, s, t) at (not-false (right_place r e (kind_of e.key)) m) in
    let b = cond-true (eqb k 2) _ (cond-true (eqb k 1) _ (cond-true (eqb k 0) _ a)) in
    let c = and-eq (leb 1 e.count) _ b in
    omega (arith, leb-true 1 e.count c.0, leb-true (e.index + e.count) 0 c.1)

-- the bytes of the three runs, and of the block
directory-long : (r : Runs) → length (block_directory r) ≡ directory_length r
unfolding block_directory directory_numbers short_values directory_length
directory-long r =
    let es : List ℕ = joined entry_numbers (moved_keys r) in
    let vs : List ℕ = joined (values_at r.big 34735 2 r.directory) (keys r) in
    omega (
      arith,
      length-encs 2 (1 ∷ 1 ∷ minor_revision r ∷ key_count r ∷ es ++ vs),
      length-append es vs,
      length-entries (moved_keys r),
      length-moved_keys r,
      total-values r.big 34735 2 r.directory (keys r),
    )

doubles-long : (r : Runs) → length (block_doubles r) ≡ doubles_length r
unfolding block_doubles double_values doubles_length
doubles-long r = omega (arith, length-encs 8 (double_values r), total-values r.big 34736 8 r.doubles (keys r))

characters-long : (r : Runs) → length (block_characters r) ≡ characters_length r
unfolding block_characters character_values characters_length
characters-long r = omega (arith, length-encs 1 (character_values r), total-values r.big 34737 1 r.characters (keys r))

block-long : (r : Runs) → length (block_bytes r) ≡ bytes_needed r
unfolding block_bytes bytes_needed
block-long r =
    let d : List ℕ = block_directory r in
    let x : List ℕ = block_doubles r in
    let c : List ℕ = block_characters r in
    omega (arith, length-append d (x ++ c), length-append x c, directory-long r, doubles-long r, characters-long r)

block-bytes : (r : Runs) → Bytes (block_bytes r)
unfolding block_bytes block_directory block_doubles block_characters
block-bytes r =
    below-append 256 (block_directory r) (block_doubles r ++ block_characters r) (bytes-encs 2 (directory_numbers r))
    (below-append 256 (block_doubles r) (block_characters r) (bytes-encs 8 (double_values r)) (bytes-encs 1 (character_values r)))

-- ---- each key, where rule 17 is kept

module _ (r : Runs) (kept17 : rule17 r (keys r) ≡ kept) where
  right : (i : ℕ) → i < key_count r → misplaced r (key_at r i) ≡ false
  unfolding rule17
  right i h =
      subst (λ (e : KeyEntry). misplaced r e ≡ false) (key-at r i h)
      (kept-all (misplaced r) _ (keys r) no_key_entry kept17 i (omega (arith, length-keys r)))

  new-fourth : (i : ℕ) → i < key_count r → new_at r i ≡ fourth r i
  unfolding new_index fourth start_index base
  new-fourth i h =
      ap (new_index (4 + 4 * key_count r + sum_at 34735 (keys r) i) (0 + sum_at 34736 (keys r) i) (0 + sum_at 34737 (keys r) i)) (key-at r i h)
      ∙ go (eqb (key_at r i).location 0) (eqb (key_at r i).location 34735) (eqb (key_at r i).location 34736) (eqb (key_at r i).location 34737) refl refl refl refl
    where
      go : (a b c d : Bool) → eqb (key_at r i).location 0 ≡ a → eqb (key_at r i).location 34735 ≡ b → eqb (key_at r i).location 34736 ≡ c
          → eqb (key_at r i).location 34737 ≡ d
          → new_index (4 + 4 * key_count r + sum_at 34735 (keys r) i) (0 + sum_at 34736 (keys r) i) (0 + sum_at 34737 (keys r) i) (key_at r i) ≡ fourth r i
      go true b c d p q s t = let e : (key_at r i).location ≡ 0 = eqb-true _ _ p in rw e
      go false true c d p q s t = let e : (key_at r i).location ≡ 34735 = eqb-true _ _ q in rw (e, total-before 34735 (keys r) i)
      go false false true d p q s t = let e : (key_at r i).location ≡ 34736 = eqb-true _ _ s in rw (e, total-before 34736 (keys r) i)
      go false false false true p q s t = let e : (key_at r i).location ≡ 34737 = eqb-true _ _ t in rw (e, total-before 34737 (keys r) i)
      go false false false false p q s t = absurd (no_other r (key_at r i) (right i h) p q s t)

  -- the entry as it is written
  new-entry : (i : ℕ) → i < key_count r → get_or (moved_keys r) i no_key_entry ≡ with_index (key_at r i) (fourth r i)
  new-entry i h = moved-key r i h ∙ ap₂ with_index (key-at r i h) (new-fourth i h)

  -- in one of the three runs, its index is the start index
  fourth-start : (i l : ℕ) → eqb l 0 ≡ false → (key_at r i).location ≡ l → fourth r i ≡ start_index r i
  unfolding fourth
  fourth-start i l z p = rw (ap (λ (k : ℕ). eqb k 0) p ∙ z)

-- ---- the block in its three runs

module _ (r : Runs) (ok : Writable r) where
  header : numbers_from 2 (written r).directory 0 4 ≡ 1 ∷ 1 ∷ minor_revision r ∷ key_count r ∷ []
  unfolding numbers_from number_at build written back_of short directory_numbers
  header = λ d. short_back r ok 0 d ∷ short_back r ok 1 d ∷ short_back r ok 2 d ∷ short_back r ok 3 d ∷ []

  entry : (i : ℕ) → i < key_count r
      → numbers_from 2 (written r).directory (4 + 4 * i) 4 ≡ (key_at r i).key ∷ (key_at r i).location ∷ (key_at r i).count ∷ fourth r i ∷ []
  unfolding number_at written back_of short entry_numbers
  entry i h = numbers-are 2 (written r).directory (4 + 4 * i) (entry_numbers (with_index (key_at r i) (fourth r i))) at
    where
      at : (j : ℕ) → j < 4 → number_at 2 (written r).directory (4 + 4 * i + j) ≡ get_or (entry_numbers (with_index (key_at r i) (fourth r i))) j 0
      at j l =
          let q : 4 + 4 * i + j ≡ 4 + (4 * i + j) = omega arith in
          ap (short (written r)) q
          ∙ entry-back r ok i j h l
          ∙ ap (λ (e : KeyEntry). get_or (entry_numbers e) j 0) (new-entry r ok.kept17 i h)

  -- a value, in the written runs
  value : (i : ℕ) → i < key_count r → elements_of (written r) (with_index (key_at r i) (fourth r i)) ≡ elements_of r (key_at r i)
  value i h =
      let old : get_or (keys r) i no_key_entry ≡ key_at r i = key-at r i h in
      ap (elements_of (written r)) (sym (ap₂ with_index old (new-fourth r ok.kept17 i h)))
      ∙ sym (value-back r ok i h)
      ∙ ap (elements_of r) old

  -- read from the start index, where the location names the run s of numbers of w bytes
  from_start : (i l w : ℕ) (s : List ℕ) → i < key_count r → eqb l 0 ≡ false → (key_at r i).location ≡ l
      → ((e : KeyEntry) → e.location ≡ l → elements_of (written r) e ≡ elements false w s e)
      → numbers_from w s (start_index r i) (key_at r i).count ≡ elements_of r (key_at r i)
  from_start i l w s h z p named =
      ap (λ (n : ℕ). numbers_from w s n (key_at r i).count) (sym (fourth-start r ok.kept17 i l z p))
      ∙ numbers-elements w s (with_index (key_at r i) (fourth r i))
      ∙ sym (named (with_index (key_at r i) (fourth r i)) p)
      ∙ value i h

  laid-entry : (i : ℕ) → i < key_count r → LaidEntry r (written r) i
  unfolding elements_of written back_of
  laid-entry i h =
      record {
        entry = entry i h;
        shorts = λ p. from_start i 34735 2 (written r).directory h refl p (λ e q. rw q);
        doubles = λ p. from_start i 34736 8 (written r).doubles h refl p (λ e q. rw q);
        characters = λ p. from_start i 34737 1 (written r).characters h refl p (λ e q. rw q);
      }

-- ---- the call

module _ (f out : List ℕ) (bytes : Bytes f) (z : (block_of f (length out)).verdict.number ≡ 0) where
  r : Runs
  r = runs_of (view f)

  fits : bytes_needed r ≤ length out
  unfolding r
  fits = omega (arith, block-long r, block_room (length out) r (accepted-block f (length out) z).1)

  left : block_left f out ≡ block_bytes r ++ drop (bytes_needed r) out
  unfolding r
  left = left_is f out z ∙ ap (λ (n : ℕ). block_bytes r ++ drop n out) (block-long r)

  pub laid_out : LaidOut (runs_of (view f)) (block_of f (length out)) out (block_left f out)
  unfolding r
  laid_out =
      let ok : Writable r = can_write f out bytes z in
      let runs : written r ≡ lent_runs (block_left f out) (block_of f (length out)) = sym (lent_written f out z) in
      record {
        header = subst (λ (s : Runs). numbers_from 2 s.directory 0 4 ≡ 1 ∷ 1 ∷ minor_revision r ∷ key_count r ∷ []) runs (header r ok);
        each = λ i h. subst (λ (s : Runs). LaidEntry r s i) runs (laid-entry r ok i h);
        directory = ap (λ (b : Block). b.directory) (block-is f (length out) z) ∙ directory-long r;
        doubles = ap (λ (b : Block). b.doubles) (block-is f (length out) z) ∙ doubles-long r;
        characters = ap (λ (b : Block). b.characters) (block-is f (length out) z) ∙ characters-long r;
        bytes = subst (λ (s : List ℕ). Bytes s) (sym whole) (block-bytes r);
        room = fits;
        after = ap (drop (bytes_needed r)) left ∙ ap (λ (n : ℕ). drop n (block_bytes r ++ drop (bytes_needed r) out)) (sym (block-long r))
            ∙ drop-append_seam (block_bytes r) (drop (bytes_needed r) out);
        long = ap length left ∙ length-append (block_bytes r) (drop (bytes_needed r) out) ∙ omega (arith, block-long r, length-drop (bytes_needed r) out, fits);
      }
    where
      whole : take (bytes_needed r) (block_left f out) ≡ block_bytes r
      whole =
          ap (take (bytes_needed r)) left ∙ ap (λ (n : ℕ). take n (block_bytes r ++ drop (bytes_needed r) out)) (sym (block-long r))
          ∙ take-append_seam (block_bytes r) (drop (bytes_needed r) out)

-- ---- rules 24 and 25

-- which of two rules gave the verdict
first-24 : (o o' : Outcome) (p : ℕ) → or_else 24 o (or_else 25 o' (verdict 0 0)) ≡ verdict 24 p → o ≡ broken p
first-24 (broken q) o' p h = ap (λ (v : Verdict). broken v.place) h
first-24 kept (broken q) p h = let n : ◌≡◌ {A = ℕ} 25 24 = ap (λ (v : Verdict). v.number) h in absurd (omega arith)
first-24 kept kept p h = let n : ◌≡◌ {A = ℕ} 0 24 = ap (λ (v : Verdict). v.number) h in absurd (omega arith)

first-25 : (o o' : Outcome) (p : ℕ) → or_else 24 o (or_else 25 o' (verdict 0 0)) ≡ verdict 25 p → (o ≡ kept) × (o' ≡ broken p)
first-25 (broken q) o' p h = let n : ◌≡◌ {A = ℕ} 24 25 = ap (λ (v : Verdict). v.number) h in absurd (omega arith)
first-25 kept (broken q) p h = (refl, ap (λ (v : Verdict). broken v.place) h)
first-25 kept kept p h = let n : ◌≡◌ {A = ℕ} 0 25 = ap (λ (v : Verdict). v.number) h in absurd (omega arith)

-- the first bad element, by the numbers of the elements
first-numbered : {A : Type 0} (bad : A → Bool) (place : A → ℕ) (d : A) (bad' : ℕ → Bool) (place' : ℕ → ℕ) (k : ℕ) (xs : List A)
    → ((j : ℕ) → j < length xs → bad (get_or xs j d) ≡ bad' (k + j)) → ((j : ℕ) → j < length xs → place (get_or xs j d) ≡ place' (k + j))
    → first_bad bad place xs ≡ first_bad bad' place' (build (λ i. i) k (length xs))
unfolding first_bad build
first-numbered bad place d bad' place' k [] b p = refl
first-numbered bad place d bad' place' k (x ∷ xs) b p =
    let t : bad x ≡ bad' k = b 0 (suc-le-suc zero-le) ∙ ap bad' (add-zero k) in
    let q : place x ≡ place' k = p 0 (suc-le-suc zero-le) ∙ ap place' (add-zero k) in
    let r = first-numbered bad place d bad' place' (suc k) xs
    (λ j l. b (suc j) (suc-le-suc l) ∙ ap bad' (omega arith)) (λ j l. p (suc j) (suc-le-suc l) ∙ ap place' (omega arith)) in
    λ i. cond (t i) (broken (q i)) (r i)

nth_number : (k i : ℕ) → i < k → get_or (build (λ j. j) 0 k) i 0 ≡ i
nth_number k i l = get_or-build (λ j. j) 0 0 k i l ∙ zero-add i

module _ (r : Runs) (kept17 : rule17 r (keys r) ≡ kept) where
  -- the test of rule 24 at key i
  far-test : (i : ℕ) → i < key_count r → too_far (get_or (moved_keys r) i no_key_entry) ≡ far r i
  unfolding too_far fourth far
  far-test i h = ap too_far (new-entry r kept17 i h) ∙ go (eqb (key_at r i).location 0) refl
    where
      go : (b : Bool) → eqb (key_at r i).location 0 ≡ b → too_far (with_index (key_at r i) (fourth r i)) ≡ far r i
      go true p = rw p
      go false p = rw p

  -- rule 24 tests key by key
  rule24-far : rule24 r ≡ first_bad (far r) (λ i. (key_at r i).key) (key_numbers r)
  unfolding rule24
  rule24-far =
      first-numbered too_far (λ e. e.key) no_key_entry (far r) (λ i. (key_at r i).key) 0 (moved_keys r)
      (λ j l. far-test j (in_moved j l) ∙ ap (far r) (sym (zero-add j)))
      (λ j l. ap (λ (e : KeyEntry). e.key) (new-entry r kept17 j (in_moved j l)) ∙ ap (λ (i : ℕ). (key_at r i).key) (sym (zero-add j)))
      ∙ ap (λ (n : ℕ). first_bad (far r) (λ i. (key_at r i).key) (build (λ i. i) 0 n)) (length-moved_keys r)
    where
      in_moved : (j : ℕ) → j < length (moved_keys r) → j < key_count r
      in_moved j l = omega (arith, length-moved_keys r)

  none_kept : NoneFar r → rule24 r ≡ kept
  none_kept n = rule24-far ∙ all-kept (far r) _ (key_numbers r) 0 each
    where
      each : (i : ℕ) → i < length (key_numbers r) → far r (get_or (key_numbers r) i 0) ≡ false
      each i l =
          let h : i < key_count r = omega (arith, length-build (λ (j : ℕ). j) 0 (key_count r)) in
          ap (far r) (nth_number (key_count r) i h) ∙ n i h

  kept-none : rule24 r ≡ kept → NoneFar r
  kept-none h i l =
      ap (far r) (sym (nth_number (key_count r) i l))
      ∙ kept-all (far r) _ (key_numbers r) 0 (sym rule24-far ∙ h) i (omega (arith, length-build (λ (j : ℕ). j) 0 (key_count r)))

  short-broken : (m : ℕ) → m < bytes_needed r → rule25 r m ≡ broken (bytes_needed r)
  unfolding rule25
  short-broken m h = rw (block-long r, lt-ltb m (bytes_needed r) h)

  broken-short : (m p : ℕ) → rule25 r m ≡ broken p → (m < bytes_needed r) × (p ≡ bytes_needed r)
  unfolding rule25
  broken-short m p h = go (ltb m (bytes_needed r)) refl (rw block-long at h)
    where
      go : (b : Bool) → ltb m (bytes_needed r) ≡ b → breaks b (bytes_needed r) ≡ broken p → (m < bytes_needed r) × (p ≡ bytes_needed r)
      go true e q = (ltb-true _ _ e, cc)
      go false e q = absurd (false≢true cc)

  room-kept : (m : ℕ) → bytes_needed r ≤ m → rule25 r m ≡ kept
  unfolding rule25
  room-kept m h = rw (block-long r, le-ltb m (bytes_needed r) h)

  refusals : (m : ℕ) → BlockRefusals r m (block_verdict m r)
  unfolding block_verdict first
  refusals m =
      record {
        far = λ p f. rw (rule24-far ∙ fault-first (far r) _ _ p f);
        far_only = λ p h. first-fault (far r) _ _ p (sym rule24-far ∙ first-24 (rule24 r) (rule25 r m) p h);
        short = λ p t. rw (none_kept t.none, short-broken m t.room, t.place);
        short_only = λ p h.
            let b = first-25 (rule24 r) (rule25 r m) p h in
            let t = broken-short m p b.1 in
            record { none = kept-none b.0; room = t.0; place = t.1 };
        written = λ n l. rw (none_kept n, room-kept m l);
      }

-- of an accepted file
pub block-refusals : (f : List ℕ) (m : ℕ) → (verdict_of f).number ≡ 0 → BlockRefusals (runs_of (view f)) m (block_of f m).verdict
unfolding block_of block_in
block-refusals f m z =
    subst (λ (b : Block). BlockRefusals (runs_of (view f)) m b.verdict) (sym (answer-good f _ _ z)) (refusals (runs_of (view f)) (rule17-kept f z) m)
