-- The layout of `Laid` leaves no byte open: two outputs, left of the same lent bytes, that are both laid out from the same keys are the same.
-- Assumes nothing.
use Prim.Native.Nat.{ℕ, zero, suc, ◌+◌, ◌-◌, ◌*◌, ◌/◌, ◌%◌, ◌≤◌, ◌<◌, zero-le, suc-le-suc}
use mathlib.Core.Path.{◌≡◌, refl, sym, ap, ◌∙◌, subst}
use mathlib.Core.Bool.{Bool, true, false, cond}
use mathlib.Core.List.{List, [], ◌∷◌}
use native.Mathlib.Nat.{zero-add, mul-zero, mul-suc, not-suc-le-zero}
use native.Mathlib.Omega.{arith}
use lib.Dec.{eqb, ltb}
use lib.ListN.{length, get_or, take}
use lib.Seq.{ext_get_or, get_or-drop}
use borrow.Author.Tests.{eqb-true, ltb-true, ltb-false}
use Rattle.paper.specs.Bytes.{run, num}
use Rattle.paper.specs.Keys.{Runs, minor_revision, key_count, key_at, keys, no_key_entry}
use Rattle.paper.specs.Calls.{back_of}
use Rattle.paper.specs.Asked.{Bytes, elements_of, lent_runs}
use Rattle.paper.specs.Laid.{number_at, numbers_from, total, base, start_index, directory_length, doubles_length, characters_length, bytes_needed}
use Rattle.paper.specs.Laid.{LaidEntry, LaidOut}
use Rattle.paper.proofs.Laws.{get_or-build, run-get, run-length-in, run-run}
use Rattle.paper.proofs.RoundTrip.{length-keys, key-at}
use Rattle.paper.proofs.Trip.{bytes_run}
use Rattle.paper.specs.declared.KeyEntry.{KeyEntry}
use Rattle.paper.specs.declared.Block.{Block}

-- ---- equal numbers of bytes are equal bytes

digits : (w : ℕ) (s t : List ℕ) (p : ℕ) → Bytes s → Bytes t → num false w s p ≡ num false w t p
    → (j : ℕ) → j < w → get_or s (p + j) 0 ≡ get_or t (p + j) 0
unfolding num
digits zero s t p bs bt h j l = absurd (not-suc-le-zero l)
digits (suc w) s t p bs bt h zero l =
    let q : p + 0 ≡ p = omega arith in
    rw q (omega (arith, bs p, bt p))
digits (suc w) s t p bs bt h (suc j) l =
    let q : p + suc j ≡ suc p + j = omega arith in
    rw q (digits w s t (suc p) bs bt (omega (arith, bs p, bt p)) j (omega arith))

-- byte k stands in number i, at its byte j
record Split (w n k : ℕ) : Type 0 where
  i : ℕ
  j : ℕ
  in_run : i < n
  in_number : j < w
  whole : w * i + j ≡ k

split : (w n k : ℕ) → k < w * n → Split w n k
split w zero k h = let z : w * 0 ≡ 0 = mul-zero w in absurd (omega arith)
split w (suc n) k h = go (ltb k w) refl (split w n (k - w))
  where
    go : (b : Bool) → ltb k w ≡ b → (k - w < w * n → Split w n (k - w)) → Split w (suc n) k
    go true e rec =
        record { i = 0; j = k; in_run = suc-le-suc zero-le; in_number = ltb-true k w e; whole = omega (arith, mul-zero w) }
    go false e rec =
        let l : w ≤ k = ltb-false k w e in
        let m : k - w < w * n = omega (arith, mul-suc w n) in
        let s : Split w n (k - w) = rec m in
        record {
          i = suc s.i;
          j = s.j;
          in_run = suc-le-suc s.in_run;
          in_number = s.in_number;
          whole = omega (arith, mul-suc w s.i, s.whole);
        }

same_bytes : (w n : ℕ) (s t : List ℕ) → Bytes s → Bytes t → length s ≡ w * n → length t ≡ w * n
    → ((i : ℕ) → i < n → number_at w s i ≡ number_at w t i) → s ≡ t
unfolding number_at
same_bytes w n s t bs bt ls lt h = ext_get_or 0 s t (ls ∙ sym lt) at
  where
    at : (k : ℕ) → k < length s → get_or s k 0 ≡ get_or t k 0
    at k l =
        let x : Split w n k = split w n k (omega arith) in
        subst (λ (m : ℕ). get_or s m 0 ≡ get_or t m 0) x.whole (digits w s t (w * x.i) bs bt (h x.i x.in_run) x.j x.in_number)

-- ---- each number stands in the header, in an entry, or in a value

-- number m of k
pick : (w : ℕ) (s t : List ℕ) (a k m : ℕ) (xs : List ℕ) → m < k → numbers_from w s a k ≡ xs → numbers_from w t a k ≡ xs
    → number_at w s (a + m) ≡ number_at w t (a + m)
unfolding numbers_from
pick w s t a k m xs l p q =
    sym (get_or-build (number_at w s) 0 a k m l) ∙ ap (λ (ns : List ℕ). get_or ns m 0) (p ∙ sym q) ∙ get_or-build (number_at w t) 0 a k m l

-- element j of those at a location belongs to a key
record Owned (l : ℕ) (es : List KeyEntry) (j : ℕ) : Type 0 where
  at : ℕ
  is : at < length es
  located : (get_or es at no_key_entry).location ≡ l
  low : total l (take at es) ≤ j
  high : j < total l (take at es) + (get_or es at no_key_entry).count

owned : (l : ℕ) (es : List KeyEntry) (j : ℕ) → j < total l es → Owned l es j
unfolding total
owned l [] j h = absurd (not-suc-le-zero h)
owned l (e ∷ es) j h = go (ltb j (many e)) refl (owned l es (j - many e))
  where
    many : KeyEntry → ℕ
    many x = cond (eqb x.location l) x.count 0

    here : (b : Bool) → eqb e.location l ≡ b → j < cond b e.count 0 → Owned l (e ∷ es) j
    here true p m = record { at = 0; is = suc-le-suc zero-le; located = eqb-true _ _ p; low = zero-le; high = omega arith }
    here false p m = absurd (not-suc-le-zero m)

    go : (b : Bool) → ltb j (many e) ≡ b → (j - many e < total l es → Owned l es (j - many e)) → Owned l (e ∷ es) j
    go true p rec = here (eqb e.location l) refl (ltb-true j (many e) p)
    go false p rec =
        let m : many e ≤ j = ltb-false j (many e) p in
        let x : Owned l es (j - many e) = rec (omega arith) in
        record {
          at = suc x.at;
          is = suc-le-suc x.is;
          located = x.located;
          low = omega (arith, x.low);
          high = omega (arith, x.low, x.high);
        }

-- ---- the three runs of an output

abbrev cut : Runs → List ℕ → Runs
cut r x =
    back_of (run x 0 (directory_length r)) (run x (directory_length r) (doubles_length r))
    (run x (directory_length r + doubles_length r) (characters_length r))

module _ (r : Runs) (b : Block) (out x : List ℕ) (laid : LaidOut r b out x) where
  cut-is : lent_runs x b ≡ cut r x
  unfolding lent_runs
  cut-is =
      λ i. back_of (run x 0 (laid.directory i)) (run x (laid.directory i) (laid.doubles i))
      (run x (laid.directory i + laid.doubles i) (laid.characters i))

  cut-header : numbers_from 2 (cut r x).directory 0 4 ≡ 1 ∷ 1 ∷ minor_revision r ∷ key_count r ∷ []
  cut-header = subst (λ (s : Runs). numbers_from 2 s.directory 0 4 ≡ 1 ∷ 1 ∷ minor_revision r ∷ key_count r ∷ []) cut-is laid.header

  cut-each : (i : ℕ) → i < key_count r → LaidEntry r (cut r x) i
  cut-each i h = subst (λ (s : Runs). LaidEntry r s i) cut-is (laid.each i h)

  -- a run within the block has its length, in bytes
  cut-long : (s l : ℕ) → s + l ≤ bytes_needed r → length (run x s l) ≡ l
  cut-long s l h = run-length-in x s l (omega (arith, laid.room, laid.long))

  cut-bytes : (s l : ℕ) → s + l ≤ bytes_needed r → Bytes (run x s l)
  cut-bytes s l h =
      let e : run (take (bytes_needed r) x) s l ≡ run x s l = run-run x 0 (bytes_needed r) s l h ∙ ap (λ (k : ℕ). run x k l) (zero-add s) in
      subst (λ (n : List ℕ). Bytes n) e (bytes_run (take (bytes_needed r) x) s l laid.bytes)

-- ---- two outputs

module _ (r : Runs) (b c : Block) (out x y : List ℕ) (p : LaidOut r b out x) (q : LaidOut r c out y) where
  -- the numbers of a run that hold values
  values : (l w : ℕ) (s t : List ℕ)
      → ((i : ℕ) → i < key_count r → (key_at r i).location ≡ l → numbers_from w s (start_index r i) (key_at r i).count ≡ elements_of r (key_at r i))
      → ((i : ℕ) → i < key_count r → (key_at r i).location ≡ l → numbers_from w t (start_index r i) (key_at r i).count ≡ elements_of r (key_at r i))
      → (j : ℕ) → j < total l (keys r) → number_at w s (base r l + j) ≡ number_at w t (base r l + j)
  unfolding start_index
  values l w s t f g j h =
      let o : Owned l (keys r) j = owned l (keys r) j h in
      let is : o.at < key_count r = omega (arith, length-keys r, o.is) in
      let key : get_or (keys r) o.at no_key_entry ≡ key_at r o.at = key-at r o.at is in
      let loc : (key_at r o.at).location ≡ l = ap (λ (e : KeyEntry). e.location) (sym key) ∙ o.located in
      let many : (get_or (keys r) o.at no_key_entry).count ≡ (key_at r o.at).count = ap (λ (e : KeyEntry). e.count) key in
      let start : start_index r o.at ≡ base r l + total l (take o.at (keys r)) = rw loc in
      let here : start_index r o.at + (j - total l (take o.at (keys r))) ≡ base r l + j = omega (arith, start, o.low) in
      subst (λ (k : ℕ). number_at w s k ≡ number_at w t k) here
      (pick w s t (start_index r o.at) (key_at r o.at).count (j - total l (take o.at (keys r))) (elements_of r (key_at r o.at))
      (omega (arith, many, o.low, o.high)) (f o.at is loc) (g o.at is loc))

  directory-number : (i : ℕ) → i < 4 + 4 * key_count r + total 34735 (keys r)
      → number_at 2 (cut r x).directory i ≡ number_at 2 (cut r y).directory i
  unfolding base
  directory-number i h = go (ltb i 4) refl (ltb i (4 + 4 * key_count r)) refl
    where
      go : (u : Bool) → ltb i 4 ≡ u → (v : Bool) → ltb i (4 + 4 * key_count r) ≡ v
          → number_at 2 (cut r x).directory i ≡ number_at 2 (cut r y).directory i
      go true d v e =
          let here : 0 + i ≡ i = omega arith in
          subst (λ (k : ℕ). number_at 2 (cut r x).directory k ≡ number_at 2 (cut r y).directory k) here
          (pick 2 (cut r x).directory (cut r y).directory 0 4 i _ (ltb-true i 4 d) (cut-header r b out x p) (cut-header r c out y q))
      go false d true e =
          let low : 4 ≤ i = ltb-false i 4 d in
          let high : i < 4 + 4 * key_count r = ltb-true _ _ e in
          let k : (i - 4) / 4 < key_count r = omega arith in
          let here : 4 + 4 * ((i - 4) / 4) + (i - 4) % 4 ≡ i = omega arith in
          subst (λ (k : ℕ). number_at 2 (cut r x).directory k ≡ number_at 2 (cut r y).directory k) here
          (pick 2 (cut r x).directory (cut r y).directory (4 + 4 * ((i - 4) / 4)) 4 ((i - 4) % 4) _ (omega arith)
          (cut-each r b out x p ((i - 4) / 4) k).entry (cut-each r c out y q ((i - 4) / 4) k).entry)
      go false d false e =
          let low : 4 + 4 * key_count r ≤ i = ltb-false _ _ e in
          let here : 4 + 4 * key_count r + (i - (4 + 4 * key_count r)) ≡ i = omega arith in
          subst (λ (k : ℕ). number_at 2 (cut r x).directory k ≡ number_at 2 (cut r y).directory k) here
          (values 34735 2 (cut r x).directory (cut r y).directory (λ j l. (cut-each r b out x p j l).shorts) (λ j l. (cut-each r c out y q j l).shorts)
          (i - (4 + 4 * key_count r)) (omega arith))

  same-directory : run x 0 (directory_length r) ≡ run y 0 (directory_length r)
  unfolding directory_length bytes_needed back_of
  same-directory =
      let in_block : 0 + directory_length r ≤ bytes_needed r = omega arith in
      same_bytes 2 (4 + 4 * key_count r + total 34735 (keys r)) _ _ (cut-bytes r b out x p _ _ in_block) (cut-bytes r c out y q _ _ in_block)
      (cut-long r b out x p _ _ in_block) (cut-long r c out y q _ _ in_block) directory-number

  same-doubles : run x (directory_length r) (doubles_length r) ≡ run y (directory_length r) (doubles_length r)
  unfolding doubles_length bytes_needed back_of base
  same-doubles =
      let in_block : directory_length r + doubles_length r ≤ bytes_needed r = omega arith in
      same_bytes 8 (total 34736 (keys r)) _ _ (cut-bytes r b out x p _ _ in_block) (cut-bytes r c out y q _ _ in_block)
      (cut-long r b out x p _ _ in_block) (cut-long r c out y q _ _ in_block)
      (λ i h. rw zero-add at
      (values 34736 8 (cut r x).doubles (cut r y).doubles (λ j l. (cut-each r b out x p j l).doubles) (λ j l. (cut-each r c out y q j l).doubles) i h))

  same-characters : run x (directory_length r + doubles_length r) (characters_length r) ≡ run y (directory_length r + doubles_length r) (characters_length r)
  unfolding characters_length bytes_needed back_of base
  same-characters =
      let in_block : directory_length r + doubles_length r + characters_length r ≤ bytes_needed r = omega arith in
      let n : characters_length r ≡ 1 * total 34737 (keys r) = omega arith in
      same_bytes 1 (total 34737 (keys r)) _ _ (cut-bytes r b out x p _ _ in_block) (cut-bytes r c out y q _ _ in_block)
      (cut-long r b out x p _ _ in_block ∙ n) (cut-long r c out y q _ _ in_block ∙ n)
      (λ i h. rw zero-add at
      (values 34737 1 (cut r x).characters (cut r y).characters (λ j l. (cut-each r b out x p j l).characters) (λ j l. (cut-each r c out y q j l).characters) i h))

  -- equal runs are equal bytes of the output
  at-run : (s l k : ℕ) → run x s l ≡ run y s l → s ≤ k → k < s + l → get_or x k 0 ≡ get_or y k 0
  at-run s l k e low high =
      let i : k - s < l = omega arith in
      let here : s + (k - s) ≡ k = omega arith in
      subst (λ (m : ℕ). get_or x m 0 ≡ get_or y m 0) here
      (sym (run-get x s l (k - s) i) ∙ ap (λ (n : List ℕ). get_or n (k - s) 0) e ∙ run-get y s l (k - s) i)

  at_after : (k : ℕ) → bytes_needed r ≤ k → get_or x k 0 ≡ get_or y k 0
  at_after k low =
      let here : bytes_needed r + (k - bytes_needed r) ≡ k = omega arith in
      subst (λ (m : ℕ). get_or x m 0 ≡ get_or y m 0) here
      (sym (get_or-drop (bytes_needed r) x (k - bytes_needed r) 0)
      ∙ ap (λ (n : List ℕ). get_or n (k - bytes_needed r) 0) (p.after ∙ sym q.after)
      ∙ get_or-drop (bytes_needed r) y (k - bytes_needed r) 0)

  pub laid-once : x ≡ y
  unfolding bytes_needed
  laid-once = ext_get_or 0 x y (p.long ∙ sym q.long) (λ k l. at k)
    where
      at : (k : ℕ) → get_or x k 0 ≡ get_or y k 0
      at k = go (ltb k (directory_length r)) refl (ltb k (directory_length r + doubles_length r)) refl (ltb k (bytes_needed r)) refl
        where
          go : (t : Bool) → ltb k (directory_length r) ≡ t → (u : Bool) → ltb k (directory_length r + doubles_length r) ≡ u
              → (v : Bool) → ltb k (bytes_needed r) ≡ v → get_or x k 0 ≡ get_or y k 0
          go true d u e v f = at-run 0 (directory_length r) k same-directory zero-le (omega (arith, ltb-true k (directory_length r) d))
          go false d true e v f = at-run (directory_length r) (doubles_length r) k same-doubles (ltb-false _ _ d) (ltb-true _ _ e)
          go false d false e true f =
              at-run (directory_length r + doubles_length r) (characters_length r) k same-characters (ltb-false _ _ e) (ltb-true _ _ f)
          go false d false e false f = at_after k (ltb-false _ _ f)
