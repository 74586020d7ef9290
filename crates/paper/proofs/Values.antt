-- The value of a tag of an accepted file: it is a part of the file, with the type and the count that the table asks for. Assumes nothing.
use Prim.Native.Nat.{ℕ, zero, suc, ◌+◌, ◌*◌, ◌≤◌, ◌<◌}
use mathlib.Core.Path.{◌≡◌, refl, sym, ap, ap₂, ◌∙◌, subst}
use mathlib.Core.Bool.{Bool, true, false, not, ◌||◌, ◌&&◌, true≢false, false≢true}
use mathlib.Core.List.{List, [], ◌∷◌}
use native.Mathlib.Nat.{add-zero, mul-zero, mul-suc, mul-le-mul_left}
use native.Mathlib.Omega.{arith}
use lib.Dec.{eqb, leb, ltb}
use lib.ListN.{length, get_or}
use borrow.Author.Tests.{eqb-true, leb-true, ltb-true, not-false}
use Rattle.paper.specs.Bytes.{run, num, build}
use Rattle.paper.specs.Outcome.{Outcome, kept, broken, first_of}
use Rattle.paper.specs.Tests.{all, some}
use Rattle.paper.specs.Layout.{size_of, dir_len, entry_at, entry_of, entries}
use Rattle.paper.specs.Tags.{Line, table, Held, hold, find, absent, has, listed, in_table, bytes_of, count_of, value_of, tiled, lacks, rule9, fits_the_line}
use Rattle.paper.specs.Judge.{view, verdict_of, head_in, count_in, dir_run, view_at, entries_in}
use Rattle.paper.specs.Shown.{has_tag, start_in, number_in, value_in}
use Rattle.paper.proofs.Laws.{and-eq, or_same, run-length-in, num-run, length-build, get_or-build, all-at, kept-all}
use Rattle.paper.proofs.Keeps.{rule4-kept, rule5-kept, rule7-kept, rule9-kept, rule10-kept}
use Rattle.paper.proofs.Loops.{find_entry, find-entry}
use Rattle.paper.proofs.Bounds.{Inside, rule4-gives, rule5-gives, found_all, found_inside, no_line, table-named, fits_line}
use Rattle.paper.proofs.Held.{held_bytes, tag-part}
use Rattle.paper.specs.declared.Entry.{Entry}

-- ---- tests taken apart

-- a rule of several tests: where it is kept, so is each
pub each-kept : (os : List Outcome) → first_of os ≡ kept → (i : ℕ) → get_or os i kept ≡ kept
unfolding first_of
each-kept [] h i = refl
each-kept (kept ∷ os) h zero = refl
each-kept (kept ∷ os) h (suc i) = each-kept os h i
each-kept (broken p ∷ os) h i = cc

-- the second passes where the first does, if it is a fault that it does not
pub nand : (a b : Bool) → a && not b ≡ false → a ≡ true → b ≡ true
nand true b h p = not-false b h
nand false b h p = absurd (false≢true p)

-- ---- a part of a value

-- a number in the value is a number in the file
pub tag-number : (f : List ℕ) (t : ℕ) (big : Bool) (w a : ℕ) → 0 < w → a + w ≤ length (bytes_of t (view f).held)
    → num big w (bytes_of t (view f).held) a ≡ num big w f (start_in f t + a)
tag-number f t big w a p l =
    let s : List ℕ = bytes_of t (view f).held in
    ap (num big w s) (sym (add-zero a))
    ∙ sym (num-run big w s a w 0 (omega arith))
    ∙ sym (ap (λ (x : List ℕ). num big w x 0) (tag-part f t a w (omega arith) l).same)
    ∙ num-run big w f (start_in f t + a) w 0 (omega arith)
    ∙ ap (num big w f) (add-zero (start_in f t + a))

-- ---- presence

-- an absent tag has no bytes
pub absent-empty : (t : ℕ) (hs : List Held) → has t hs ≡ false → bytes_of t hs ≡ []
unfolding has find
absent-empty t [] n = refl
absent-empty t (h ∷ hs) n = go (eqb h.entry.tag t) refl (absent-empty t hs)
  where
    go : (b : Bool) → eqb h.entry.tag t ≡ b → (has t hs ≡ false → (find t hs).bytes ≡ []) → (find t (h ∷ hs)).bytes ≡ []
    go true e r = let x : eqb h.entry.tag t ≡ false = rw e at n in absurd (true≢false (sym e ∙ x))
    go false e r = rw e (r (rw e at n))

-- ---- the length of a value

-- an entry's length is as its type and count say
len_is : (big : Bool) (at c : ℕ) (dir : List ℕ) (t : ℕ) → listed table (find_entry t (entries big at c dir)) ≡ true
    → (find_entry t (entries big at c dir)).len ≡ size_of (find_entry t (entries big at c dir)).typ * (find_entry t (entries big at c dir)).count
unfolding entries entry_of
len_is big at c dir t p = found_all table Sized t (build (entry_at big at dir) 0 c) each p
  where
    Sized : Entry → Type 0
    Sized e = e.len ≡ size_of e.typ * e.count

    each : (i : ℕ) → i < length (build (entry_at big at dir) 0 c) → listed table (get_or (build (entry_at big at dir) 0 c) i absent.entry) ≡ true
        → Sized (get_or (build (entry_at big at dir) 0 c) i absent.entry)
    each i l q =
        let k : i < c = subst (λ (m : ℕ). i < m) (length-build (entry_at big at dir) 0 c) l in
        subst Sized (sym (get_or-build (entry_at big at dir) absent.entry 0 c i k)) refl

-- ---- a tag of the table

-- line i of the table, whether the file has its tag, and the tag's entry
abbrev pub line_at : ℕ → Line
line_at i = get_or table i no_line

abbrev pub has_line : List ℕ → ℕ → Bool
has_line f i = has_tag f (line_at i).tag

abbrev pub entry_in : List ℕ → ℕ → Entry
entry_in f i = (find (line_at i).tag (view f).held).entry

-- of a line, that its tag is in the table and that its types have bytes
unfoldable readable : Line → Bool
readable l = in_table table l.tag && (ltb 0 (size_of l.type) && ltb 0 (size_of l.other))

all-readable : all readable table ≡ true
unfolding all readable table in_table some size_of
all-readable = refl

module _ (f : List ℕ) (z : (verdict_of f).number ≡ 0) where
  -- the bytes of a value on the reading list are all there
  pub value-long : (t : ℕ) → listed table (find t (view f).held).entry ≡ true
      → length (bytes_of t (view f).held) ≡ size_of (find t (view f).held).entry.typ * count_of t (view f).held
  unfolding view view_at entries_in hold
  value-long t p =
      let e : Entry = (find t (view f).held).entry in
      let is : (find t (view f).held).entry ≡ find_entry t (entries_in f (head_in f)) = find-entry table f t (entries_in f (head_in f)) in
      let q : listed table (find_entry t (entries_in f (head_in f))) ≡ true = rw is at p in
      let low : 8 ≤ (head_in f).at = (rule4-gives _ _ (rule4-kept f z)).low in
      let whole : (head_in f).at + dir_len (count_in f (head_in f)) ≤ length f = (rule5-gives _ _ _ (rule5-kept f z)).whole in
      let in-file : Inside (length f) (find t (view f).held).entry =
      rw is (found_inside table (length f) (head_in f).at (count_in f (head_in f)) (head_in f).big (dir_run f (head_in f)) t low whole (rule7-kept f z) q) in
      let bytes : bytes_of t (view f).held ≡ run f e.start e.len = held_bytes table f t (entries_in f (head_in f)) ∙ rw p in
      let len : e.len ≡ size_of e.typ * e.count = rw is (len_is (head_in f).big (head_in f).at (count_in f (head_in f)) (dir_run f (head_in f)) t q) in
      ap length bytes ∙ run-length-in f e.start e.len in-file.high ∙ len

  -- ---- a present tag of the table is as its line says

  -- its count is from the least to the most
  pub present-count : (i : ℕ) → i < length table → has_line f i ≡ true → ((line_at i).least ≤ (entry_in f i).count) × ((entry_in f i).count ≤ (line_at i).most)
  unfolding fits_the_line
  present-count i l p =
      let fit = (and-eq (eqb (entry_in f i).typ (line_at i).type || eqb (entry_in f i).typ (line_at i).other) _ (fits_line table table-named (view f).held (rule10-kept f z) i l p)).1 in
      let both = and-eq (leb (line_at i).least (entry_in f i).count) _ fit in
      (leb-true _ _ both.0, leb-true _ _ both.1)

  -- its type, where the line has one
  pub present-type : (i : ℕ) → i < length table → has_line f i ≡ true → (line_at i).type ≡ (line_at i).other → (entry_in f i).typ ≡ (line_at i).type
  unfolding fits_the_line
  present-type i l p one =
      let fit = (and-eq (eqb (entry_in f i).typ (line_at i).type || eqb (entry_in f i).typ (line_at i).other) _ (fits_line table table-named (view f).held (rule10-kept f z) i l p)).0 in
      eqb-true _ _ (or_same _ (rw (← one) at fit))

  -- its value is on the reading list
  pub present-listed : (i : ℕ) → i < length table → has_line f i ≡ true → listed table (entry_in f i) ≡ true
  unfolding listed fits_the_line has readable
  present-listed i l p =
      let tag : (entry_in f i).tag ≡ (line_at i).tag = eqb-true _ _ p in
      let good = and-eq (in_table table (line_at i).tag) _ (all-at readable table no_line all-readable i l) in
      let sizes = and-eq (ltb 0 (size_of (line_at i).type)) _ good.1 in
      let fit = (and-eq (eqb (entry_in f i).typ (line_at i).type || eqb (entry_in f i).typ (line_at i).other) _ (fits_line table table-named (view f).held (rule10-kept f z) i l p)).0 in
      rw (tag, good.0) (either (eqb (entry_in f i).typ (line_at i).type) refl sizes.0 sizes.1 fit)
    where
      either : (b : Bool) → eqb (entry_in f i).typ (line_at i).type ≡ b → ltb 0 (size_of (line_at i).type) ≡ true → ltb 0 (size_of (line_at i).other) ≡ true
          → eqb (entry_in f i).typ (line_at i).type || eqb (entry_in f i).typ (line_at i).other ≡ true → ltb 0 (size_of (entry_in f i).typ) ≡ true
      either true e x y fit = let is : (entry_in f i).typ ≡ (line_at i).type = eqb-true _ _ e in rw is x
      either false e x y fit = let is : (entry_in f i).typ ≡ (line_at i).other = eqb-true _ _ (rw e at fit) in rw is y

  -- a number that it holds is the number in the file
  pub present-number : (i k : ℕ) → i < length table → has_line f i ≡ true → k < (entry_in f i).count
      → num (head_in f).big (size_of (entry_in f i).typ) (bytes_of (line_at i).tag (view f).held) (size_of (entry_in f i).typ * k) ≡ number_in f (line_at i).tag k
  unfolding number_in listed
  present-number i k l p h =
      let w : ℕ = size_of (entry_in f i).typ in
      let there = present-listed i l p in
      let some : 0 < w = ltb-true 0 w (and-eq (in_table table (entry_in f i).tag) _ there).1 in
      let up : w * suc k ≤ w * (entry_in f i).count = mul-le-mul_left w h in
      let fits : w * k + w ≤ length (bytes_of (line_at i).tag (view f).held) =
      subst (λ (n : ℕ). w * k + w ≤ n) (sym (value-long (line_at i).tag there)) (subst (λ (n : ℕ). n ≤ w * (entry_in f i).count) (mul-suc w k) up) in
      tag-number f (line_at i).tag (head_in f).big w (w * k) some fits

  -- the first of them
  pub present-value : (i : ℕ) → i < length table → has_line f i ≡ true → 1 ≤ (line_at i).least
      → value_of (head_in f).big (line_at i).tag (view f).held ≡ value_in f (line_at i).tag
  unfolding value_of
  present-value i l p one =
      let w : ℕ = size_of (entry_in f i).typ in
      let some : 0 < (entry_in f i).count = omega (arith, (present-count i l p).0) in
      ap (num (head_in f).big w (bytes_of (line_at i).tag (view f).held)) (sym (mul-zero w)) ∙ present-number i 0 l p some

  -- n doubles, where the table asks for just n
  pub present-doubles : (i n : ℕ) → i < length table → has_line f i ≡ true
      → (line_at i).type ≡ 12 → (line_at i).other ≡ 12 → (line_at i).least ≡ n → (line_at i).most ≡ n → length (bytes_of (line_at i).tag (view f).held) ≡ 8 * n
  unfolding size_of
  present-doubles i n l p a b c d =
      let typ : (entry_in f i).typ ≡ 12 = present-type i l p (a ∙ sym b) ∙ a in
      let many = present-count i l p in
      let low : n ≤ (entry_in f i).count = rw c at many.0 in
      let high : (entry_in f i).count ≤ n = rw d at many.1 in
      let count : (entry_in f i).count ≡ n = omega arith in
      value-long (line_at i).tag (present-listed i l p) ∙ ap₂ (λ (x y : ℕ). size_of x * y) typ count

  -- ---- rule 9: a needed tag is there

  pub needed : (i : ℕ) → i < length table → (line_at i).needed (tiled (view f).held) ≡ true → has_line f i ≡ true
  unfolding rule9 lacks
  needed i l p = nand ((line_at i).needed (tiled (view f).held)) _ (kept-all (lacks (view f).held) (λ (x : Line). x.tag) table no_line (rule9-kept f z) i l) p
