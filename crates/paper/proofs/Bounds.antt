-- What a kept rule gives to code: that what it reads lies in the file. Assumes nothing.
use Prim.Native.Nat.{ℕ, zero, suc, ◌+◌, ◌*◌, ◌≤◌, ◌<◌, zero-le, suc-le-suc}
use mathlib.Core.Path.{◌≡◌, refl, sym, ap, ap₂, ◌∙◌, subst}
use mathlib.Core.Bool.{Bool, true, false, not, ◌&&◌, ◌||◌, true≢false, false≢true, and-false}
use mathlib.Core.List.{List, [], ◌∷◌}
use native.Mathlib.Nat.{zero-add}
use native.Mathlib.Omega.{arith}
use lib.Dec.{eqb, leb, ltb}
use lib.ListN.{length, get_or, get_or-eq_default}
use borrow.Author.Tests.{eqb-false, ltb-false, leb-true, leb-false, lt-ltb, le-leb, lt-leb, not-false, not-true}
use Rattle.paper.specs.Bytes.{num, build}
use Rattle.paper.specs.Outcome.{kept}
use Rattle.paper.specs.Layout.{odd, dir_len, sizes, size_of, typed, bad_value, entry_at, entry_of, start_of, entries, rule4, rule5, rule7}
use Rattle.paper.specs.Tests.{all}
use Rattle.paper.specs.Tags.{Line, line, table, named, no, any, has, fits_the_line, misfits, rule10, Held, find, absent, listed, in_table}
use Rattle.paper.proofs.Loops.{find_entry}
use Rattle.paper.proofs.Laws.{breaks-kept, or-false, and-eq, kept-all, all-at, none-at, length-build, get_or-build}
use Rattle.paper.specs.declared.Entry.{Entry}

pub record DirectoryAt (n at : ℕ) : Type 0 where
  pub low : 8 ≤ at
  pub count : at + 2 ≤ n

pub rule4-gives : (n at : ℕ) → rule4 n at ≡ kept → DirectoryAt n at
unfolding rule4
rule4-gives n at h =
    let a = breaks-kept (odd at || (ltb at 8 || ltb n (at + 2))) 0 h in
    let b = or-false (ltb at 8) (ltb n (at + 2)) (or-false (odd at) _ a).1 in
    record { low = ltb-false at 8 b.0; count = ltb-false n (at + 2) b.1 }

pub record Directory (n at c : ℕ) : Type 0 where
  pub some : 0 < c
  pub few : c ≤ 1024
  pub whole : at + dir_len c ≤ n

pub rule5-gives : (n at c : ℕ) → rule5 n at c ≡ kept → Directory n at c
unfolding rule5
rule5-gives n at c h =
    let a = or-false (eqb c 0) _ (breaks-kept (eqb c 0 || (ltb 1024 c || ltb n (at + dir_len c))) 0 h) in
    let b = or-false (ltb 1024 c) (ltb n (at + dir_len c)) a.1 in
    let z : c ≡ 0 → ⊥ = eqb-false c 0 a.0 in
    record { some = pos c z; few = ltb-false 1024 c b.0; whole = ltb-false n (at + dir_len c) b.1 }
  where
    pos : (k : ℕ) → (k ≡ 0 → ⊥) → 0 < k
    pos zero z = absurd (z refl)
    pos (suc k) z = suc-le-suc zero-le

-- an entry's value lies in the file
pub record Inside (n : ℕ) (e : Entry) : Type 0 where
  pub low : 8 ≤ e.start
  pub high : e.start + e.len ≤ n

-- one that stands at its offset
far-inside : (n : ℕ) (e : Entry) → bad_value n e ≡ false → typed e ≡ true → 4 < e.len → Inside n e
unfolding bad_value
far-inside n e h t l =
    let a : eqb e.count 0 || (ltb 4 e.len && (odd e.start || (ltb e.start 8 || ltb n (e.start + e.len)))) ≡ false = rw t at h in
    let b : ltb 4 e.len && (odd e.start || (ltb e.start 8 || ltb n (e.start + e.len))) ≡ false = (or-false (eqb e.count 0) _ a).1 in
    let c : odd e.start || (ltb e.start 8 || ltb n (e.start + e.len)) ≡ false = rw (lt-ltb 4 e.len l) at b in
    let d = or-false (ltb e.start 8) (ltb n (e.start + e.len)) (or-false (odd e.start) _ c).1 in
    record { low = ltb-false e.start 8 d.0; high = ltb-false n (e.start + e.len) d.1 }

near-start : (big : Bool) (at : ℕ) (dir : List ℕ) (p : ℕ) → (entry_of big at dir p).len ≤ 4 → (entry_of big at dir p).start ≡ at + (p + 8)
unfolding entry_of start_of
near-start big at dir p h = rw (le-leb _ 4 h)

-- entry i of a directory that lies in the file
pub entry-inside : (n at c : ℕ) (big : Bool) (dir : List ℕ) → 8 ≤ at → at + dir_len c ≤ n → rule7 n (entries big at c dir) ≡ kept
    → (i : ℕ) → i < c → typed (entry_at big at dir i) ≡ true → Inside n (entry_at big at dir i)
unfolding rule7 entries
entry-inside n at c big dir low fits h i l t = go (leb e.len 4) refl
  where
    e : Entry
    e = entry_at big at dir i

    good : bad_value n (entry_at big at dir i) ≡ false
    good =
        subst (λ (x : Entry). bad_value n x ≡ false) (get_or-build (entry_at big at dir) absent.entry 0 c i l ∙ ap (entry_at big at dir) (zero-add i))
        (kept-all (bad_value n) _ (build (entry_at big at dir) 0 c) absent.entry h i (subst (λ (k : ℕ). i < k) (sym (length-build (entry_at big at dir) 0 c)) l))

    go : (b : Bool) → leb (entry_at big at dir i).len 4 ≡ b → Inside n (entry_at big at dir i)
    go true q =
        let s : (entry_at big at dir i).len ≤ 4 = leb-true _ _ q in
        let p : (entry_at big at dir i).start ≡ at + (2 + 12 * i + 8) = near-start big at dir (2 + 12 * i) s in
        record { low = omega arith; high = omega arith }
    go false q = far-inside n (entry_at big at dir i) good t (leb-false _ _ q)

absent-unlisted : (tb : List Line) → listed tb absent.entry ≡ false
unfolding listed size_of
absent-unlisted tb = and-false (in_table tb 0)

-- ---- and so the value of a tag of the table, as it is found

pub found_all : (tb : List Line) (Q : Entry → Type 0) (t : ℕ) (es : List Entry) → ((i : ℕ) → i < length es → listed tb (get_or es i absent.entry) ≡ true → Q (get_or es i absent.entry))
    → listed tb (find_entry t es) ≡ true → Q (find_entry t es)
unfolding find_entry
found_all tb Q t [] h p = absurd (true≢false (sym p ∙ absent-unlisted tb))
found_all tb Q t (e ∷ es) h p = go (eqb e.tag t) refl (found_all tb Q t es (λ i l. h (suc i) (suc-le-suc l)))
  where
    go : (b : Bool) → eqb e.tag t ≡ b → (listed tb (find_entry t es) ≡ true → Q (find_entry t es)) → Q (find_entry t (e ∷ es))
    go true q r = rw q (h 0 (suc-le-suc zero-le) (rw q at p))
    go false q r = rw q (r (rw q at p))

pub found_inside : (tb : List Line) (n at c : ℕ) (big : Bool) (dir : List ℕ) (t : ℕ) → 8 ≤ at → at + dir_len c ≤ n → rule7 n (entries big at c dir) ≡ kept
    → listed tb (find_entry t (entries big at c dir)) ≡ true → Inside n (find_entry t (entries big at c dir))
unfolding entries listed
found_inside tb n at c big dir t low fits h p = found_all tb (Inside n) t (entries big at c dir) each p
  where
    each : (i : ℕ) → i < length (build (entry_at big at dir) 0 c) → listed tb (get_or (build (entry_at big at dir) 0 c) i absent.entry) ≡ true
        → Inside n (get_or (build (entry_at big at dir) 0 c) i absent.entry)
    each i l q =
        let k : i < c = subst (λ (m : ℕ). i < m) (length-build (entry_at big at dir) 0 c) l in
        let is : get_or (build (entry_at big at dir) 0 c) i absent.entry ≡ entry_at big at dir i =
        get_or-build (entry_at big at dir) absent.entry 0 c i k ∙ ap (entry_at big at dir) (zero-add i) in
        let u : listed tb (entry_at big at dir i) ≡ true = subst (λ (x : Entry). listed tb x ≡ true) is q in
        subst (Inside n) (sym is) (entry-inside n at c big dir low fits h i k (and-eq (in_table tb (entry_at big at dir i).tag) _ u).1)

-- ---- an entry as code makes it: the fields read one by one, and then where the value stands

module _ (big : Bool) (at : ℕ) (dir : List ℕ) (p t k c z : ℕ) (is-t : t ≡ num big 2 dir p) (is-k : k ≡ num big 2 dir (p + 2))
    (is_c : c ≡ num big 4 dir (p + 4)) (is-z : z ≡ size_of k) where
  len_is : z * c ≡ size_of (num big 2 dir (p + 2)) * num big 4 dir (p + 4)
  len_is = ap₂ (λ (a b : ℕ). a * b) (is-z ∙ ap size_of is-k) is_c

  pub near-entry : z * c ≤ 4 → record { tag = t; typ = k; count = c; start = at + (p + 8); len = z * c } ≡ entry_of big at dir p
  unfolding entry_of start_of
  near-entry h =
      let s : at + (p + 8) ≡ start_of big at dir p (z * c) = rw (le-leb (z * c) 4 h) in
      let s' = s ∙ ap (start_of big at dir p) len_is in
      λ i. record { tag = is-t i; typ = is-k i; count = is_c i; start = s' i; len = len_is i }

  pub far-entry : (o : ℕ) → o ≡ num big 4 dir (p + 8) → 4 < z * c → record { tag = t; typ = k; count = c; start = o; len = z * c } ≡ entry_of big at dir p
  unfolding entry_of start_of
  far-entry o q h =
      let s : o ≡ start_of big at dir p (z * c) = rw (lt-leb (z * c) 4 h) q in
      let s' = s ∙ ap (start_of big at dir p) len_is in
      λ i. record { tag = is-t i; typ = is-k i; count = is_c i; start = s' i; len = len_is i }

-- a type beyond the table has size 0
pub size-past : (k : ℕ) → 13 ≤ k → size_of k ≡ 0
unfolding size_of
size-past k h = get_or-eq_default sizes 0 h

-- ---- rule 10 kept: a present tag of the table is as its line says

abbrev pub no_line : Line
no_line = line 0 no 0 0 0 0 any

pub table-named : all named table ≡ true
unfolding all named table
table-named = refl

-- every entry of the tag fits its line
each_fits : (tb : List Line) (hs : List Held) → rule10 tb hs ≡ kept → (i : ℕ) → i < length tb → (j : ℕ) → j < length hs
    → eqb (get_or hs j absent).entry.tag (get_or tb i no_line).tag ≡ true → fits_the_line (get_or tb i no_line) (get_or hs j absent).entry ≡ true
unfolding rule10 misfits
each_fits tb hs h i l j k e =
    let m : eqb (get_or hs j absent).entry.tag (get_or tb i no_line).tag && not (fits_the_line (get_or tb i no_line) (get_or hs j absent).entry) ≡ false =
    none-at _ hs absent (kept-all (misfits hs) _ tb no_line h i l) j k in
    not-false _ (rw e at m)

-- where the one that is found stands
record FoundAt (t : ℕ) (hs : List Held) : Type 0 where
  at : ℕ
  is : at < length hs
  same : get_or hs at absent ≡ find t hs

found_at : (t : ℕ) (hs : List Held) → not (eqb 0 t) ≡ true → has t hs ≡ true → FoundAt t hs
unfolding has find
found_at t [] z p = absurd (false≢true (sym (not-true _ z) ∙ p))
found_at t (h ∷ hs) z p = go (eqb h.entry.tag t) refl (found_at t hs z)
  where
    go : (b : Bool) → eqb h.entry.tag t ≡ b → (has t hs ≡ true → FoundAt t hs) → FoundAt t (h ∷ hs)
    go true e r = record { at = 0; is = suc-le-suc zero-le; same = rw e }
    go false e r =
        let x : FoundAt t hs = r (rw e at p) in
        record { at = suc x.at; is = suc-le-suc x.is; same = rw e x.same }

pub fits_line : (tb : List Line) → all named tb ≡ true → (hs : List Held) → rule10 tb hs ≡ kept → (i : ℕ) → i < length tb
    → has (get_or tb i no_line).tag hs ≡ true → fits_the_line (get_or tb i no_line) (find (get_or tb i no_line).tag hs).entry ≡ true
unfolding named has
fits_line tb n hs h i l p =
    let t : ℕ = (get_or tb i no_line).tag in
    let x : FoundAt t hs = found_at t hs (all-at named tb no_line n i l) p in
    subst (λ (y : Held). fits_the_line (get_or tb i no_line) y.entry ≡ true) x.same
    (each_fits tb hs h i l x.at x.is (ap (λ (y : Held). eqb y.entry.tag t) x.same ∙ p))
