-- What was found of each tag of a table says of the tag: it is present exactly where its start is not 0. Assumes nothing.
use Prim.Native.Nat.{ℕ, zero, suc, ◌+◌, ◌*◌, ◌≤◌, ◌<◌}
use mathlib.Core.Path.{◌≡◌, refl, sym, ap, ◌∙◌, subst}
use mathlib.Core.Bool.{Bool, true, false, not, or-true}
use mathlib.Core.List.{List, [], ◌∷◌}
use mathlib.Core.Logic.{◌⊎◌}
use Rattle.std.proofs.Common.{inl, inr, zero-le}
use Rattle.std.proofs.lemmas.List.{get_or-map}
use native.Mathlib.Nat.{not-suc-le-zero, le_of_suc-le-suc, zero-mul}
use native.Mathlib.Omega.{arith}
use lib.Dec.{eqb}
use lib.ListN.{length, get_or, length-map}
use borrow.Author.Tests.{ne_eqb, eq-eqb, ltb-false, not-true}
use Rattle.paper.specs.Bytes.{run, num}
use Rattle.paper.specs.declared.Outcome.TheVariants.{Kept as kept}
use Rattle.paper.specs.Tests.{all, some}
use Rattle.paper.specs.Layout.{dir_len, size_of, typed, start_of, entry_of, entry_at, entries, rule7}
use Rattle.paper.specs.Tags.{Line, in_table, Held, find, absent, has, bytes_of, named}
use Rattle.paper.specs.declared.Entry.{Entry}
use Rattle.paper.proofs.Laws.{all-at}
use Rattle.paper.proofs.Loops.{find-entry}
use Rattle.paper.proofs.Bounds.{no_line, entry-inside}
use Rattle.layout.specs.Columns.{first_with}
use Rattle.layout.proofs.Sizes.{len_of}
use Rattle.layout.proofs.Columns.{firsts-length, firsts-at}
use Rattle.layout.proofs.Finding.{first-entry, Placed, first-placed}
use Rattle.layout.proofs.Values.{entry-within, found-bytes}
use Rattle.lines.specs.Lined.{line_tags}
use Rattle.lines.specs.Ready.{entries_at, held_at, at_slot, Ready}

-- ---- the lines

tags-long : (tb : List Line) → length (line_tags tb) ≡ length tb
unfolding line_tags
tags-long tb = length-map tb (λ (l : Line). l.tag)

-- line k's tag is in the table
tag-listed : (tb : List Line) (k : ℕ) → k < length tb → in_table tb (get_or tb k no_line).tag ≡ true
unfolding in_table some
tag-listed [] k h = absurd (not-suc-le-zero h)
tag-listed (l ∷ ls) zero h = rw (eq-eqb l.tag l.tag refl)
tag-listed (l ∷ ls) (suc k) h = rw (tag-listed ls k (le_of_suc-le-suc h), or-true)

-- ---- an entry that is found

untyped-start : (big : Bool) (at : ℕ) (dir : List ℕ) (p : ℕ) → typed (entry_of big at dir p) ≡ false → (entry_of big at dir p).start ≡ at + (p + 8)
unfolding entry_of start_of
untyped-start big at dir p h =
    let z : size_of (num big 2 dir (p + 2)) ≡ 0 = omega (arith, ltb-false 0 (size_of (num big 2 dir (p + 2))) h) in
    rw (z, zero-mul (num big 4 dir (p + 4)))

-- the entry e of tag t in a file of n bytes: present exactly where its start is not 0
pub record Whole (n t : ℕ) (e : Entry) : Type 0 where
  pub has : eqb e.tag t ≡ not (eqb e.start 0)
  pub none : e.start ≡ 0 → e.len ≡ 0
  pub size : e.len ≡ size_of e.typ * e.count
  pub within : e.start + e.len ≤ n

module _ (n at c : ℕ) (big : Bool) (dir : List ℕ) (low : 8 ≤ at) (fits : at + dir_len c ≤ n) (seven : rule7 n (entries big at c dir) ≡ kept) where
  starts-behind : (i : ℕ) → i < c → 0 < (entry_at big at dir i).start
  starts-behind i l = go (typed (entry_at big at dir i)) refl
    where
      go : (b : Bool) → typed (entry_at big at dir i) ≡ b → 0 < (entry_at big at dir i).start
      go true q = omega (arith, (entry-inside n at c big dir low fits seven i l q).low)
      go false q = omega (arith, untyped-start big at dir (2 + 12 * i) q)

  whole : (t : ℕ) → eqb 0 t ≡ false → Whole n t (first_with t (entries big at c dir))
  unfolding size_of
  whole t z = go (first-placed t big at c dir)
    where
      go : (first_with t (entries big at c dir) ≡ absent.entry) ⊎ ((i : ℕ) × Placed t big at c dir i) → Whole n t (first_with t (entries big at c dir))
      go (inl none) = rw none record { has = z; none = λ e. refl; size = refl; within = zero-le }
      go (inr (i, p)) =
          let y : (entry_at big at dir i).start ≡ 0 → ⊥ = λ q. omega (arith, starts-behind i p.low) in
          subst (Whole n t) (sym p.entry) record {
            has = eq-eqb _ _ p.tag ∙ sym (ap not (ne_eqb _ 0 y));
            none = λ q. absurd (y q);
            size = len_of big at dir (2 + 12 * i) _ refl;
            within = entry-within n at c big dir low fits seven i p.low;
          }

-- ---- a tag of the table

-- tag t, whose line is k, with its entry among those found
pub record Slot (f : List ℕ) (hs : List Held) (found : List Entry) (t k : ℕ) : Type 0 where
  pub entry : (find t hs).entry ≡ at_slot found k
  pub bytes : bytes_of t hs ≡ run f (at_slot found k).start (at_slot found k).len
  pub present : has t hs ≡ not (eqb (at_slot found k).start 0)
  pub none : (at_slot found k).start ≡ 0 → (at_slot found k).len ≡ 0
  pub size : (at_slot found k).len ≡ size_of (at_slot found k).typ * (at_slot found k).count
  pub within : (at_slot found k).start + (at_slot found k).len ≤ length f

module _ {tb : List Line} {f : List ℕ} {big : Bool} {at c : ℕ} {found : List Entry} (r : Ready tb f big at c found) where
  abbrev Es : List Entry
  Es = entries_at f big at c

  abbrev Hs : List Held
  Hs = held_at tb f big at c

  pub whole_of : (t : ℕ) → eqb 0 t ≡ false → Whole (length f) t (first_with t (entries_at f big at c))
  unfolding entries_at
  whole_of t z = whole (length f) at c big (run f at (dir_len c)) r.low r.whole r.seven t z

  pub held-is : (t : ℕ) → (find t (held_at tb f big at c)).entry ≡ first_with t (entries_at f big at c)
  unfolding held_at
  held-is t = find-entry tb f t Es ∙ sym (first-entry t Es)

  -- a tag is present where the entry that is found of it does not start at 0
  pub present : (t : ℕ) → eqb 0 t ≡ false → has t (held_at tb f big at c) ≡ not (eqb (first_with t (entries_at f big at c)).start 0)
  unfolding has
  present t z = ap (λ (e : Entry). eqb e.tag t) (held-is t) ∙ (whole_of t z).has

  bytes-of : (t : ℕ) → in_table tb t ≡ true → bytes_of t Hs ≡ run f (first_with t Es).start (first_with t Es).len
  unfolding held_at entries_at
  bytes-of t i = found-bytes tb f t big at c (run f at (dir_len c)) i

  pub found-long : length found ≡ length tb
  found-long = ap (λ (l : List Entry). length l) r.found_are ∙ firsts-length (line_tags tb) Es ∙ tags-long tb

  slot-is : (k : ℕ) → k < length tb → first_with (get_or tb k no_line).tag Es ≡ at_slot found k
  unfolding line_tags
  slot-is k h =
      let l : k < length (line_tags tb) = subst (λ (n : ℕ). k < n) (sym (tags-long tb)) h in
      sym (ap (λ (l : List Entry). at_slot l k) r.found_are ∙ firsts-at (line_tags tb) Es k absent.entry l ∙ ap (λ (t : ℕ). first_with t Es) (get_or-map (λ (l : Line). l.tag) tb k no_line 0 h))

  pub slot : all named tb ≡ true → (k : ℕ) → k < length tb → Slot f (held_at tb f big at c) found (get_or tb k no_line).tag k
  unfolding named
  slot names k h =
      let t = (get_or tb k no_line).tag in
      let z = not-true _ (all-at named tb no_line names k h) in
      let w : Whole (length f) (get_or tb k no_line).tag (at_slot found k) = subst (Whole (length f) t) (slot-is k h) (whole_of t z) in
      record {
        entry = held-is t ∙ slot-is k h;
        bytes = bytes-of t (tag-listed tb k h) ∙ ap (λ (e : Entry). run f e.start e.len) (slot-is k h);
        present = present t z ∙ ap (λ (e : Entry). not (eqb e.start 0)) (slot-is k h);
        none = w.none;
        size = w.size;
        within = w.within;
      }
