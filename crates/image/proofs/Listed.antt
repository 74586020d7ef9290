-- The entries that the pass over a directory finds of a table's tags, with those of 50909 behind the first where the table has it, and the directory
-- are what may be read of it: a place shares a byte with one of their parts exactly where it shares one with the list. With the head that is the full
-- reading list. Where rule 6 is kept, each other tag of the table has one entry. Assumes nothing.
use Prim.Native.Nat.{ℕ, zero, suc, ◌+◌, ◌*◌, ◌≤◌, ◌<◌, min, max}
use mathlib.Core.Path.{◌≡◌, refl, sym, ap, ap₂, ◌∙◌}
use mathlib.Core.Bool.{Bool, true, false, cond, ◌&&◌, ◌||◌, and-true, and-false, or-true, or-false, or_comm, false≢true}
use mathlib.Core.List.{List, [], ◌∷◌, ◌++◌, map, append_assoc}
use native.Mathlib.Omega.{arith}
use lib.Dec.{eqb, ltb}
use lib.ListN.{get_or, drop}
use borrow.Author.Tests.{eqb-true, eqb-false, eq-eqb, ne_eqb, ltb-true, ltb-false, lt-ltb, le-leb}
use Rattle.paper.specs.Bytes.{num, build}
use Rattle.paper.specs.Outcome.{first, ◌▸◌}
use Rattle.paper.specs.declared.Outcome.{Outcome}
use Rattle.paper.specs.declared.Outcome.TheVariants.{Kept as kept}
use Rattle.paper.specs.Tests.{some, keep}
use Rattle.paper.specs.Layout.{dir_len, size_of, start_of, typed, entries, entry_at, entry_of, behind, rule6}
use Rattle.paper.specs.Tags.{Line, in_table, listed, hold}
use Rattle.paper.specs.Pieces.{part, Piece, shares, directory_list, full_list, touches, rule13, rule14}
use Rattle.paper.specs.declared.Part.{Part}
use Rattle.paper.specs.declared.Entry.{Entry}
use Rattle.paper.specs.Asked.{no_piece}
use Rattle.paper.specs.Tag
use Rattle.paper.proofs.Laws.{first-same, some-append}
use Rattle.paper.proofs.Loops.{listed_is, some-values}
use Rattle.paper.proofs.Several.{some-keep, rises-behind, no_other}
use Rattle.layout.specs.Columns.{first_with, firsts}
use Rattle.layout.specs.Parts.{value_part}
use Rattle.layout.specs.Repeats.{later_texts}
use Rattle.layout.proofs.Values.{untyped-len}
use Rattle.lines.specs.Lined.{line_tags}
use Rattle.pieces.specs.Gaps.{wide, parts_of}
use Rattle.pieces.specs.Spans.{places_judged}

-- the value bytes of the entries of 50909 behind the first
unfoldable pub later_parts : List Entry → List Part
later_parts es = map value_part (later_texts es)

-- ---- whether one of many passes a test

pub keep_append : {A : Type 0} (is : A → Bool) (xs ys : List A) → keep is (xs ++ ys) ≡ keep is xs ++ keep is ys
unfolding keep
keep_append is [] ys = refl
keep_append {A} is (x ∷ xs) ys = go (is x) (keep_append is xs ys)
  where
    go : (b : Bool) → keep is (xs ++ ys) ≡ keep is xs ++ keep is ys → cond b (x ∷ keep is (xs ++ ys)) (keep is (xs ++ ys)) ≡ cond b (x ∷ keep is xs) (keep is xs) ++ keep is ys
    go true h = ap (λ (l : List A). x ∷ l) h
    go false h = h

some-map : {A B : Type 0} (is : B → Bool) (g : A → B) (xs : List A) → some is (map g xs) ≡ some (λ x. is (g x)) xs
unfolding some
some-map is g [] = refl
some-map is g (x ∷ xs) = ap (λ (b : Bool). is (g x) || b) (some-map is g xs)

pub some_or : {A : Type 0} (p q : A → Bool) (xs : List A) → some (λ x. p x || q x) xs ≡ some p xs || some q xs
unfolding some
some_or p q [] = refl
some_or p q (x ∷ xs) = ap (λ (b : Bool). p x || q x || b) (some_or p q xs) ∙ swap (p x) (q x) (some p xs) (some q xs)
  where
    swap : (a b c d : Bool) → a || b || (c || d) ≡ a || c || (b || d)
    swap true b c d = refl
    swap false true c d = sym (or-true c)
    swap false false c d = refl

-- a test that passes at x alone
some-only : (q : ℕ → Bool) (x : ℕ) → ((t : ℕ) → eqb t x ≡ false → q t ≡ false) → (ts : List ℕ) → some q ts ≡ some (λ t. eqb t x) ts && q x
unfolding some
some-only q x h [] = refl
some-only q x h (t ∷ ts) = go (eqb t x) refl (some-only q x h ts)
  where
    go : (b : Bool) → eqb t x ≡ b → some q ts ≡ some (λ t. eqb t x) ts && q x → some q (t ∷ ts) ≡ some (λ t. eqb t x) (t ∷ ts) && q x
    go true e r = rw (e, r, eqb-true t x e) (again (q x) (some (λ t. eqb t x) ts))
      where
        again : (a b : Bool) → a || (b && a) ≡ a
        again true b = refl
        again false b = and-false b
    go false e r = rw (e, h t e) r

-- tests of entries that differ only where d is true
some-either : (p q : Entry → Bool) (d : Bool) (g : ℕ → Entry) (c i k : ℕ) → i + k ≤ c → ((j : ℕ) → j < c → p (g j) || d ≡ q (g j) || d)
    → some p (build g i k) || d ≡ some q (build g i k) || d
unfolding some build
some-either p q true g c i k l h = rw (or-true (some p (build g i k)), or-true (some q (build g i k)))
some-either p q false g c i k l h = ap (λ (b : Bool). b || false) (same i k l)
  where
    same : (i k : ℕ) → i + k ≤ c → some p (build g i k) ≡ some q (build g i k)
    same i zero l = refl
    same i (suc k) l =
        ap₂ (λ (a b : Bool). a || b) (sym (or-false (p (g i))) ∙ h i (omega arith) ∙ or-false (q (g i))) (same (suc i) k (omega arith))

-- ---- the values of the table's tags

in-tags : (tb : List Line) (x : ℕ) → some (λ t. eqb t x) (line_tags tb) ≡ in_table tb x
unfolding line_tags in_table
in-tags tb x = some-map (λ t. eqb t x) (λ l. l.tag) tb

module _ (is : Part → Bool) (tb : List Line) where
  -- the first value of tag t
  abbrev At : List Entry → ℕ → Bool
  At es t = is (value_part (first_with t es))

  -- one of all the values that the tag has, and one of those behind the first
  abbrev Of : List Entry → ℕ → Bool
  Of es t = some (λ e. eqb e.tag t && is (value_part e)) es

  abbrev Later : List Entry → ℕ → Bool
  Later es t = some (λ e. is (value_part e)) (drop 1 (keep (λ e. eqb e.tag t) es))

  first-or-later : is (part 0 0) ≡ false → (t : ℕ) (es : List Entry) → Of es t ≡ At es t || Later es t
  unfolding some keep first_with
  first-or-later none t [] = rw none
  first-or-later none t (e ∷ es) = go (eqb e.tag t) refl (first-or-later none t es)
    where
      go : (b : Bool) → eqb e.tag t ≡ b → Of es t ≡ At es t || Later es t → Of (e ∷ es) t ≡ At (e ∷ es) t || Later (e ∷ es) t
      go true q r = rw q (ap (λ (b : Bool). is (value_part e) || b) (sym (some-keep (λ e. eqb e.tag t) (λ e. is (value_part e)) es)))
      go false q r = rw q r

  -- an entry counts for its own tag alone
  by-tag : (e : Entry) → some (λ t. eqb e.tag t && is (value_part e)) (line_tags tb) ≡ in_table tb e.tag && is (value_part e)
  by-tag e =
      some-only (λ t. eqb e.tag t && is (value_part e)) e.tag other (line_tags tb)
      ∙ ap₂ (λ (a b : Bool). a && b) (in-tags tb e.tag) (rw (eq-eqb e.tag e.tag refl))
    where
      other : (t : ℕ) → eqb t e.tag ≡ false → eqb e.tag t && is (value_part e) ≡ false
      other t n = rw (ne_eqb e.tag t (λ z. eqb-false t e.tag n (sym z)))

  -- so to go through the tags, and for each through the entries, is to go through the entries
  by_tags : (es : List Entry) → some (Of es) (line_tags tb) ≡ some (λ e. in_table tb e.tag && is (value_part e)) es
  unfolding some
  by_tags [] = nothing (line_tags tb)
    where
      nothing : (ts : List ℕ) → some (λ t. false) ts ≡ false
      nothing [] = refl
      nothing (t ∷ ts) = nothing ts
  by_tags (e ∷ es) =
      some_or (λ t. eqb e.tag t && is (value_part e)) (Of es) (line_tags tb)
      ∙ ap₂ (λ (a b : Bool). a || b) (by-tag e) (by_tags es)

  -- the first entries are all but those of 50909 behind the first
  values-are : is (part 0 0) ≡ false → (es : List Entry) → rule6 es ≡ kept
      → some (At es) (line_tags tb) || (in_table tb Tag.metadata && some (λ e. is (value_part e)) (later_texts es)) ≡ some (λ e. in_table tb e.tag && is (value_part e)) es
  unfolding rule6 some
  values-are none es h =
      sym (ap (λ (b : Bool). some (At es) (line_tags tb) || b)
      (some-only (Later es) Tag.metadata once (line_tags tb) ∙ ap (λ (b : Bool). b && some (λ e. is (value_part e)) (later_texts es)) (in-tags tb Tag.metadata)))
      ∙ sym (some_or (At es) (Later es) (line_tags tb))
      ∙ (λ i. some (λ t. sym (first-or-later none t es) i) (line_tags tb))
      ∙ by_tags es
    where
      once : (t : ℕ) → eqb t Tag.metadata ≡ false → Later es t ≡ false
      once t n = rw (no_other (λ e. e.tag) behind t (rises-behind t n) es h)

-- a part for each tag
firsts-are : (is : Part → Bool) (tb : List Line) (es : List Entry) → some is (map value_part (firsts (line_tags tb) es)) ≡ some (At is tb es) (line_tags tb)
unfolding firsts
firsts-are is tb es = some-map is value_part _ ∙ some-map (λ e. is (value_part e)) (λ t. first_with t es) (line_tags tb)

-- ---- a value of at most 4 bytes stands in its entry, and so in the directory

shares-inside : (a : Part) (s l at m : ℕ) → at ≤ s → s + l ≤ at + m → shares a (part s l) ≡ true → shares a (part at m) ≡ true
unfolding shares
shares-inside a s l at m h k q =
    let w : max a.start s < min (a.start + a.len) (s + l) = ltb-true _ _ q in
    let v : max a.start at < min (a.start + a.len) (at + m) = omega arith in
    lt-ltb _ _ v

-- what lies in a part adds nothing to it
within : (a : Part) (s l at m : ℕ) → at ≤ s → s + l ≤ at + m → shares a (part s l) || shares a (part at m) ≡ shares a (part at m)
within a s l at m h k = go (shares a (part s l)) refl
  where
    go : (b : Bool) → shares a (part s l) ≡ b → b || shares a (part at m) ≡ shares a (part at m)
    go true e = sym (shares-inside a s l at m h k e)
    go false e = refl

near-start : (big : Bool) (at : ℕ) (dir : List ℕ) (p : ℕ) → (entry_of big at dir p).len ≤ 4 → (entry_of big at dir p).start ≡ at + (p + 8)
unfolding entry_of start_of
near-start big at dir p h = rw (le-leb (size_of (num big 2 dir (p + 2)) * num big 4 dir (p + 4)) 4 h)

-- so beside the directory only the longer values of the table's tags count; an entry of another type has no value bytes
entry-same : (tb : List Line) (a : Part) (big : Bool) (at c : ℕ) (dir : List ℕ) (j : ℕ) → j < c
    → (in_table tb (entry_at big at dir j).tag && (wide (value_part (entry_at big at dir j)) && shares a (value_part (entry_at big at dir j)))) || shares a (part at (dir_len c))
    ≡ listed_is tb (shares a) (entry_at big at dir j) || shares a (part at (dir_len c))
unfolding wide listed
entry-same tb a big at c dir j l = go (ltb 4 E.len) refl (typed E) refl
  where
    E : Entry
    E = entry_at big at dir j

    In : Bool
    In = in_table tb E.tag

    Meets : Bool
    Meets = shares a (value_part E)

    Dir : Bool
    Dir = shares a (part at (dir_len c))

    none_more : (t m d : Bool) → m || d ≡ d → (t && m) || d ≡ d
    none_more true m d h = h
    none_more false m d h = refl

    go : (b : Bool) → ltb 4 E.len ≡ b → (t : Bool) → typed E ≡ t → (In && (b && Meets)) || Dir ≡ ((In && t) && Meets) || Dir
    go true q true u = ap (λ (b : Bool). (b && Meets) || Dir) (sym (and-true In))
    go true q false u =
        let m : 4 < E.len = ltb-true 4 E.len q in
        let z : E.len ≡ 0 = untyped-len big at dir (2 + 12 * j) u in
        absurd (omega arith)
    go false q t u =
        let m : E.len ≤ 4 = ltb-false 4 E.len q in
        let s : E.start ≡ at + (2 + 12 * j + 8) = near-start big at dir (2 + 12 * j) m in
        let w : Meets || Dir ≡ Dir = within a E.start E.len at (dir_len c) (omega arith) (omega arith) in
        rw (and-false In) (sym (none_more (In && t) Meets Dir w))

-- ---- the whole list, by a table that may have 50909

module _ (tb : List Line) (f : List ℕ) (big : Bool) (at c : ℕ) (dir : List ℕ) (kept6 : rule6 (entries big at c dir) ≡ kept) where
  abbrev Es : List Entry
  Es = entries big at c dir

  -- the parts of the table's tags
  abbrev Own : List Part
  Own = parts_of (map value_part (firsts (line_tags tb) Es))

  -- the longer values of 50909 behind the first
  abbrev Texts : List Part
  Texts = keep wide (later_parts Es)

  -- what may be read of the directory
  abbrev Known : List Part
  Known = directory_list tb at c (map (hold tb f) Es)

  module _ (a : Part) where
    -- one of more than 4 bytes that shares a byte with a
    abbrev far : Part → Bool
    far p = wide p && shares a p

    abbrev Firsts : Bool
    Firsts = some (At far tb Es) (line_tags tb)

    abbrev Laters : Bool
    Laters = some (λ e. far (value_part e)) (later_texts Es)

    abbrev Longer : Bool
    Longer = some (λ e. in_table tb e.tag && far (value_part e)) Es

    abbrev Dir : Bool
    Dir = shares a (part at (dir_len c))

    later-are : some (shares a) Texts ≡ Laters
    unfolding later_parts
    later-are = some-keep wide (shares a) (later_parts Es) ∙ some-map far value_part (later_texts Es)

    own-are : some (shares a) Own ≡ Firsts
    unfolding parts_of
    own-are = some-keep wide (shares a) (map value_part (firsts (line_tags tb) Es)) ∙ firsts-are far tb Es

    -- beside the directory, the longer values are all
    values_same : Longer || Dir ≡ some (listed_is tb (shares a)) Es || Dir
    unfolding entries
    values_same =
        some-either (λ e. in_table tb e.tag && far (value_part e)) (listed_is tb (shares a)) Dir (entry_at big at dir) c 0 c (omega arith) (entry-same tb a big at c dir)

    -- a place shares a byte with the directory's list exactly where it does with the directory or with a longer value of the table's tags
    list-is : some (shares a) Known ≡ Longer || Dir
    unfolding some
    list-is =
        ap (λ (v : Bool). shares a (part at 2) || (Dir || v)) (some-values tb (shares a) f Es)
        ∙ regroup (shares a (part at 2)) Dir (some (listed_is tb (shares a)) Es) (within a at 2 at (dir_len c) (omega arith) (omega arith))
        ∙ sym values_same
      where
        regroup : (k d x : Bool) → k || d ≡ d → k || (d || x) ≡ x || d
        regroup true true x h = sym (or-true x)
        regroup true false x h = absurd (false≢true (sym h))
        regroup false d x h = or_comm d x

    -- with 50909 in the table these are the first values and those of 50909 behind the first
    pub list-with : in_table tb Tag.metadata ≡ true → some (shares a) Known ≡ some (shares a) (Texts ++ Own) || Dir
    unfolding wide
    list-with text =
        list-is
        ∙ ap (λ (b : Bool). b || Dir)
        (sym (values-are far tb refl Es kept6)
        ∙ ap (λ (b : Bool). Firsts || (b && Laters)) text
        ∙ or_comm Firsts Laters
        ∙ sym (some-append (shares a) Texts Own ∙ ap₂ (λ (l o : Bool). l || o) later-are own-are))

    -- and without it the first values alone
    pub list-without : in_table tb Tag.metadata ≡ false → some (shares a) Known ≡ some (shares a) Own || Dir
    unfolding wide
    list-without text =
        list-is
        ∙ ap (λ (b : Bool). b || Dir)
        (sym (values-are far tb refl Es kept6)
        ∙ ap (λ (b : Bool). Firsts || (b && Laters)) text
        ∙ or-false Firsts
        ∙ sym own-are)

-- ---- the full list of a file, by a table with 50909

module _ (tb : List Line) (text : in_table tb Tag.metadata ≡ true) (f : List ℕ) (big : Bool) (at c : ℕ) (dir : List ℕ) (kept6 : rule6 (entries big at c dir) ≡ kept) where
  -- the head and the directory
  abbrev Ends : List Part
  Ends = keep wide (part 0 8 ∷ part at (dir_len c) ∷ [])

  abbrev Parts : List Part
  Parts = Texts tb f big at c dir kept6 ++ (Own tb f big at c dir kept6 ++ Ends)

  ends-are : (a : Part) → some (shares a) Ends ≡ shares a (part 0 8) || shares a (part at (dir_len c))
  unfolding some wide
  ends-are a =
      some-keep wide (shares a) (part 0 8 ∷ part at (dir_len c) ∷ [])
      ∙ ap (λ (b : Bool). shares a (part 0 8) || ((b && shares a (part at (dir_len c))) || false)) (lt-ltb 4 (dir_len c) (omega arith))
      ∙ ap (λ (b : Bool). shares a (part 0 8) || b) (or-false (shares a (part at (dir_len c))))

  -- a place shares a byte with these parts exactly where it shares one with the full reading list
  columns-list : (a : Part) → some (shares a) Parts ≡ some (shares a) (full_list tb at c (map (hold tb f) (Es tb f big at c dir kept6)))
  unfolding full_list some
  columns-list a =
      ap (some (shares a)) (sym (append_assoc (Texts tb f big at c dir kept6) (Own tb f big at c dir kept6) Ends))
      ∙ some-append (shares a) (Texts tb f big at c dir kept6 ++ Own tb f big at c dir kept6) Ends
      ∙ ap (λ (b : Bool). some (shares a) (Texts tb f big at c dir kept6 ++ Own tb f big at c dir kept6) || b) (ends-are a)
      ∙ swap (some (shares a) (Texts tb f big at c dir kept6 ++ Own tb f big at c dir kept6)) (shares a (part 0 8)) (shares a (part at (dir_len c)))
      ∙ ap (λ (b : Bool). shares a (part 0 8) || b) (sym (list-with tb f big at c dir kept6 a text))
    where
      swap : (x y z : Bool) → x || (y || z) ≡ y || (x || z)
      swap true y z = sym (or-true y)
      swap false y z = refl

  -- so rules 13 and 14 over them are those over the list
  pub columns-judged : (n : ℕ) (ss : List Piece)
      → places_judged n Parts ss ≡ first (13 ▸ rule13 n ss ∷ 14 ▸ rule14 (full_list tb at c (map (hold tb f) (Es tb f big at c dir kept6))) ss ∷ [])
  unfolding places_judged rule14 touches
  columns-judged n ss =
      ap (λ (o : Outcome). first (13 ▸ rule13 n ss ∷ 14 ▸ o ∷ []))
      (first-same (touches Parts) (touches (full_list tb at c (map (hold tb f) (Es tb f big at c dir kept6)))) (λ s. s.index) ss no_piece
      (λ i l. columns-list (get_or ss i no_piece).place))
