-- Rules 9 and 10 over the rows of a table and what was found of their tags are those of the paper, for any table whose rows say what its lines say.
-- Assumes nothing.
use Prim.Native.Nat.{ℕ, zero, suc, ◌*◌}
use mathlib.Core.Path.{◌≡◌, refl, sym, ap, ap₂, ◌∙◌}
use mathlib.Core.Bool.{Bool, true, false, cond, not, ◌&&◌, ◌||◌, not-not, or-false}
use mathlib.Core.List.{List, [], ◌∷◌}
use native.Mathlib.Nat.{sub-zero}
use lib.Dec.{eqb}
use lib.ListN.{drop}
use borrow.Author.Tests.{eqb-true, not-true}
use Rattle.paper.specs.Bytes.{build}
use Rattle.paper.specs.Outcome.{breaks, first_of, first_bad, ordered}
use Rattle.paper.specs.Tests.{all, some, keep}
use Rattle.paper.specs.Layout.{entry_of, behind, rule6}
use Rattle.paper.specs.Tags.{Line, Held, find, has, tiled, lacks, rule9, fits_the_line, misfits, rule10, named}
use Rattle.paper.specs.declared.Entry.{Entry}
use Rattle.paper.specs.declared.Outcome.{Outcome}
use Rattle.paper.specs.declared.Outcome.TheVariants.{Kept as kept, Broken as broken}
use Rattle.paper.specs.Tag
use Rattle.paper.proofs.Laws.{and-eq}
use Rattle.paper.proofs.Several.{tags_of, first-or-later, rises-behind, once, tags-held, later-held}
use Rattle.layout.specs.Columns.{first_with, firsts}
use Rattle.layout.specs.Repeats.{later_texts, entries_from}
use Rattle.lines.specs.declared.Line.{Line as Row}
use Rattle.lines.specs.Rows.{first_broken, lacking, needed_by, nine_of, unlike, misfit, ten_of, misfit_in, some_misfit}
use Rattle.lines.specs.Lined.{line_tags, same, says, all_say, text_last, Lined}
use Rattle.lines.specs.Ready.{entries_at, held_at, at_slot, Ready}
use Rattle.lines.proofs.Slots.{held-is, present}

-- ---- what a row says

same-is : (a b : Bool) → same a b ≡ true → a ≡ b
same-is true b h = sym h
same-is false b h = sym (not-true b h)

record Said (r : Row) (l : Line) : Type 0 where
  tag : r.tag ≡ l.tag
  needed : (tiled : Bool) → needed_by r.needed tiled ≡ l.needed tiled
  type : r.typ ≡ l.type
  other : r.other ≡ l.other
  least : r.least ≡ l.least
  most : r.most ≡ l.most

said : (r : Row) (l : Line) → says r l ≡ true → Said r l
unfolding says
said r l h =
    let a = and-eq (eqb r.tag l.tag) _ h in
    let b = and-eq (same (needed_by r.needed true) (l.needed true)) _ a.1 in
    let c = and-eq (same (needed_by r.needed false) (l.needed false)) _ b.1 in
    let d = and-eq (eqb r.typ l.type) _ c.1 in
    let e = and-eq (eqb r.other l.other) _ d.1 in
    let f = and-eq (eqb r.least l.least) _ e.1 in
    record {
      tag = eqb-true _ _ a.0;
      needed = asked (same-is _ _ b.0) (same-is _ _ c.0);
      type = eqb-true _ _ d.0;
      other = eqb-true _ _ e.0;
      least = eqb-true _ _ f.0;
      most = eqb-true _ _ f.1;
    }
  where
    asked : needed_by r.needed true ≡ l.needed true → needed_by r.needed false ≡ l.needed false → (tiled : Bool) → needed_by r.needed tiled ≡ l.needed tiled
    asked p q true = p
    asked p q false = q

-- ---- a table in which no line depends on whether the picture is in tiles: rule 9 says the same of both

pub nine-either : (rows : List Row) → all (λ r. same (needed_by r.needed true) (needed_by r.needed false)) rows ≡ true
    → (a b : Bool) (found : List Entry) → nine_of rows a found ≡ nine_of rows b found
unfolding all nine_of first_broken lacking
nine-either [] h a b found = refl
nine-either (r ∷ rows) h a b found =
    let u = and-eq (same (needed_by r.needed true) (needed_by r.needed false)) _ h in
    ap₂ (λ (is : Bool) (o : Outcome). cond (is && eqb (at_slot found 0).start 0) (broken r.tag) o)
    (either (same-is _ _ u.0) a b)
    (nine-either rows u.1 a b (drop 1 found))
  where
    either : needed_by r.needed true ≡ needed_by r.needed false → (a b : Bool) → needed_by r.needed a ≡ needed_by r.needed b
    either e true true = refl
    either e true false = e
    either e false true = sym e
    either e false false = refl

-- ---- the entries of a tag behind the first, read from the run in which they stand

-- an entry and the numbers that are read of it
row_fits : {r : Row} {l : Line} → Said r l → (big : Bool) (start : ℕ) (s : List ℕ) (i : ℕ) → misfit_in r big s i ≡ not (fits_the_line l (entry_of big start s (12 * i)))
unfolding misfit_in unlike fits_the_line entry_of
row_fits is big start s i = rw (is.type, is.other, is.least, is.most)

entries-misfit : {r : Row} {l : Line} → Said r l → (big : Bool) (start : ℕ) (s : List ℕ) (i m : ℕ)
    → some (misfit_in r big s) (build (λ i. i) i m) ≡ some (λ e. not (fits_the_line l e)) (build (λ j. entry_of big start s (12 * j)) i m)
unfolding build some
entries-misfit is big start s i zero = refl
entries-misfit is big start s i (suc m) = ap₂ (λ (a b : Bool). a || b) (row_fits is big start s i) (entries-misfit is big start s (suc i) m)

pub later-misfits : (r : Row) (l : Line) → says r l ≡ true → (big : Bool) (start many : ℕ) (s : List ℕ) {es : List Entry} → entries_from big start s many ≡ es
    → some_misfit r big s 0 many ≡ some (λ e. not (fits_the_line l e)) es
unfolding entries_from some_misfit
later-misfits r l h big start many s is =
    ap (λ (n : ℕ). some (misfit_in r big s) (build (λ i. i) 0 n)) (sub-zero many)
    ∙ entries-misfit (said r l h) big start s 0 many
    ∙ ap (some (λ e. not (fits_the_line l e))) is

-- ---- a directory

module _ {tb : List Line} {f : List ℕ} {big : Bool} {at c : ℕ} {found : List Entry} (r : Ready tb f big at c found) where
  abbrev Es : List Entry
  Es = entries_at f big at c

  abbrev Hs : List Held
  Hs = held_at tb f big at c

  -- what is found of the tags of some lines
  abbrev Found : List Line → List Entry
  Found ls = firsts (line_tags ls) Es

  -- ---- rule 9

  lacks-row : {x : Row} {l : Line} → Said x l → eqb 0 l.tag ≡ false → lacking (tiled Hs) x (first_with l.tag Es) ≡ lacks Hs l
  unfolding lacking lacks
  lacks-row {l = l} is z = rw (is.needed (tiled Hs), present r l.tag z, not-not)

  nine-from : (rows : List Row) (ls : List Line) → all_say rows ls ≡ true → all named ls ≡ true
      → nine_of rows (tiled Hs) (Found ls) ≡ first_bad (lacks Hs) (λ l. l.tag) ls
  unfolding all_say all named nine_of first_broken first_bad firsts line_tags
  nine-from [] [] h n = refl
  nine-from [] (l ∷ ls) h n = cc
  nine-from (x ∷ rows) [] h n = cc
  nine-from (x ∷ rows) (l ∷ ls) h n =
      let a = and-eq (says x l) _ h in
      let b = and-eq (not (eqb 0 l.tag)) _ n in
      let s = said x l a.0 in
      ap₂ (λ (bad : Bool) (t : ℕ). cond bad (broken t) (nine_of rows (tiled Hs) (Found ls))) (lacks-row s (not-true _ b.0)) s.tag
      ∙ ap (cond (lacks Hs l) (broken l.tag)) (nine-from rows ls a.1 b.1)

  pub nine-is : {rows : List Row} → Lined rows tb → nine_of rows (tiled (held_at tb f big at c)) found ≡ rule9 tb (held_at tb f big at c)
  unfolding rule9
  nine-is {rows} l = ap (nine_of rows (tiled Hs)) r.found_are ∙ nine-from rows tb l.say l.tags

  -- ---- rule 10, where rule 6 is kept

  -- one of the entries of 50909 behind the first does not fit the last line, if that is its line
  abbrev pub late : List Line → Bool
  late [] = false
  late (l ∷ []) = eqb l.tag Tag.metadata && some (λ e. not (fits_the_line l e)) (later_texts (entries_at f big at c))
  late (l ∷ m ∷ ls) = late (m ∷ ls)

  module _ (six : rule6 (entries_at f big at c) ≡ kept) where
    tags-ordered : ordered behind (tags_of Hs) ≡ kept
    unfolding held_at rule6
    tags-ordered = ap (ordered behind) (tags-held tb f Es) ∙ six

    -- whether what is found of a tag is not as its row says
    abbrev Misfit : Row → ℕ → Bool
    Misfit x t = misfit x (first_with t Es)

    module _ {x : Row} {l : Line} (is : Said x l) (z : eqb 0 l.tag ≡ false) where
      -- the entry that is found does not fit its line
      found-misfits : has l.tag Hs && not (fits_the_line l (find l.tag Hs).entry) ≡ Misfit x l.tag
      unfolding misfit unlike fits_the_line
      found-misfits = rw (present r l.tag z, held-is r l.tag, is.type, is.other, is.least, is.most)

      -- a tag that may stand once
      one-misfits : eqb l.tag Tag.metadata ≡ false → misfits Hs l ≡ Misfit x l.tag
      unfolding misfits
      one-misfits e = once behind l.tag (rises-behind l.tag e) z (λ h. not (fits_the_line l h.entry)) Hs tags-ordered ∙ found-misfits

      -- 50909
      text-misfits : eqb l.tag Tag.metadata ≡ true → misfits Hs l ≡ Misfit x l.tag || some (λ e. not (fits_the_line l e)) (later_texts Es)
      unfolding misfits held_at
      text-misfits e =
          first-or-later l.tag z (λ h. not (fits_the_line l h.entry)) Hs
          ∙ ap₂ (λ (a b : Bool). a || b) found-misfits
          (later-held tb f l.tag (λ e. not (fits_the_line l e)) Es ∙ ap (λ (t : ℕ). some (λ e. not (fits_the_line l e)) (drop 1 (keep (λ e. eqb e.tag t) Es))) (eqb-true _ _ e))

    ten-from : (rows : List Row) (ls : List Line) → all_say rows ls ≡ true → all named ls ≡ true → text_last ls ≡ true
        → first_of (ten_of rows (Found ls) ∷ breaks (late ls) Tag.metadata ∷ []) ≡ first_bad (misfits Hs) (λ l. l.tag) ls
    unfolding all_say all named text_last ten_of first_broken misfit unlike first_bad first_of firsts line_tags
    ten-from [] [] h n t = refl
    ten-from [] (l ∷ ls) h n t = cc
    ten-from (x ∷ rows) [] h n t = cc
    ten-from (x ∷ []) (l ∷ []) h n t =
        let a = and-eq (says x l) _ h in
        let b = and-eq (not (eqb 0 l.tag)) _ n in
        let s = said x l a.0 in
        go (eqb l.tag Tag.metadata) refl s (not-true _ b.0)
      where
        Later : Bool
        Later = some (λ e. not (fits_the_line l e)) (later_texts Es)

        -- by whether the found entry fits, and the later ones
        shown : (m b : Bool) (t : ℕ) → first_of (cond m (broken t) kept ∷ breaks b t ∷ []) ≡ cond (m || b) (broken t) kept
        shown true b t = refl
        shown false true t = refl
        shown false false t = refl

        go : (b : Bool) → eqb l.tag Tag.metadata ≡ b → Said x l → eqb 0 l.tag ≡ false
            → first_of (cond (Misfit x l.tag) (broken x.tag) kept ∷ breaks (b && Later) Tag.metadata ∷ []) ≡ cond (misfits Hs l) (broken l.tag) kept
        go true e s z =
            rw (s.tag, text-misfits s z e)
            (ap (λ (u : ℕ). first_of (cond (Misfit x l.tag) (broken l.tag) kept ∷ breaks Later u ∷ [])) (sym (eqb-true _ _ e)) ∙ shown (Misfit x l.tag) Later l.tag)
        go false e s z = rw (s.tag, one-misfits s z e) (shown (Misfit x l.tag) false l.tag ∙ ap (λ (b : Bool). cond b (broken l.tag) kept) (or-false (Misfit x l.tag)))
    ten-from (x ∷ y ∷ rows) (l ∷ []) h n t = let a = (and-eq (says x l) false h).1 in cc
    ten-from (x ∷ []) (l ∷ m ∷ ls) h n t = let a = (and-eq (says x l) false h).1 in cc
    ten-from (x ∷ y ∷ rows) (l ∷ m ∷ ls) h n t =
        let a = and-eq (says x l) _ h in
        let b = and-eq (not (eqb 0 l.tag)) _ n in
        let u = and-eq (not (eqb l.tag Tag.metadata)) _ t in
        let s = said x l a.0 in
        rw (s.tag, one-misfits s (not-true _ b.0) (not-true _ u.0))
        (pushed (Misfit x l.tag) ∙ ap (cond (Misfit x l.tag) (broken l.tag)) (ten-from (y ∷ rows) (m ∷ ls) a.1 b.1 u.1))
      where
        Rest : Outcome
        Rest = ten_of (y ∷ rows) (Found (m ∷ ls))

        pushed : (b : Bool)
            → first_of (cond b (broken l.tag) Rest ∷ breaks (late (m ∷ ls)) Tag.metadata ∷ []) ≡ cond b (broken l.tag) (first_of (Rest ∷ breaks (late (m ∷ ls)) Tag.metadata ∷ []))
        pushed true = refl
        pushed false = refl

    -- of each tag the entry that is found, then the others of 50909
    pub ten-is : {rows : List Row} → Lined rows tb → first_of (ten_of rows found ∷ breaks (late tb) Tag.metadata ∷ []) ≡ rule10 tb (held_at tb f big at c)
    unfolding rule10
    ten-is {rows} l =
        ap (λ (es : List Entry). first_of (ten_of rows es ∷ breaks (late tb) Tag.metadata ∷ [])) r.found_are ∙ ten-from rows tb l.say l.tags l.text

    -- in a table that has no line for 50909 the entry that is found is all
    pub ten-once : {rows : List Row} → Lined rows tb → late tb ≡ false → ten_of rows found ≡ rule10 tb (held_at tb f big at c)
    unfolding first_of
    ten-once {rows} l none = alone (ten_of rows found) ∙ ap (λ (b : Bool). first_of (ten_of rows found ∷ breaks b Tag.metadata ∷ [])) (sym none) ∙ ten-is l
      where
        alone : (o : Outcome) → o ≡ first_of (o ∷ kept ∷ [])
        alone kept = refl
        alone (broken p) = refl
