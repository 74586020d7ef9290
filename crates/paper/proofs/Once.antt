-- The judgement without C-12: rule 6 lets no tag stand twice, rule 10 tests of each tag the one entry that is found, every other rule is the verdict's own;
-- and that a file in which no 50909 stands directly behind another has the same verdict and place from both. In an accepted file no other tag stands
-- twice. And number 0 of the metadata texts is what the call without a number gave, in every file. Assumes nothing.
use Prim.Native.Nat.{ℕ, suc, ◌≤◌, ◌<◌, zero-le}
use mathlib.Core.Path.{◌≡◌, refl, sym, ap, ◌∙◌}
use mathlib.Core.Bool.{Bool, true, false, cond, not, ◌&&◌, false≢true}
use mathlib.Core.List.{List, [], ◌∷◌, ◌++◌, map}
use native.Mathlib.Omega.{arith}
use lib.Dec.{eqb, ltb}
use lib.ListN.{length, get_or, drop}
use borrow.Author.Tests.{eqb-true, eqb-false, ne_eqb, lt-ltb, not-true}
use Rattle.paper.specs.Outcome.{Outcome, kept, broken, first_bad, ordered_from, ordered, ascending, Rule, ◌▸◌, verdict, first, ◌▷◌}
use Rattle.paper.specs.Tests.{some, keep}
use Rattle.paper.specs.Layout.{behind, rule6, rule7}
use Rattle.paper.specs.Tag
use Rattle.paper.specs.Tags.{Line, table, Held, hold, absent, find, has, rule27, rule9, fits_the_line, misfits, rule10, rule11, rule12, named}
use Rattle.paper.specs.Judge.{Head, View, full_of, entry_rules, table_rules, piece_rules, picture_rules, head_in, entries_in, view_at, view}
use Rattle.paper.specs.Judge.{head_stage, offset_stage, count_stage, entry_stage, directory_stage, picture_stage, survey_stage, image_stage, mask_stage, verdict_of}
use Rattle.paper.specs.Calls.{accepts, answer, texts_in, rule29, text_within, text_of}
use Rattle.paper.specs.Places.{Pair, pairs_from, pairs}
use Rattle.paper.proofs.Laws.{or-false, first-same, all-at}
use Rattle.paper.proofs.Bounds.{no_line, table-named}
use Rattle.paper.proofs.Keeps.{rule6-kept}
use Rattle.paper.proofs.First.{verdict-turned}
use Rattle.paper.proofs.Several.{tags_of, first_of, present, rises-strict, rises-behind, no_other, once, tags-held, rising}
use Rattle.paper.specs.declared.Verdict.{Verdict}
use Rattle.paper.specs.declared.Entry.{Entry}
use Rattle.paper.specs.declared.Text.{Text}

-- ---- the judgement without C-12

-- each tag is greater than the one before
unfoldable pub rule6_once : List Entry → Outcome
rule6_once es = ascending (map (λ e. e.tag) es)

-- the entry of the line's tag does not fit it
unfoldable pub misfits_once : List Held → Line → Bool
misfits_once hs l = has l.tag hs && not (fits_the_line l (find l.tag hs).entry)

unfoldable pub rule10_once : List Line → List Held → Outcome
rule10_once tb hs = first_bad (misfits_once hs) (λ l. l.tag) tb

unfoldable pub entry_rules_once : Head → List Entry → List Rule
entry_rules_once h es = 6 ▸ rule6_once es ∷ 7 ▸ rule7 h.size es ∷ []

unfoldable pub directory_once : List ℕ → Head → Verdict
directory_once f h = offset_stage h ▷ (count_stage f h ▷ first (entry_rules_once h (entries_in f h)))

unfoldable pub table_rules_once : View → List Rule
table_rules_once v =
    27 ▸ rule27 v.held
    ∷ 9 ▸ rule9 v.table v.held
    ∷ 10 ▸ rule10_once v.table v.held
    ∷ 11 ▸ rule11 v.table v.head.big v.held
    ∷ 12 ▸ rule12 v.head.big v.held
    ∷ []

unfoldable pub picture_once : View → Verdict
picture_once v = first (table_rules_once v ++ piece_rules (full_of v) v)

unfoldable pub verdict_once : List ℕ → Verdict
verdict_once f = (head_stage f ▷ (directory_once f (head_in f) ▷ picture_once (view f))) ▷ (survey_stage (view f) ▷ mask_stage f)

-- a 50909 directly behind a 50909
unfoldable pub repeated : Pair → Bool
repeated x = eqb x.earlier Tag.metadata && eqb x.later Tag.metadata

-- some 50909 stands so
unfoldable pub repeats : List Entry → Bool
repeats es = some repeated (pairs (map (λ e. e.tag) es))

-- ---- rule 6

ordered-once-from : (a : ℕ) (bs : List ℕ) → some repeated (pairs_from a bs) ≡ false → ordered_from behind a bs ≡ ordered_from ltb a bs
unfolding ordered_from behind pairs_from some repeated
ordered-once-from a [] n = refl
ordered-once-from a (b ∷ bs) n =
    let m = or-false (eqb a 50909 && eqb b 50909) _ n in
    go (ltb a b) refl m.0 (ordered-once-from b bs m.1)
  where
    go : (t : Bool) → ltb a b ≡ t → eqb a 50909 && eqb b 50909 ≡ false → ordered_from behind b bs ≡ ordered_from ltb b bs
        → ordered_from behind a (b ∷ bs) ≡ ordered_from ltb a (b ∷ bs)
    go true e p r = rw e r
    go false e p r = rw (e, p)

ordered-once : (ns : List ℕ) → some repeated (pairs ns) ≡ false → ordered behind ns ≡ ascending ns
unfolding ordered pairs some
ordered-once [] n = refl
ordered-once (a ∷ bs) n = ordered-once-from a bs n

-- ---- rule 10, where the tags ascend

rule10-once : (hs : List Held) → ascending (tags_of hs) ≡ kept → rule10 table hs ≡ rule10_once table hs
unfolding rule10 rule10_once misfits misfits_once named
rule10-once hs k = first-same (misfits hs) (misfits_once hs) (λ l. l.tag) table no_line at
  where
    at : (i : ℕ) → i < length table → misfits hs (get_or table i no_line) ≡ misfits_once hs (get_or table i no_line)
    at i l =
        let x : Line = get_or table i no_line in
        once ltb x.tag (rises-strict x.tag) (not-true _ (all-at named table no_line table-named i l)) (λ h. not (fits_the_line x h.entry)) hs k

-- ---- and so the verdict

-- behind a broken rule nothing is tried
shut : (v w : Verdict) (k p : ℕ) (x y : Verdict) → eqb k 0 ≡ false → (v ▷ (w ▷ verdict k p)) ▷ x ≡ (v ▷ (w ▷ verdict k p)) ▷ y
shut v w k p x y z = go (eqb v.number 0) refl (eqb w.number 0) refl
  where
    go : (a : Bool) → eqb v.number 0 ≡ a → (b : Bool) → eqb w.number 0 ≡ b → (v ▷ (w ▷ verdict k p)) ▷ x ≡ (v ▷ (w ▷ verdict k p)) ▷ y
    go false e b d = rw (e, e)
    go true e false d = rw (e, d, d)
    go true e true d = rw (e, d, z)

-- where rule 6 gives the same in both
module _ (f : List ℕ) (six : rule6 (entries_in f (head_in f)) ≡ rule6_once (entries_in f (head_in f))) where
  directory-once : directory_stage f (head_in f) ≡ directory_once f (head_in f)
  unfolding directory_stage entry_stage entry_rules directory_once entry_rules_once
  directory-once =
      ap (λ (o : Outcome). offset_stage (head_in f) ▷ (count_stage f (head_in f) ▷ first (6 ▸ o ∷ 7 ▸ rule7 (head_in f).size (entries_in f (head_in f)) ∷ [])))
      six

  rules-once : rule6_once (entries_in f (head_in f)) ≡ kept → picture_stage (view f) ≡ picture_once (view f)
  unfolding rule6_once picture_stage picture_once picture_rules table_rules table_rules_once view view_at
  rules-once k = rw (rule10-once (map (hold table f) (entries_in f (head_in f))) (ap ascending (tags-held table f (entries_in f (head_in f))) ∙ k))

  -- what the rules behind rule 6 give, where they are tried
  picture-once : directory_once f (head_in f) ▷ picture_stage (view f) ≡ directory_once f (head_in f) ▷ picture_once (view f)
  unfolding directory_once entry_rules_once first
  picture-once = go (rule6_once (entries_in f (head_in f))) refl
    where
      go : (o : Outcome) → rule6_once (entries_in f (head_in f)) ≡ o
          → directory_once f (head_in f) ▷ picture_stage (view f) ≡ directory_once f (head_in f) ▷ picture_once (view f)
      go kept k = rw (rules-once k)
      go (broken p) k = rw k (shut (offset_stage (head_in f)) (count_stage f (head_in f)) 6 p _ _ refl)

  same_once : verdict_of f ≡ verdict_once f
  unfolding image_stage verdict_once
  same_once =
      verdict-turned f
      ∙ ap (λ (v : Verdict). (head_stage f ▷ (v ▷ picture_stage (view f))) ▷ (survey_stage (view f) ▷ mask_stage f)) directory-once
      ∙ ap (λ (v : Verdict). (head_stage f ▷ v) ▷ (survey_stage (view f) ▷ mask_stage f)) picture-once

-- no 50909 stands directly behind another
pub verdict-once : (f : List ℕ) → repeats (entries_in f (head_in f)) ≡ false → verdict_of f ≡ verdict_once f
unfolding rule6 rule6_once repeats
verdict-once f apart = same_once f (ordered-once (map (λ e. e.tag) (entries_in f (head_in f))) apart)

-- a verdict that is not rule 6's comes from a rule before it
earlier : (h o c d x y s : Verdict) → ((h ▷ ((o ▷ (c ▷ verdict 6 50909)) ▷ y)) ▷ s ≡ verdict 6 50909 → ⊥)
    → (h ▷ ((o ▷ (c ▷ d)) ▷ x)) ▷ s ≡ (h ▷ ((o ▷ (c ▷ verdict 6 50909)) ▷ y)) ▷ s
earlier h o c d x y s n = go (eqb h.number 0) refl (eqb o.number 0) refl (eqb c.number 0) refl
  where
    go : (t : Bool) → eqb h.number 0 ≡ t → (u : Bool) → eqb o.number 0 ≡ u → (v : Bool) → eqb c.number 0 ≡ v
        → (h ▷ ((o ▷ (c ▷ d)) ▷ x)) ▷ s ≡ (h ▷ ((o ▷ (c ▷ verdict 6 50909)) ▷ y)) ▷ s
    go false e u i v j = rw (e, e)
    go true e false i v j = rw (e, i, i)
    go true e true i false j = rw (e, i, j, j)
    go true e true i true j = absurd (n (rw (e, i, j)))

-- rule 6 without C-12 does not refuse the file at a 50909
pub verdict-else : (f : List ℕ) → (verdict_once f ≡ verdict 6 50909 → ⊥) → verdict_of f ≡ verdict_once f
unfolding image_stage directory_stage verdict_once directory_once entry_rules_once first rule6 rule6_once
verdict-else f n = go (ascending (map (λ e. e.tag) (entries_in f (head_in f)))) refl
  where
    at : (p : ℕ) (b : Bool) → eqb p 50909 ≡ b → ascending (map (λ e. e.tag) (entries_in f (head_in f))) ≡ broken p → verdict_of f ≡ verdict_once f
    at p false d k = same_once f (rising _ (λ w. eqb-false p 50909 d (place (sym k ∙ w))))
      where
        place : broken p ≡ broken 50909 → p ≡ 50909
        place w = cc
    at p true d k =
        let e : ascending (map (λ e. e.tag) (entries_in f (head_in f))) ≡ broken 50909 = k ∙ ap broken (eqb-true p 50909 d) in
        verdict-turned f ∙ rw e (earlier (head_stage f) (offset_stage (head_in f)) (count_stage f (head_in f)) _ _ _ _ (rw e at n))

    go : (o : Outcome) → ascending (map (λ e. e.tag) (entries_in f (head_in f))) ≡ o → verdict_of f ≡ verdict_once f
    go kept k = same_once f (rising _ (λ w. unbroken (sym k ∙ w)))
      where
        unbroken : kept ≡ broken 50909 → ⊥
        unbroken w = let z : false ≡ true = cc in false≢true z
    go (broken p) k = at p (eqb p 50909) refl k

-- ---- the other tags of an accepted file

pub no_second : (f : List ℕ) → (verdict_of f).number ≡ 0 → (t : ℕ) → (t ≡ 50909 → ⊥) → length (keep (λ e. eqb e.tag t) (entries_in f (head_in f))) ≤ 1
unfolding rule6
no_second f z t n =
    let h : drop 1 (keep (λ e. eqb e.tag t) (entries_in f (head_in f))) ≡ [] =
    no_other (λ (e : Entry). e.tag) behind t (rises-behind t (ne_eqb t 50909 n)) (entries_in f (head_in f)) (rule6-kept f z) in
    short (keep (λ e. eqb e.tag t) (entries_in f (head_in f))) h
  where
    short : (es : List Entry) → drop 1 es ≡ [] → length es ≤ 1
    short [] h = zero-le
    short (e ∷ es) h = let l : length es ≡ 0 = ap (λ (xs : List Entry). length xs) h in omega arith

-- ---- the metadata text

-- what the call without a number gave: the value of the tag where it is present, and else the outside text, of m bytes
unfoldable pub text_before : ℕ → View → Text
text_before m w =
    let e : Entry = (find Tag.metadata w.held).entry in
    cond (has Tag.metadata w.held) (record { verdict = verdict 0 0; from = 0; start = e.start; len = e.len })
    (record { verdict = verdict 0 0; from = 1; start = 0; len = m })

text_in : (m : ℕ) (w : View) → text_within 0 m w ≡ text_before m w
unfolding text_within text_before texts_in rule29 first
text_in m w = go (texts_in w) refl
  where
    go : (ts : List Held) → texts_in w ≡ ts → text_within 0 m w ≡ text_before m w
    go [] e =
        let n : has 50909 w.held ≡ false = present 50909 refl w.held ∙ rw e in
        rw (e, n)
    go (t ∷ ts) e =
        let some : eqb (suc (length ts)) 0 ≡ false = ne_eqb (suc (length ts)) 0 (λ z. omega arith) in
        let n : has 50909 w.held ≡ true = present 50909 refl w.held ∙ rw (e, some) in
        let s : t ≡ find 50909 w.held = ap (λ (hs : List Held). get_or hs 0 absent) (sym e) ∙ first_of 50909 w.held in
        rw (e, some, lt-ltb 0 (suc (length ts)) (omega arith), n, s)

pub text-once : (f : List ℕ) (m : ℕ) → text_of f 0 m ≡ answer f (text_before m) (λ v. record { verdict = v; from = 0; start = 0; len = 0 })
unfolding text_of answer
text-once f m = go (accepts (verdict_of f)) refl
  where
    go : (b : Bool) → accepts (verdict_of f) ≡ b → text_of f 0 m ≡ answer f (text_before m) (λ v. record { verdict = v; from = 0; start = 0; len = 0 })
    go true e = rw e (text_in m (view f))
    go false e = rw e
