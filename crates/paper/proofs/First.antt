-- The verdict is 0 exactly where no rule is broken, and else it is that of the first broken rule, with its place.
-- Shown once, over any list of numbered rules; a judgement in stages is one over the whole list. Assumes nothing.
use Prim.Native.Nat.{ℕ, zero, suc, ◌≤◌, ◌<◌, zero-le, suc-le-suc}
use mathlib.Core.Path.{◌≡◌, refl, sym, ap, ◌∙◌}
use mathlib.Core.Bool.{Bool, true, false}
use mathlib.Core.List.{List, [], ◌∷◌, ◌++◌}
use native.Mathlib.Omega.{arith}
use lib.Dec.{eqb, leb}
use lib.ListN.{length, get_or}
use borrow.Author.Tests.{eq-eqb, ne_eqb, leb-true, eqb-true, eqb-false}
use Rattle.paper.specs.Outcome.{Outcome, kept, broken, Rule, ◌▸◌, first, verdict, ◌▷◌}
use Rattle.paper.specs.Tests.{all}
use Rattle.paper.specs.Judge.{Head, head_in, view, count_in, next_in, head_run, verdict_of, rules, mask_head, mask_picture_rules, mask_rules, mask_verdict, rule28}
use Rattle.paper.specs.Judge.{head_stage, offset_stage, count_stage, entry_stage, directory_stage, next_stage, picture_stage, survey_stage, image_stage, file_stage, mask_stage}
use Rattle.paper.specs.Keys.{key_rules}
use Rattle.paper.specs.Judge.{head_rules, offset_rules, count_rules, entry_rules, directory_rules, next_rules, table_rules, piece_rules, picture_rules, ground_rules, survey_rules}
use Rattle.paper.specs.Asked.{AllKept, FirstBroken, no_rule}
use Rattle.paper.proofs.Laws.{and-eq}
use Rattle.paper.specs.declared.Verdict.{Verdict}

-- ---- a list of rules

-- every number of the list is at least k
abbrev pub From : ℕ → List Rule → Type 0
From k rs = all (λ r. leb k r.number) rs ≡ true

pub first-kept : (rs : List Rule) → AllKept rs → first rs ≡ verdict 0 0
unfolding first
first-kept [] h = refl
first-kept (r ∷ rs) h = let e : r.outcome ≡ kept = h 0 in rw e (first-kept rs (λ i. h (suc i)))

pub first-broken : (rs : List Rule) (k p : ℕ) → FirstBroken rs k p → first rs ≡ verdict k p
unfolding first
first-broken rs k p h = go rs h.at h.there h.before
  where
    go : (xs : List Rule) (i : ℕ) → get_or xs i no_rule ≡ k ▸ broken p → ((j : ℕ) → j < i → (get_or xs j no_rule).outcome ≡ kept) → first xs ≡ verdict k p
    go [] i t b = let z : kept ≡ broken p = ap (λ (r : Rule). r.outcome) t in cc
    go (x ∷ xs) zero t b = rw t
    go (x ∷ xs) (suc i) t b =
        let e : x.outcome ≡ kept = b 0 (suc-le-suc zero-le) in
        rw e (go xs i t (λ j l. b (suc j) (suc-le-suc l)))

-- the way back, where no number is 0
pub kept-first : (rs : List Rule) → From 1 rs → (first rs).number ≡ 0 → AllKept rs
unfolding first all
kept-first [] p z = λ i. refl
kept-first (r ∷ rs) p z = go r.outcome refl (kept-first rs (and-eq (leb 1 r.number) _ p).1)
  where
    go : (o : Outcome) → r.outcome ≡ o → ((first rs).number ≡ 0 → AllKept rs) → AllKept (r ∷ rs)
    go kept e h = let y : (first rs).number ≡ 0 = rw e at z in elim [ zero ↦ e | suc i ↦ h y i ]
    go (broken q) e h =
        let y : r.number ≡ 0 = rw e at z in
        let x : 1 ≤ r.number = leb-true _ _ (and-eq (leb 1 r.number) _ p).0 in
        absurd (omega arith)

pub broken-first : (rs : List Rule) (k p : ℕ) → first rs ≡ verdict k p → (k ≡ 0 → ⊥) → FirstBroken rs k p
unfolding first
broken-first [] k p h n = absurd (n (sym (ap (λ (v : Verdict). v.number) h)))
broken-first (r ∷ rs) k p h n = go r.outcome refl (λ e. broken-first rs k p e n)
  where
    go : (o : Outcome) → r.outcome ≡ o → (first rs ≡ verdict k p → FirstBroken rs k p) → FirstBroken (r ∷ rs) k p
    go kept e rec =
        let b : FirstBroken rs k p = rec (rw e at h) in
        record { at = suc b.at; there = b.there; before = elim [ zero ↦ (λ l. e) | suc i ↦ (λ l. b.before i (omega arith)) ] }
    go (broken q) e rec =
        let w : verdict r.number q ≡ verdict k p = rw e at h in
        let a : r.number ≡ k = ap (λ (v : Verdict). v.number) w in
        let c : q ≡ p = ap (λ (v : Verdict). v.place) w in
        let t : r ≡ k ▸ broken p = (λ i. record { number = a i; outcome = (e ∙ ap broken c) i }) in
        record { at = 0; there = t; before = λ i l. absurd (none i l) }
      where
        none : (j : ℕ) → j < 0 → ⊥
        none j l = omega arith

-- ---- a judgement in stages

pub chain : (a a' b b' : Verdict) → a ≡ a' → (a.number ≡ 0 → b ≡ b') → a ▷ b ≡ a' ▷ b'
chain a a' b b' p q = go (eqb a.number 0) refl ∙ ap (λ (x : Verdict). x ▷ b') p
  where
    go : (t : Bool) → eqb a.number 0 ≡ t → a ▷ b ≡ a ▷ b'
    go true e = rw e (q (eqb-true _ _ e))
    go false e = rw e

-- a verdict of 0 is that of the stages that follow
pub chain-zero : (a b : Verdict) → a.number ≡ 0 → a ▷ b ≡ b
chain-zero a b z = rw (eq-eqb a.number 0 z)

pub chain-stop : (a b : Verdict) → (a.number ≡ 0 → ⊥) → a ▷ b ≡ a
chain-stop a b z = rw (ne_eqb a.number 0 z)

-- 0 in the end, so 0 in each stage
pub chain-both : (a b : Verdict) → (a ▷ b).number ≡ 0 → (a.number ≡ 0) × (b.number ≡ 0)
chain-both a b z = go (eqb a.number 0) refl
  where
    go : (t : Bool) → eqb a.number 0 ≡ t → (a.number ≡ 0) × (b.number ≡ 0)
    go true e = (eqb-true _ _ e, rw e at z)
    go false e = let w : a.number ≡ 0 = rw e at z in (w, absurd (eqb-false _ _ e w))

-- the rules of two lists, one after the other
pub first-append : (xs ys : List Rule) → From 1 xs → first (xs ++ ys) ≡ first xs ▷ first ys
unfolding first all
first-append [] ys p = refl
first-append (x ∷ xs) ys p = go x.outcome refl (first-append xs ys (and-eq (leb 1 x.number) _ p).1)
  where
    go : (o : Outcome) → x.outcome ≡ o → first (xs ++ ys) ≡ first xs ▷ first ys → first (x ∷ xs ++ ys) ≡ first (x ∷ xs) ▷ first ys
    go kept e h = rw e h
    go (broken q) e h =
        let l : 1 ≤ x.number = leb-true _ _ (and-eq (leb 1 x.number) _ p).0 in
        let n : eqb x.number 0 ≡ false = ne_eqb x.number 0 (λ z. omega arith) in
        rw (e, n)

pub chain-turn : (a b c : Verdict) → (a ▷ b) ▷ c ≡ a ▷ (b ▷ c)
chain-turn a b c = go (eqb a.number 0) refl
  where
    go : (t : Bool) → eqb a.number 0 ≡ t → (a ▷ b) ▷ c ≡ a ▷ (b ▷ c)
    go true e = rw e
    go false e = rw (e, e)

-- ---- the judgement of a file

-- opens the rules of a file: `unfolding ruled` makes of `rules f` a list of twenty-three
unfoldable pub ruled : Unit {0}
unfolding rules head_rules directory_rules offset_rules count_rules entry_rules picture_rules table_rules piece_rules survey_rules key_rules ground_rules
ruled = tt

directory-rules : (f : List ℕ) (h : Head) → directory_stage f h ≡ first (directory_rules f h)
unfolding directory_stage directory_rules offset_stage count_stage entry_stage offset_rules count_rules all
directory-rules f h =
    sym
    (first-append (offset_rules h) _ refl
    ∙ ap (λ (v : Verdict). offset_stage h ▷ v) (first-append (count_rules h (count_in f h)) _ refl))

-- the image's rules, then those of the survey and of the mask
pub verdict-turned : (f : List ℕ) → verdict_of f ≡ image_stage f ▷ (survey_stage (view f) ▷ mask_stage f)
unfolding verdict_of file_stage
verdict-turned f = chain-turn (image_stage f) (survey_stage (view f)) (mask_stage f)

pub verdict-rules : (f : List ℕ) → verdict_of f ≡ first (rules f)
unfolding image_stage head_stage picture_stage survey_stage mask_stage ruled all
verdict-rules f =
    verdict-turned f
    ∙ chain-turn (head_stage f) _ _
    ∙ ap (λ (v : Verdict). head_stage f ▷ v)
    (chain-turn (directory_stage f (head_in f)) _ _
    ∙ ap (λ (v : Verdict). directory_stage f (head_in f) ▷ v)
    (ap (λ (v : Verdict). picture_stage (view f) ▷ v) (sym (first-append (survey_rules (view f)) _ refl))
    ∙ sym (first-append (picture_rules (view f)) _ refl))
    ∙ ap (λ (v : Verdict). v ▷ first (picture_rules (view f) ++ (survey_rules (view f) ++ (28 ▸ rule28 f ∷ [])))) (directory-rules f (head_in f))
    ∙ sym (first-append (directory_rules f (head_in f)) _ refl))
    ∙ sym (first-append (head_rules (length f) (head_run f)) _ refl)

-- no rule is broken where the verdict is 0
pub all-kept : (f : List ℕ) → (verdict_of f).number ≡ 0 → AllKept (rules f)
unfolding ruled all
all-kept f z = kept-first (rules f) refl (ap (λ (v : Verdict). v.number) (sym (verdict-rules f)) ∙ z)

-- ---- the judgement of a mask

-- opens the rules of a mask
unfoldable pub mask-ruled : Unit {0}
unfolding mask_rules directory_rules offset_rules count_rules entry_rules next_rules mask_picture_rules table_rules
mask-ruled = tt

pub mask-rules : (f : List ℕ) → mask_verdict f ≡ first (mask_rules f)
unfolding mask_verdict next_stage mask-ruled all
mask-rules f =
    ap (λ (v : Verdict). directory_stage f (mask_head f) ▷ v) (sym (first-append (next_rules (next_in f (mask_head f))) (mask_picture_rules f) refl))
    ∙ ap (λ (v : Verdict). v ▷ first (next_rules (next_in f (mask_head f)) ++ mask_picture_rules f)) (directory-rules f (mask_head f))
    ∙ sym (first-append (directory_rules f (mask_head f)) _ refl)
