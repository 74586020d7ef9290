-- Demand 1: every call gives the numbers of document 01 and no other, those of the file first; a refusal has nothing beside its verdict and leaves
-- lent rows and lent bytes as they were; an accepting call writes in front only. Assumes nothing.
use Prim.Native.Nat.{ℕ, ◌+◌, ◌≤◌, ◌<◌}
use mathlib.Core.Path.{◌≡◌, refl, sym, ap, ◌∙◌, subst}
use mathlib.Core.Bool.{Bool, true, false, cond, not, ◌&&◌, ◌||◌, or-true, true≢false}
use mathlib.Core.List.{List, [], ◌∷◌, ◌++◌}
use native.Mathlib.Omega.{arith}
use lib.Dec.{eqb, ltb}
use lib.ListN.{length, drop, length-append, length-drop}
use lib.Seq.{drop-append_seam}
use borrow.Author.Tests.{eqb-false, eqb-true, ne_eqb, ltb-true, ltb-false, le-ltb}
use Rattle.paper.specs.Outcome.{Outcome, kept, broken, Rule, ◌▸◌, first, verdict}
use Rattle.paper.specs.Tests.{all, some}
use Rattle.paper.specs.Keys.{Runs, key_count, keys, has_key, kind_of, ascii_kind, key_rules}
use Rattle.paper.specs.Judge.{View, view, runs_of, verdict_of, rules}
use Rattle.paper.specs.Calls.{accepts, answer, judged_of, judged_in, not_judged, rows_of, left_rows, rows_over, row_at, rows_in, rule23, counted, counted_in}
use Rattle.paper.specs.Calls.{cited_of, cited_in, rule26, cited, citation, texts_in, rule29, given, text_of, text_within, metadata_text, read_runs}
use Rattle.paper.specs.Block.{rule24, rule25, block, block_verdict, block_in, block_of, block_left, block_over}
use Rattle.paper.specs.Block.{block_bytes, block_directory, block_doubles, block_characters}
use Rattle.paper.specs.Lent.{Accepted, Refused, among, file_numbers, Gives, CallGives, Numbers, plus_zero, Refusals, InFront, block_length, Writes, Needed, Named, Reads, Guarded}
use Rattle.paper.proofs.Laws.{and-eq, length-build, breaks-kept}
use Rattle.paper.proofs.Called.{answer-good}
use Rattle.paper.proofs.First.{From, first-kept, kept-first, verdict-rules, ruled}
use Rattle.paper.specs.declared.Verdict.{Verdict}
use Rattle.paper.specs.declared.Row.{Row}
use Rattle.paper.specs.declared.Georeference.TheVariants.{Scaled}
use Rattle.paper.specs.declared.Judged.{Judged}
use Rattle.paper.specs.declared.Counted.{Counted}
use Rattle.paper.specs.declared.Cited.{Cited}
use Rattle.paper.specs.declared.Text.{Text}
use Rattle.paper.specs.declared.Block.{Block}

-- ---- a list of rules gives 0, or one of its numbers

-- every number of the list is one of ks
abbrev Only : List ℕ → List Rule → Type 0
Only ks rs = all (λ r. among r.number ks) rs ≡ true

-- a rule that is kept leaves the others
first_others : (r : Rule) (rs : List Rule) → r.outcome ≡ kept → first (r ∷ rs) ≡ first rs
unfolding first
first_others r rs e = rw e

-- and one that is broken gives its number
first_number : (r : Rule) (rs : List Rule) (q : ℕ) → r.outcome ≡ broken q → (first (r ∷ rs)).number ≡ r.number
unfolding first
first_number r rs q e = rw e

first-among : (ks : List ℕ) (rs : List Rule) → Only ks rs → among (first rs).number (0 ∷ ks) ≡ true
unfolding first all some
first-among ks [] p = refl
first-among ks (r ∷ rs) p = go r.outcome refl (first-among ks rs (and-eq (among r.number ks) _ p).1)
  where
    go : (o : Outcome) → r.outcome ≡ o → among (first rs).number (0 ∷ ks) ≡ true → among (first (r ∷ rs)).number (0 ∷ ks) ≡ true
    go kept e h = subst (λ (v : Verdict). among v.number (0 ∷ ks) ≡ true) (sym (first_others r rs e)) h
    go (broken q) e h =
        subst (λ (n : ℕ). among n (0 ∷ ks) ≡ true) (sym (first_number r rs q e)) (rw ((and-eq (among r.number ks) _ p).0, or-true))

first_gives : (ks : List ℕ) (rs : List Rule) → From 1 rs → Only ks rs → Gives ks (first rs)
first_gives ks rs p q =
    record { number = first-among ks rs q; place = λ z. ap (λ (v : Verdict). v.place) (first-kept rs (kept-first rs p z)) }

file-gives : (f : List ℕ) → Gives file_numbers (verdict_of f)
unfolding ruled all some
file-gives f = subst (λ (v : Verdict). Gives file_numbers v) (sym (verdict-rules f)) (first_gives file_numbers (rules f) refl refl)

-- ---- a call on a file: two calls take the same branch

call-both : {A B : Type 0} (f : List ℕ) (a : View → A) (b : View → B) (c : Verdict → A) (d : Verdict → B) (P : A → B → Type 0)
    → (Accepted (verdict_of f) → P (a (view f)) (b (view f))) → (Refused (verdict_of f) → P (c (verdict_of f)) (d (verdict_of f)))
    → P (answer f a c) (answer f b d)
unfolding answer
call-both f a b c d P good bad = go (accepts (verdict_of f)) refl
  where
    go : (t : Bool) → accepts (verdict_of f) ≡ t
        → P (cond (accepts (verdict_of f)) (a (view f)) (c (verdict_of f))) (cond (accepts (verdict_of f)) (b (view f)) (d (verdict_of f)))
    go true e = rw e (good (eqb-true _ _ e))
    go false e = rw e (bad (eqb-false _ _ e))

call : {A : Type 0} (f : List ℕ) (a : View → A) (c : Verdict → A) (P : A → Type 0)
    → (Accepted (verdict_of f) → P (a (view f))) → (Refused (verdict_of f) → P (c (verdict_of f))) → P (answer f a c)
call f a c P good bad = call-both f a a c c (λ x y. P x) good bad

-- ---- which numbers a call gives: its own after those of the file

call-gives : {A : Type 0} (f : List ℕ) (a : View → A) (c : Verdict → A) (of : A → Verdict) (own : List ℕ)
    → of (c (verdict_of f)) ≡ verdict_of f → Gives own (of (a (view f))) → CallGives f own (of (answer f a c))
call-gives f a c of own e g =
    call f a c (λ x. CallGives f own (of x))
    (λ z. record { before = λ n. absurd (n z); after = λ y. g })
    (λ n. record { before = λ y. e; after = λ z. absurd (n z) })

zero-gives : Gives [] (verdict 0 0)
unfolding some
zero-gives = record { number = refl; place = λ z. refl }

rows-gives : (m : ℕ) (w : View) → Gives (23 ∷ []) (counted_in m w).verdict
unfolding counted_in all some
rows-gives m w = first_gives (23 ∷ []) (23 ▸ rule23 m (key_count (runs_of w)) ∷ []) refl refl

cited-gives : (k : ℕ) (w : View) → Gives (26 ∷ []) (cited_in k w).verdict
unfolding cited_in all some
cited-gives k w = first_gives (26 ∷ []) (26 ▸ rule26 k (keys (runs_of w)) ∷ []) refl refl

-- the text's own rule gives the verdict, whichever text it is
text-own : (k m : ℕ) (w : View) → (text_within k m w).verdict ≡ first (29 ▸ rule29 k (texts_in w) ∷ [])
unfolding text_within
text-own k m w = go (eqb (length (texts_in w)) 0) refl
  where
    go : (t : Bool) → eqb (length (texts_in w)) 0 ≡ t → (text_within k m w).verdict ≡ first (29 ▸ rule29 k (texts_in w) ∷ [])
    go true e = rw e
    go false e = rw e

text-gives : (k m : ℕ) (w : View) → Gives (29 ∷ []) (text_within k m w).verdict
unfolding all some
text-gives k m w = rw (text-own k m w) (first_gives (29 ∷ []) (29 ▸ rule29 k (texts_in w) ∷ []) refl refl)

block-gives : (m : ℕ) (r : Runs) → Gives (24 ∷ 25 ∷ []) (block_in m r).verdict
unfolding block_in block_verdict all some
block-gives m r = first_gives (24 ∷ 25 ∷ []) (24 ▸ rule24 r ∷ 25 ▸ rule25 r m ∷ []) refl refl

block-far : (f : List ℕ) (m p : ℕ) → Accepted (verdict_of f) → rule24 (runs_of (view f)) ≡ broken p → (block_of f m).verdict ≡ verdict 24 p
unfolding block_of block_in block_verdict first
block-far f m p z h = ap (λ (b : Block). b.verdict) (answer-good f _ _ z) ∙ rw h

pub numbers : (f : List ℕ) → Numbers f
unfolding judged_of judged_in rows_of cited_of text_of block_of
numbers f =
    record {
      file = file-gives f;
      judged = call-gives f _ _ (λ (x : Judged). x.verdict) _ refl zero-gives;
      rows = λ m. call-gives f _ _ (λ (x : Counted). x.verdict) _ refl (rows-gives m (view f));
      cited = λ k. call-gives f _ _ (λ (x : Cited). x.verdict) _ refl (cited-gives k (view f));
      text = λ k m. call-gives f _ _ (λ (x : Text). x.verdict) _ refl (text-gives k m (view f));
      block = λ m. call-gives f _ _ (λ (x : Block). x.verdict) _ refl (block-gives m (runs_of (view f)));
      far = block-far f;
    }

-- ---- what stands beside a refusal

-- K, the minor revision, georeference and corners
abbrev Nowhere : Judged → Type 0
Nowhere j =
    j
    ≡ record {
      verdict = j.verdict;
      keys = 0;
      minor = 0;
      georeference = Scaled plus_zero plus_zero plus_zero plus_zero plus_zero plus_zero;
      corners = record { x0 = plus_zero; y0 = plus_zero; x1 = plus_zero; y1 = plus_zero };
    }

judged-none : (f : List ℕ) → Refused (judged_of f).verdict → Nowhere (judged_of f)
unfolding judged_of judged_in
judged-none f = call f judged_in not_judged (λ j. Refused j.verdict → Nowhere j) (λ z n. absurd (n refl)) (λ n y. refl)

-- K, told beside a verdict
counted_none : (v : Verdict) (k : ℕ) → Refused v → counted v k ≡ record { verdict = v; keys = 0 }
counted_none v k n = rw (ne_eqb v.number 0 n)

rows_none : (f : List ℕ) (m : ℕ) → Refused (rows_of f m).verdict → rows_of f m ≡ record { verdict = (rows_of f m).verdict; keys = 0 }
unfolding rows_of counted_in
rows_none f m =
    call f (counted_in m) (λ v. counted v 0) (λ c. Refused c.verdict → c ≡ record { verdict = c.verdict; keys = 0 })
    (λ z n. counted_none _ _ n) (λ n y. counted_none _ _ y)

-- a citation's place, told beside a verdict
cited-none : (v : Verdict) (s l : ℕ) → Refused v → cited v s l ≡ record { verdict = v; start = 0; len = 0 }
cited-none v s l n = rw (ne_eqb v.number 0 n)

citation-none : (f : List ℕ) (k : ℕ) → Refused (cited_of f k).verdict → cited_of f k ≡ record { verdict = (cited_of f k).verdict; start = 0; len = 0 }
unfolding cited_of cited_in
citation-none f k =
    call f (cited_in k) (λ v. cited v 0 0) (λ c. Refused c.verdict → c ≡ record { verdict = c.verdict; start = 0; len = 0 })
    (λ z n. cited-none _ _ _ n) (λ n y. cited-none _ _ _ y)

-- a text's place, told beside a verdict
given-none : (v : Verdict) (from s l : ℕ) → Refused v → given v from s l ≡ record { verdict = v; from = 0; start = 0; len = 0 }
given-none v from s l n = rw (ne_eqb v.number 0 n)

-- nothing stands beside this text's verdict
abbrev Nothing : Text → Type 0
Nothing t = t ≡ record { verdict = t.verdict; from = 0; start = 0; len = 0 }

text_in-none : (k m : ℕ) (w : View) → Refused (text_within k m w).verdict → Nothing (text_within k m w)
unfolding text_within
text_in-none k m w = go (eqb (length (texts_in w)) 0) refl
  where
    go : (t : Bool) → eqb (length (texts_in w)) 0 ≡ t → Refused (text_within k m w).verdict → Nothing (text_within k m w)
    go true e = rw e (λ n. given-none _ _ _ _ n)
    go false e = rw e (λ n. given-none _ _ _ _ n)

text-none : (f : List ℕ) (k m : ℕ) → Refused (text_of f k m).verdict
    → text_of f k m ≡ record { verdict = (text_of f k m).verdict; from = 0; start = 0; len = 0 }
unfolding text_of
text-none f k m =
    call f (text_within k m) (λ v. given v 0 0 0) (λ t. Refused t.verdict → Nothing t)
    (λ z. text_in-none k m (view f)) (λ n y. given-none _ _ _ _ y)

lengths_none : (v : Verdict) (d x c : ℕ) → Refused v → block v d x c ≡ record { verdict = v; directory = 0; doubles = 0; characters = 0 }
lengths_none v d x c n = rw (ne_eqb v.number 0 n)

block_none : (f : List ℕ) (m : ℕ) → Refused (block_of f m).verdict
    → block_of f m ≡ record { verdict = (block_of f m).verdict; directory = 0; doubles = 0; characters = 0 }
unfolding block_of block_in
block_none f m =
    call f (λ w. block_in m (runs_of w)) (λ v. block v 0 0 0)
    (λ b. Refused b.verdict → b ≡ record { verdict = b.verdict; directory = 0; doubles = 0; characters = 0 })
    (λ z n. lengths_none _ _ _ _ n) (λ n y. lengths_none _ _ _ _ y)

-- ---- what is left in lent memory

-- a list laid over the front of another
laid : {A : Type 0} (xs lent : List A) (n : ℕ) → length xs ≡ n → n ≤ length lent → InFront n lent (xs ++ drop n lent)
laid xs lent n e l =
    record {
      room = l;
      long = length-append xs (drop n lent) ∙ rw (e, length-drop n lent) (omega arith);
      behind = ap (λ (k : ℕ). drop k (xs ++ drop n lent)) (sym e) ∙ drop-append_seam xs (drop n lent);
    }

-- what the rows call, and the block call, does to what is lent
abbrev Over : {A : Type 0} → Verdict → ℕ → List A → List A → Type 0
Over v n lent left = (Refused v → left ≡ lent) × (Accepted v → InFront n lent left)

rows-over : (lent : List Row) (w : View) → Over (counted_in (length lent) w).verdict (counted_in (length lent) w).keys lent (rows_over lent w)
unfolding counted_in rows_over rule23 first rows_in
rows-over lent w = go (ltb (length lent) (key_count (runs_of w))) refl
  where
    go : (t : Bool) → ltb (length lent) (key_count (runs_of w)) ≡ t
        → Over (counted_in (length lent) w).verdict (counted_in (length lent) w).keys lent (rows_over lent w)
    go true e = rw e ((λ n. refl), (λ z. absurd (no z)))
      where
        no : ◌≡◌ {A = ℕ} 23 0 → ⊥
        no z = omega arith
    go false e =
        rw e ((λ n. absurd (n refl)), (λ z. laid (rows_in w) lent (key_count (runs_of w)) (length-build (row_at w) 0 (key_count (runs_of w))) (ltb-false _ _ e)))

rows_left : (f : List ℕ) (lent : List Row) → Over (rows_of f (length lent)).verdict (rows_of f (length lent)).keys lent (left_rows f lent)
unfolding rows_of left_rows
rows_left f lent =
    call-both f (counted_in (length lent)) (rows_over lent) (λ v. counted v 0) (λ v. lent) (λ c left. Over c.verdict c.keys lent left)
    (λ z. rows-over lent (view f)) (λ n. ((λ y. refl), (λ z. absurd (n z))))

block-long : (r : Runs) → length (block_bytes r) ≡ length (block_directory r) + (length (block_doubles r) + length (block_characters r))
unfolding block_bytes
block-long r =
    length-append (block_directory r) _ ∙ ap (λ (n : ℕ). length (block_directory r) + n) (length-append (block_doubles r) (block_characters r))

-- rule 25 is kept
pub block_room : (m : ℕ) (r : Runs) → Accepted (block_verdict m r) → length (block_bytes r) ≤ m
unfolding block_verdict rule25 all
block_room m r z =
    ltb-false m (length (block_bytes r))
    (breaks-kept (ltb m (length (block_bytes r))) (length (block_bytes r)) (kept-first (24 ▸ rule24 r ∷ 25 ▸ rule25 r m ∷ []) refl z 1))

block-over : (out : List ℕ) (r : Runs) → Over (block_in (length out) r).verdict (block_length (block_in (length out) r)) out (block_over out r)
unfolding block_in block_over
block-over out r = go (accepts (block_verdict (length out) r)) refl
  where
    go : (t : Bool) → accepts (block_verdict (length out) r) ≡ t
        → Over (block_in (length out) r).verdict (block_length (block_in (length out) r)) out (block_over out r)
    go false e = rw e ((λ n. refl), (λ z. absurd (eqb-false _ _ e z)))
    go true e =
        let z : Accepted (block_verdict (length out) r) = eqb-true _ _ e in
        let at : InFront (length (block_bytes r)) out (block_bytes r ++ drop (length (block_bytes r)) out) =
        laid (block_bytes r) out (length (block_bytes r)) refl (block_room (length out) r z) in
        rw e ((λ n. absurd (n z)), (λ y. subst (λ (n : ℕ). InFront n out (block_bytes r ++ drop (length (block_bytes r)) out)) (block-long r) at))

block-left : (f out : List ℕ) → Over (block_of f (length out)).verdict (block_length (block_of f (length out))) out (block_left f out)
unfolding block_of block_left
block-left f out =
    call-both f (λ w. block_in (length out) (runs_of w)) (λ w. block_over out (runs_of w)) (λ v. block v 0 0 0) (λ v. out)
    (λ b left. Over b.verdict (block_length b) out left)
    (λ z. block-over out (runs_of (view f))) (λ n. ((λ y. refl), (λ z. absurd (n z))))

-- ---- the places of a call's own numbers

numbers-same : {k p j q : ℕ} → verdict k p ≡ verdict j q → k ≡ j
numbers-same h = ap (λ (v : Verdict). v.number) h

place_same : {k p j q : ℕ} → verdict k p ≡ verdict j q → p ≡ q
place_same h = ap (λ (v : Verdict). v.place) h

-- a number that no rule of the file has is given where the file is accepted
own-after : (f own : List ℕ) (v : Verdict) (k p : ℕ) → CallGives f own v → among k (0 ∷ file_numbers) ≡ false → v ≡ verdict k p → Accepted (verdict_of f)
own-after f own v k p g out h = go (accepts (verdict_of f)) refl
  where
    go : (t : Bool) → accepts (verdict_of f) ≡ t → Accepted (verdict_of f)
    go true e = eqb-true _ _ e
    go false e =
        let same : verdict_of f ≡ verdict k p = sym (g.before (eqb-false _ _ e)) ∙ h in
        let yes : among k (0 ∷ file_numbers) ≡ true = subst (λ (w : Verdict). among w.number (0 ∷ file_numbers) ≡ true) same (file-gives f).number in
        absurd (true≢false (sym yes ∙ out))

rows-needed : (w : View) (m p : ℕ) → (counted_in m w).verdict ≡ verdict 23 p → Needed m p (counted_in p w).verdict (counted_in p w).keys
unfolding counted_in rule23 first
rows-needed w m p h = go (ltb m (key_count (runs_of w))) refl
  where
    go : (t : Bool) → ltb m (key_count (runs_of w)) ≡ t → Needed m p (counted_in p w).verdict (counted_in p w).keys
    go true e =
        let k : key_count (runs_of w) ≡ p = place_same (rw e at h) in
        let l : m < key_count (runs_of w) = ltb-true _ _ e in
        let u : ltb p (key_count (runs_of w)) ≡ false = le-ltb p (key_count (runs_of w)) (omega arith) in
        rw u (record { fewer = omega arith; enough = refl; filled = k })
    go false e = let z : ◌≡◌ {A = ℕ} 0 23 = numbers-same (rw e at h) in absurd (omega arith)

block-needed : (r : Runs) (m p : ℕ) → (block_in m r).verdict ≡ verdict 25 p → Needed m p (block_in p r).verdict (block_length (block_in p r))
unfolding block_in block_verdict rule25 first
block-needed r m p h = far (rule24 r) refl
  where
    go : (t : Bool) → rule24 r ≡ kept → ltb m (length (block_bytes r)) ≡ t → Needed m p (block_in p r).verdict (block_length (block_in p r))
    go true o e =
        let k : length (block_bytes r) ≡ p = place_same (rw (o, e) at h) in
        let l : m < length (block_bytes r) = ltb-true _ _ e in
        let u : ltb p (length (block_bytes r)) ≡ false = le-ltb p (length (block_bytes r)) (omega arith) in
        rw (o, u) (record { fewer = omega arith; enough = refl; filled = sym (block-long r) ∙ k })
    go false o e = let z : ◌≡◌ {A = ℕ} 0 25 = numbers-same (rw (o, e) at h) in absurd (omega arith)

    far : (o : Outcome) → rule24 r ≡ o → Needed m p (block_in p r).verdict (block_length (block_in p r))
    far kept e = go (ltb m (length (block_bytes r))) e refl
    far (broken q) e = let z : ◌≡◌ {A = ℕ} 24 25 = numbers-same (rw e at h) in absurd (omega arith)

cited-asked : (w : View) (k p : ℕ) → (cited_in k w).verdict ≡ verdict 26 p → p ≡ k
unfolding cited_in rule26 first
cited-asked w k p h = go (not (eqb (kind_of k) ascii_kind && has_key k (keys (runs_of w)))) refl
  where
    go : (t : Bool) → not (eqb (kind_of k) ascii_kind && has_key k (keys (runs_of w))) ≡ t → p ≡ k
    go true e = sym (place_same (rw e at h))
    go false e = let z : ◌≡◌ {A = ℕ} 0 26 = numbers-same (rw e at h) in absurd (omega arith)

text-asked : (w : View) (k m p : ℕ) → (text_within k m w).verdict ≡ verdict 29 p → p ≡ k
unfolding rule29 first
text-asked w k m p h = go (not (ltb k (length (texts_in w)) || (eqb (length (texts_in w)) 0 && eqb k 0))) refl (sym (text-own k m w) ∙ h)
  where
    go : (t : Bool) → not (ltb k (length (texts_in w)) || (eqb (length (texts_in w)) 0 && eqb k 0)) ≡ t
        → first (29 ▸ rule29 k (texts_in w) ∷ []) ≡ verdict 29 p → p ≡ k
    go true e x = sym (place_same (rw e at x))
    go false e x = let z : ◌≡◌ {A = ℕ} 0 29 = numbers-same (rw e at x) in absurd (omega arith)

pub named : (f : List ℕ) → Named f
unfolding rows_of cited_of text_of block_of some
named f = record { rows = rows; block = block_at; cited = cited_at; text = text_at }
  where
    rows : (m p : ℕ) → (rows_of f m).verdict ≡ verdict 23 p → Needed m p (rows_of f p).verdict (rows_of f p).keys
    rows m p h =
        let z : Accepted (verdict_of f) = own-after f (23 ∷ []) (rows_of f m).verdict 23 p ((numbers f).rows m) refl h in
        rw (answer-good f (counted_in p) (λ v. counted v 0) z)
        (rows-needed (view f) m p (rw (answer-good f (counted_in m) (λ v. counted v 0) z) at h))

    block_at : (m p : ℕ) → (block_of f m).verdict ≡ verdict 25 p → Needed m p (block_of f p).verdict (block_length (block_of f p))
    block_at m p h =
        let z : Accepted (verdict_of f) = own-after f (24 ∷ 25 ∷ []) (block_of f m).verdict 25 p ((numbers f).block m) refl h in
        rw (answer-good f (λ w. block_in p (runs_of w)) (λ v. block v 0 0 0) z)
        (block-needed (runs_of (view f)) m p (rw (answer-good f (λ w. block_in m (runs_of w)) (λ v. block v 0 0 0) z) at h))

    cited_at : (k p : ℕ) → (cited_of f k).verdict ≡ verdict 26 p → p ≡ k
    cited_at k p h =
        let z : Accepted (verdict_of f) = own-after f (26 ∷ []) (cited_of f k).verdict 26 p ((numbers f).cited k) refl h in
        cited-asked (view f) k p (rw (answer-good f (cited_in k) (λ v. cited v 0 0) z) at h)

    text_at : (k m p : ℕ) → (text_of f k m).verdict ≡ verdict 29 p → p ≡ k
    text_at k m p h =
        let z : Accepted (verdict_of f) = own-after f (29 ∷ []) (text_of f k m).verdict 29 p ((numbers f).text k m) refl h in
        text-asked (view f) k m p (rw (answer-good f (text_within k m) (λ v. given v 0 0 0) z) at h)

-- ---- the demand

pub refusals : (f : List ℕ) → Refusals f
unfolding citation metadata_text
refusals f =
    record {
      judged = judged-none f;
      counted = rows_none f;
      rows = λ lent. (rows_left f lent).0;
      cited = citation-none f;
      citation = λ k n. rw (citation-none f k n);
      text = text-none f;
      metadata = λ k outside n. rw (text-none f k (length outside) n);
      block = block_none f;
      output = λ out. (block-left f out).0;
    }

pub writes : (f : List ℕ) → Writes f
writes f = record { rows = λ lent. (rows_left f lent).1; output = λ out. (block-left f out).1 }

pub reads : (r : Runs) → Reads r
unfolding read_runs key_rules all some
reads r =
    record {
      number = first_gives (15 ∷ 16 ∷ 17 ∷ 18 ∷ 19 ∷ []) (key_rules r) refl refl;
      refused = λ n. rw (ne_eqb (first (key_rules r)).number 0 n);
    }

pub guarded : (f : List ℕ) → Guarded f
guarded f = record { numbers = numbers f; named = named f; refusals = refusals f; writes = writes f }
