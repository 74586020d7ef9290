-- The place of a verdict is that of the first fault of its rule, or of the lowest, as document 01 words it for each rule: shown once over any list
-- of candidates, and over any list of rules that have numbers of their own. Assumes nothing.
use Prim.Native.Nat.{ℕ, zero, suc, ◌+◌, ◌≤◌, ◌<◌}
use mathlib.Core.Path.{◌≡◌, refl, sym, ap, ◌∙◌, subst}
use mathlib.Core.Bool.{Bool, true, false, cond, not, ◌&&◌, false≢true}
use mathlib.Core.List.{List, [], ◌∷◌, ◌++◌, map}
use native.Mathlib.Omega.{arith}
use lib.Dec.{eqb, ltb}
use lib.ListN.{length}
use borrow.Author.Tests.{eqb-true, eqb-false, ltb-true, not-true}
use Rattle.paper.specs.Bytes.{build}
use Rattle.paper.specs.Outcome.{Outcome, kept, broken, breaks, first_of, Fault, first_there, first_bad, ascending_from, ascending, Rule, first, verdict, ordered, ordered_from}
use Rattle.paper.specs.Tests.{not_in, distinct}
use Rattle.paper.specs.Layout.{behind, rule1, rule2, rule3, rule4, rule5, rule6, rule7}
use Rattle.paper.specs.Tags.{Held, table, tiled, disagreements, rule27, rule9, rule10, rule11, rule12}
use Rattle.paper.specs.Pieces.{Piece, place_at, places_of, pieces, rule13, rule14}
use Rattle.paper.specs.Keys.{fixed_keys, rule15, rule16, rule17, rule18, rule19}
use Rattle.paper.specs.Ground.{rule20, rule21, rule22}
use Rattle.paper.specs.Judge.{View, head_of, head_in, view_at, view, pieces_of, verdict_of, rules, has_mask, mask_rules, mask_verdict, rule28}
use Rattle.paper.specs.Asked.{MaskBroken}
use Rattle.paper.specs.Places.{In, FirstFault, Lowest, FirstPiece, LowestFault, pairs_from, pairs, out_of_order, FirstFall, placeless, Places, Placed}
use Rattle.paper.proofs.Several.{ordered-more}
use Rattle.paper.proofs.Laws.{and-eq}
use Rattle.paper.proofs.First.{broken-first, verdict-rules, ruled, mask-rules}
use Rattle.paper.proofs.Tables.{table-order, fixed-order}
use Rattle.paper.specs.declared.Verdict.{Verdict}

-- ---- one of a list

module _ {A : Type 0} where
  in-none : (x : A) → In x [] → ⊥
  in-none x i = go i.before i.split
    where
      go : (b : List A) → [] ≡ b ++ (x ∷ i.behind) → ⊥
      go [] e = absurd (false≢true cc)
      go (y ∷ b) e = absurd (false≢true cc)

  in-more : (y x : A) (xs : List A) → In x xs → In x (y ∷ xs)
  in-more y x xs i = record { before = y ∷ i.before; behind = i.behind; split = ap (λ (zs : List A). y ∷ zs) i.split }

  in-cases : (P : A → Type 0) (y : A) (xs : List A) → P y → ((x : A) → In x xs → P x) → (x : A) → In x (y ∷ xs) → P x
  in-cases P y xs here there x i = go i.before i.split
    where
      go : (b : List A) → y ∷ xs ≡ b ++ (x ∷ i.behind) → P x
      go [] e = let s : y ≡ x = cc in subst P s here
      go (z ∷ b) e = let s : xs ≡ b ++ (x ∷ i.behind) = cc in there x (record { before = b; behind = i.behind; split = s })

  -- what holds of the first and of each other
  infixr 20 ◌⊹◌
  ◌⊹◌ : {P : A → Type 0} {y : A} {xs : List A} → P y → ((x : A) → In x xs → P x) → (x : A) → In x (y ∷ xs) → P x
  ◌⊹◌ {P} {y} {xs} here there = in-cases P y xs here there

-- ---- the first at fault

broken-same : (p q : ℕ) → broken p ≡ broken q → p ≡ q
broken-same p q e = cc

module _ {A : Type 0} (bad : A → Bool) (place : A → ℕ) where
  pub first-fault : (xs : List A) (p : ℕ) → first_bad bad place xs ≡ broken p → FirstFault bad place xs p
  unfolding first_bad
  first-fault [] p h = absurd (false≢true cc)
  first-fault (x ∷ xs) p h = go (bad x) refl (first-fault xs p)
    where
      go : (b : Bool) → bad x ≡ b → (first_bad bad place xs ≡ broken p → FirstFault bad place xs p) → FirstFault bad place (x ∷ xs) p
      go true e r =
          record {
            before = [];
            it = x;
            behind = xs;
            split = refl;
            none = λ y i. absurd (in-none y i);
            fault = e;
            named = broken-same (place x) p (rw e at h);
          }
      go false e r =
          let w : FirstFault bad place xs p = r (rw e at h) in
          record {
            before = x ∷ w.before;
            it = w.it;
            behind = w.behind;
            split = ap (λ (zs : List A). x ∷ zs) w.split;
            none = in-cases (λ y. bad y ≡ false) x w.before e w.none;
            fault = w.fault;
            named = w.named;
          }

  -- and the way back
  pub fault-first : (xs : List A) (p : ℕ) → FirstFault bad place xs p → first_bad bad place xs ≡ broken p
  unfolding first_bad
  fault-first xs p w = ap (first_bad bad place) w.split ∙ go w.before w.none
    where
      go : (b : List A) → ((x : A) → In x b → bad x ≡ false) → first_bad bad place (b ++ (w.it ∷ w.behind)) ≡ broken p
      go [] n = rw w.fault (ap broken w.named)
      go (x ∷ b) n =
          let e : bad x ≡ false = n x (record { before = []; behind = b; split = refl }) in
          rw e (go b (λ y i. n y (in-more x y b i)))

  -- ---- the lowest at fault, where the places ascend

  ascending-in : (a : ℕ) (xs : List A) → ascending_from a (map place xs) ≡ kept → (x : A) → In x xs → a < place x
  unfolding ordered_from
  ascending-in a [] h = λ x i. absurd (in-none x i)
  ascending-in a (y ∷ xs) h = go (ltb a (place y)) refl (ascending-in (place y) xs)
    where
      go : (b : Bool) → ltb a (place y) ≡ b → (ascending_from (place y) (map place xs) ≡ kept → (x : A) → In x xs → place y < place x)
          → (x : A) → In x (y ∷ xs) → a < place x
      go true e r =
          let l : a < place y = ltb-true _ _ e in
          let s : (x : A) → In x xs → place y < place x = r (rw e at h) in
          in-cases (λ x. a < place x) y xs l (λ x i. omega (arith, s x i))
      go false e r = let w : broken (place y) ≡ kept = rw e at h in absurd (false≢true cc)

  pub lowest : (xs : List A) (p : ℕ) → ascending (map place xs) ≡ kept → FirstFault bad place xs p → Lowest bad place xs p
  unfolding ordered
  lowest xs p h w =
      record {
        it = w.it;
        one = record { before = w.before; behind = w.behind; split = w.split };
        fault = w.fault;
        named = w.named;
        least = subst (λ (zs : List A). (x : A) → In x zs → bad x ≡ true → p ≤ place x) (sym w.split)
            (go w.before w.none (ap (λ (zs : List A). ascending (map place zs)) (sym w.split) ∙ h));
      }
    where
      go : (b : List A) → ((x : A) → In x b → bad x ≡ false) → ascending (map place (b ++ (w.it ∷ w.behind))) ≡ kept
          → (x : A) → In x (b ++ (w.it ∷ w.behind)) → bad x ≡ true → p ≤ place x
      go [] n a =
          let l : p ≤ place w.it = omega (arith, w.named) in
          in-cases (λ x. bad x ≡ true → p ≤ place x) w.it w.behind (λ e. l)
          (λ x i e. omega (arith, l, ascending-in (place w.it) w.behind a x i))
      go (y ∷ b) n a =
          let e : bad y ≡ false = n y (record { before = []; behind = b; split = refl }) in
          in-cases (λ x. bad x ≡ true → p ≤ place x) y (b ++ (w.it ∷ w.behind)) (λ t. absurd (false≢true (sym e ∙ t)))
          (go b (λ x i. n x (in-more y x b i)) (ordered-more ltb (place y) (map place (b ++ (w.it ∷ w.behind))) a))

  -- ---- places that count from 0

  counted : (g : ℕ → A) → ((i : ℕ) → place (g i) ≡ i) → (b : List A) (x : A) (c : List A) (i k : ℕ) → build g i k ≡ b ++ (x ∷ c)
      → i + length b ≡ place x
  unfolding build
  counted g n [] x c i zero e = cc
  counted g n [] x c i (suc k) e = let s : g i ≡ x = cc in omega (arith, n i, ap place s)
  counted g n (y ∷ b) x c i zero e = cc
  counted g n (y ∷ b) x c i (suc k) e = let s : build g (suc i) k ≡ b ++ (x ∷ c) = cc in omega (arith, counted g n b x c (suc i) k s)

-- the faults that a rule looks for, one by one
faults-first : (xs : List Fault) → first_there xs ≡ first_bad (λ x. x.there) (λ x. x.place) xs
unfolding first_of first_bad
faults-first [] = refl
faults-first (x ∷ xs) = go x.there refl (faults-first xs)
  where
    go : (b : Bool) → x.there ≡ b → first_there xs ≡ first_bad (λ x. x.there) (λ x. x.place) xs
        → first_there (x ∷ xs) ≡ first_bad (λ x. x.there) (λ x. x.place) (x ∷ xs)
    go true e r = rw e
    go false e r = rw e r

pub lowest-fault : (xs : List Fault) (p : ℕ) → ascending (map (λ x. x.place) xs) ≡ kept → first_there xs ≡ broken p → LowestFault xs p
lowest-fault xs p a h = lowest _ _ xs p a (first-fault _ _ xs p (sym (faults-first xs) ∙ h))

-- numbers that do not follow each other
falls-first : (follows : ℕ → ℕ → Bool) (a : ℕ) (bs : List ℕ) → ordered_from follows a bs ≡ first_bad (out_of_order follows) (λ x. x.later) (pairs_from a bs)
unfolding ordered_from first_bad out_of_order pairs_from
falls-first follows a [] = refl
falls-first follows a (b ∷ bs) = go (follows a b) refl (falls-first follows b bs)
  where
    go : (t : Bool) → follows a b ≡ t → ordered_from follows b bs ≡ first_bad (out_of_order follows) (λ x. x.later) (pairs_from b bs)
        → ordered_from follows a (b ∷ bs) ≡ first_bad (out_of_order follows) (λ x. x.later) (pairs_from a (b ∷ bs))
    go true e r = rw e r
    go false e r = rw e

pub first-fall : (follows : ℕ → ℕ → Bool) (ns : List ℕ) (p : ℕ) → ordered follows ns ≡ broken p → FirstFall follows ns p
unfolding ordered pairs
first-fall follows [] p h = absurd (false≢true cc)
first-fall follows (a ∷ bs) p h = first-fault (out_of_order follows) _ (pairs_from a bs) p (sym (falls-first follows a bs) ∙ h)

-- ---- from the verdict to the rule that has its number

abbrev numbers_of : List Rule → List ℕ
numbers_of rs = map (λ r. r.number) rs

-- the outcome of the rule with number k
unfoldable outcome_in : ℕ → List Rule → Outcome
outcome_in k [] = kept
outcome_in k (r ∷ rs) = cond (eqb r.number k) r.outcome (outcome_in k rs)

-- a number that no rule has is not the verdict's
unnumbered : (rs : List Rule) (k p : ℕ) → not_in k (numbers_of rs) ≡ true → first rs ≡ verdict k p → k ≡ 0
unfolding first
unnumbered [] k p a h = sym (ap (λ (v : Verdict). v.number) h)
unnumbered (r ∷ rs) k p a h = go r.outcome refl (unnumbered rs k p (and-eq (not (eqb k r.number)) _ a).1)
  where
    go : (o : Outcome) → r.outcome ≡ o → (first rs ≡ verdict k p → k ≡ 0) → k ≡ 0
    go kept e s = s (rw e at h)
    go (broken q) e s =
        let w : verdict r.number q ≡ verdict k p = rw e at h in
        absurd (eqb-false _ _ (not-true _ (and-eq (not (eqb k r.number)) _ a).0) (sym (ap (λ (v : Verdict). v.number) w)))

rule-broken : (rs : List Rule) (k p : ℕ) → distinct (numbers_of rs) ≡ true → eqb k 0 ≡ false → first rs ≡ verdict k p → outcome_in k rs ≡ broken p
unfolding outcome_in first
rule-broken [] k p d n h = absurd (eqb-false k 0 n (sym (ap (λ (v : Verdict). v.number) h)))
rule-broken (r ∷ rs) k p d n h = go (eqb r.number k) refl r.outcome refl (rule-broken rs k p (and-eq (not_in r.number (numbers_of rs)) _ d).1 n)
  where
    go : (b : Bool) → eqb r.number k ≡ b → (o : Outcome) → r.outcome ≡ o → (first rs ≡ verdict k p → outcome_in k rs ≡ broken p)
        → outcome_in k (r ∷ rs) ≡ broken p
    go true e kept q s =
        let w : first rs ≡ verdict k p = rw q at h in
        let a : not_in k (numbers_of rs) ≡ true = subst (λ (j : ℕ). not_in j (numbers_of rs) ≡ true) (eqb-true _ _ e) (and-eq (not_in r.number (numbers_of rs)) _ d).0 in
        absurd (eqb-false k 0 n (unnumbered rs k p a w))
    go true e (broken x) q s =
        let w : verdict r.number x ≡ verdict k p = rw q at h in
        rw (e, q) (ap broken (ap (λ (v : Verdict). v.place) w))
    go false e kept q s = rw e (s (rw q at h))
    go false e (broken x) q s =
        let w : verdict r.number x ≡ verdict k p = rw q at h in
        absurd (eqb-false _ _ e (ap (λ (v : Verdict). v.number) w))

-- ---- the rules of a file

-- the place of a broken rule that gives none
breaks-place : (b : Bool) (p q : ℕ) → breaks b p ≡ broken q → q ≡ p
breaks-place true p q h = broken-same q p (sym h)
breaks-place false p q h = cc

-- the tags of rule 12, in strips and in tiles
tags-12 : (big : Bool) (hs : List Held)
    → map (λ x. x.place) (disagreements big hs) ≡ 258 ∷ 259 ∷ cond (tiled hs) (324 ∷ 325 ∷ []) (273 ∷ 279 ∷ [])
tags-12 big hs = go (tiled hs) refl
  where
    go : (b : Bool) → tiled hs ≡ b → map (λ x. x.place) (disagreements big hs) ≡ 258 ∷ 259 ∷ cond (tiled hs) (324 ∷ 325 ∷ []) (273 ∷ 279 ∷ [])
    go true e = rw e
    go false e = rw e

order-12 : (b : Bool) → ascending (258 ∷ 259 ∷ cond b (324 ∷ 325 ∷ []) (273 ∷ 279 ∷ [])) ≡ kept
unfolding ordered ordered_from
order-12 true = refl
order-12 false = refl

-- the index of a piece is the number of those before it
first_piece : (bad : Piece → Bool) (v : View) (p : ℕ) → first_bad bad (λ s. s.index) (pieces_of v) ≡ broken p → FirstPiece bad (pieces_of v) p
unfolding pieces_of pieces places_of place_at
first_piece bad v p h =
    let w : FirstFault bad (λ s. s.index) (pieces_of v) p = first-fault bad _ (pieces_of v) p h in
    record { first = w; counted = omega (arith, counted bad (λ s. s.index) _ (λ i. refl) w.before w.it w.behind 0 _ w.split, w.named) }

-- opens the rules of a file, so that the outcome of a number is that of its rule
unfoldable opened : Unit {0}
unfolding ruled outcome_in head_in head_of view view_at
opened = tt

module _ (f : List ℕ) where
  outcome : (k p : ℕ) → eqb k 0 ≡ false → verdict_of f ≡ verdict k p → outcome_in k (rules f) ≡ broken p
  unfolding opened
  outcome k p n h = rule-broken (rules f) k p refl n (sym (verdict-rules f) ∙ h)

  -- the rules that give no place, in the order of `placeless`
  ungiven-zero : (k : ℕ) → In k placeless → Placed f k (λ p. p ≡ 0)
  unfolding opened rule1 rule2 rule3 rule4 rule5 rule27 rule15 rule20 rule22
  ungiven-zero =
      (λ p h. search (breaks-place, outcome 1 p refl h))
      ⊹ (λ p h. search (breaks-place, outcome 2 p refl h))
      ⊹ (λ p h. search (breaks-place, outcome 3 p refl h))
      ⊹ (λ p h. search (breaks-place, outcome 4 p refl h))
      ⊹ (λ p h. search (breaks-place, outcome 5 p refl h))
      ⊹ (λ p h. search (breaks-place, outcome 27 p refl h))
      ⊹ (λ p h. search (breaks-place, outcome 15 p refl h))
      ⊹ (λ p h. search (breaks-place, outcome 20 p refl h))
      ⊹ (λ p h. search (breaks-place, outcome 22 p refl h))
      ⊹ (λ k i. absurd (in-none k i))

  -- the mask's rule
  breaks-first : (b : Bool) (p q : ℕ) → breaks b p ≡ broken q → (b ≡ true) × (p ≡ q)
  breaks-first true p q h = (refl, broken-same p q h)
  breaks-first false p q h = (cc, cc)

  mask-broken : (p : ℕ) → rule28 f ≡ broken p → MaskBroken f p
  unfolding rule28
  mask-broken p h =
      let b = breaks-first (has_mask f && not (eqb (mask_verdict f).number 0)) (mask_verdict f).number p h in
      let c = and-eq (has_mask f) _ b.0 in
      let n : p ≡ 0 → ⊥ = (λ z. eqb-false _ _ (not-true _ c.1) (b.1 ∙ z)) in
      let e : first (mask_rules f) ≡ verdict p (mask_verdict f).place = sym (mask-rules f) ∙ (λ i. record { number = b.1 i; place = (mask_verdict f).place }) in
      record { there = c.0; at = (mask_verdict f).place; first = broken-first (mask_rules f) p (mask_verdict f).place e n }

  pub places : Places f
  unfolding opened rule6 rule7 rule9 rule10 rule11 rule12 rule13 rule14 rule16 rule17 rule18 rule19 rule21 ordered ordered_from
  places =
      record {
        ungiven = ungiven-zero;
        at6 = λ p h. first-fall behind _ p (outcome 6 p refl h);
        at7 = λ p h. first-fault _ _ _ p (outcome 7 p refl h);
        at9 = λ p h. lowest _ _ table p table-order (first-fault _ _ _ p (outcome 9 p refl h));
        at10 = λ p h. lowest _ _ table p table-order (first-fault _ _ _ p (outcome 10 p refl h));
        at11 = λ p h. lowest _ _ table p table-order (first-fault _ _ _ p (outcome 11 p refl h));
        at12 = λ p h. lowest-fault _ p (ap ascending (tags-12 (head_in f).big (view f).held) ∙ order-12 (tiled (view f).held)) (outcome 12 p refl h);
        tags12 = tags-12 (head_in f).big (view f).held;
        at13 = λ p h. first_piece _ (view f) p (outcome 13 p refl h);
        at14 = λ p h. first_piece _ (view f) p (outcome 14 p refl h);
        at16 = λ p h. first-fall ltb _ p (outcome 16 p refl h);
        at17 = λ p h. first-fault _ _ _ p (outcome 17 p refl h);
        at18 = λ p h. lowest-fault _ p refl (outcome 18 p refl h);
        keys18 = refl;
        at19 = λ p h. lowest _ _ fixed_keys p fixed-order (first-fault _ _ _ p (outcome 19 p refl h));
        at21 = λ p h. lowest-fault _ p refl (outcome 21 p refl h);
        tags21 = refl;
        at28 = λ p h. mask-broken p (outcome 28 p refl h);
      }
