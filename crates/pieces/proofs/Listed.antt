-- The gap of a reading list and what it meets, part by part. Assumes nothing.
use Rattle.std.proofs.Common.{◌≡◌, ℕ, zero, suc, ◌+◌, ◌<◌, ◌≤◌, Bool, true, false, cond, not, ◌&&◌, ◌||◌, eqb, ltb, leb, List, [], ◌∷◌, ◌++◌, length, get_or, refl, sym, ap, ◌∙◌, append-nil, add-one, add-zero, zero-add, take, fold, arith, ltb-true, ltb-false, le-leb, ne_eqb}
use mathlib.Core.Bool.{and_assoc}
use mathlib.Core.List.{append_assoc}
use Rattle.std.proofs.lemmas.List.{take_more, take_all}
use Rattle.std.proofs.lemmas.List.Sums.{fold-append}
use Rattle.std.proofs.lemmas.Bool.{lt-leb, or_left, or_right, or_from}
use Rattle.paper.specs.Bytes.{build}
use Rattle.paper.specs.Tests.{all, some, keep}
use Rattle.paper.specs.Pieces.{part}
use Rattle.paper.specs.declared.Part.{Part}
use Rattle.paper.proofs.Laws.{and-eq, and_both, all-at, length-build, get_or-build}
use Rattle.pieces.specs.Gaps.{addable, Addable, wide, parts_of, named_at, named_parts, clear, whole, narrowed, Found}
use Rattle.pieces.specs.Reading.{listed, further_many}
use Rattle.pieces.specs.declared.Gap.{Gap}
use Rattle.pieces.specs.declared.listing.Listing.{Listing}
use Rattle.pieces.proofs.Gaps.{Around, around-none, around-narrowed, found-gap, found-around}

-- the first parts of a list whose sums all fit are such a list
pub low-cut : (ps : List Part) (k : ℕ) → Addable ps → Addable (take k ps)
unfolding all
low-cut [] zero h = refl
low-cut [] (suc k) h = refl
low-cut (p ∷ ps) zero h = refl
low-cut (p ∷ ps) (suc k) h =
    let b = and-eq (addable p) _ h in
    and_both (addable p) _ b.0 (low-cut ps k b.1)

-- a part of such a list
pub part-low : (ps : List Part) (i : ℕ) (d : Part) → Addable ps → i < length ps
    → ((get_or ps i d).start < 68719476736) × ((get_or ps i d).len < 68719476736)
part-low ps i d h l =
    let p = get_or ps i d in
    let b = and-eq (ltb p.start 68719476736) _ (all-at addable ps d h i l) in
    (ltb-true _ _ b.0, ltb-true _ _ b.1)

-- ---- gap: that of the whole file, narrowed by part after part

-- the parts in the order in which they were seen, and as the list has them
some-swap : (is : Part → Bool) (qs : List Part) (p : Part) (ps : List Part) → some is (qs ++ p ∷ ps) ≡ is p || some is (qs ++ ps)
unfolding some
some-swap is [] p ps = refl
some-swap is (q ∷ qs) p ps = ap (λ (x : Bool). is q || x) (some-swap is qs p ps) ∙ turned (is q) (is p) (some is (qs ++ ps))
  where
    turned : (x y z : Bool) → x || (y || z) ≡ y || (x || z)
    turned true true z = refl
    turned true false z = refl
    turned false y z = refl

all-swap : (ok : Part → Bool) (qs : List Part) (p : Part) (ps : List Part) → all ok (qs ++ p ∷ ps) ≡ ok p && all ok (qs ++ ps)
unfolding all
all-swap ok [] p ps = refl
all-swap ok (q ∷ qs) p ps = ap (λ (x : Bool). ok q && x) (all-swap ok qs p ps) ∙ turned (ok q) (ok p) (all ok (qs ++ ps))
  where
    turned : (x y z : Bool) → x && (y && z) ≡ y && (x && z)
    turned true y z = refl
    turned false true z = refl
    turned false false z = refl

around-swap : (s n : ℕ) (qs : List Part) (p : Part) (ps : List Part) (lo hi : ℕ) → Around s n (p ∷ (qs ++ ps)) lo hi → Around s n (qs ++ p ∷ ps) lo hi
unfolding some all
around-swap s n qs p ps lo hi a =
    record {
      low = a.low;
      high = a.high;
      clean = λ l. all-swap _ qs p ps ∙ a.clean l;
      held = λ l k b c. some-swap _ qs p ps ∙ a.held l k b c;
      reach = λ l b c d. some-swap _ qs p ps ∙ a.reach l b c d;
    }

-- one part more
keep-one : (ps : List Part) (p : Part) (qs : List Part) → keep wide (ps ++ p ∷ []) ++ qs ≡ keep wide ps ++ cond (wide p) (p ∷ qs) qs
unfolding keep
keep-one [] p qs = go (wide p)
  where
    go : (t : Bool) → cond t (p ∷ []) [] ++ qs ≡ cond t (p ∷ qs) qs
    go true = refl
    go false = refl
keep-one (x ∷ ps) p qs = go (wide x) (keep-one ps p qs)
  where
    go : (t : Bool) → keep wide (ps ++ p ∷ []) ++ qs ≡ keep wide ps ++ cond (wide p) (p ∷ qs) qs
        → cond t (x ∷ keep wide (ps ++ p ∷ [])) (keep wide (ps ++ p ∷ [])) ++ qs ≡ cond t (x ∷ keep wide ps) (keep wide ps) ++ cond (wide p) (p ∷ qs) qs
    go true h = ap (λ (l : List Part). x ∷ l) h
    go false h = h

build-more : (at : ℕ → Part) (k : ℕ) → build at 0 (k + 1) ≡ build at 0 k ++ at k ∷ []
unfolding build
build-more at k = rw add-one (go 0 k ∙ ap (λ (j : ℕ). build at 0 k ++ at j ∷ []) (zero-add k))
  where
    go : (i k : ℕ) → build at i (suc k) ≡ build at i k ++ at (i + k) ∷ []
    go i zero = ap (λ (j : ℕ). at j ∷ []) (sym (add-zero i))
    go i (suc k) = ap (λ (l : List Part). at i ∷ l) (go (suc i) k ∙ ap (λ (j : ℕ). build at (suc i) k ++ at j ∷ []) (omega arith))

module _ (s : ℕ) (g : Gap) where
  -- a gap with these parts more than g: what was found with g is found with them in front of its own parts
  pub record Narrowed (ps : List Part) (h : Gap) : Type 0 where
    pub around : (n : ℕ) (qs : List Part) → Found s n qs g → Around s n (keep wide ps ++ qs) h.lo h.hi

  pub narrow_start : Narrowed [] g
  unfolding keep
  narrow_start = record { around = λ n qs f. found-around s n qs g f }

  module _ (ps : List Part) (h : Gap) (seen : Narrowed ps h) where
    turned : (n : ℕ) (p : Part) (qs : List Part) (t : Bool) (lo hi : ℕ) → Around s n (cond t (p ∷ (keep wide ps ++ qs)) (keep wide ps ++ qs)) lo hi
        → Around s n (keep wide ps ++ cond t (p ∷ qs) qs) lo hi
    turned n p qs true lo hi a = around-swap s n (keep wide ps) p qs lo hi a
    turned n p qs false lo hi a = a

    narrow-part : (p : Part) (h' : Gap) → h' ≡ narrowed s h p → Narrowed (ps ++ p ∷ []) h'
    narrow-part p h' e =
        record {
          around = λ n qs f.
              rw (e, keep-one ps p qs) (turned n p qs (wide p) _ _ (around-narrowed s n p (keep wide ps ++ qs) h (seen.around n qs f)));
        }

    narrow-all : (n : ℕ) (qs : List Part) → Found s n qs g → Found s n (keep wide ps ++ qs) h
    narrow-all n qs f = found-gap s n (keep wide ps ++ qs) h (seen.around n qs f)

  -- by the parts of a list
  pub by_turn : (ps : List Part) (i : ℕ) (d : Part) (h : Gap) → Narrowed (take i ps) h → i < length ps → (h' : Gap)
      → h' ≡ narrowed s h (get_or ps i d) → Narrowed (take (i + 1) ps) h'
  by_turn ps i d h seen l h' e = rw (take_more ps i d l) (narrow-part (take i ps) h seen (get_or ps i d) h' e)

  pub by_end : (ps : List Part) (i : ℕ) (h : Gap) → Narrowed (take i ps) h → length ps ≤ i → (n : ℕ) (qs : List Part) → Found s n qs g
      → Found s n (parts_of ps ++ qs) h
  unfolding parts_of
  by_end ps i h seen l n qs f = narrow-all ps h (rw (take_all i ps l) at seen) n qs f

  -- by those that a run of entries names
  pub narrow-turn : (big : Bool) (f : List ℕ) (k : ℕ) (h : Gap) → Narrowed (build (named_at big f) 0 k) h → (h' : Gap)
      → h' ≡ narrowed s h (named_at big f k) → Narrowed (build (named_at big f) 0 (k + 1)) h'
  narrow-turn big f k h seen h' e =
      rw (build-more (named_at big f) k) (narrow-part (build (named_at big f) 0 k) h seen (named_at big f k) h' e)

  pub narrow-end : (big : Bool) (f : List ℕ) (k : ℕ) (h : Gap) → Narrowed (build (named_at big f) 0 k) h → (n : ℕ) (qs : List Part) → Found s n qs g
      → Found s n (named_parts big f k ++ qs) h
  unfolding named_parts
  narrow-end big f k h seen = narrow-all (build (named_at big f) 0 k) h seen

-- the gap of a whole file, with the parts of a list alone
pub gap-whole : (ps : List Part) (n s : ℕ) → 8 ≤ s → (r : Gap) → ((k : ℕ) (qs : List Part) → Found s k qs (whole n) → Found s k (parts_of ps ++ qs) r)
    → Found s n (parts_of ps) r
gap-whole ps n s h r narrowed = rw append-nil at (narrowed n [] (found-gap s n [] (whole n) (around-none s n h)))

-- and with those that its further entries name
pub gap-narrowed : (s n : ℕ) → 8 ≤ s → (l : Listing) (file first g : Gap) (j i : ℕ) → file ≡ whole n → Narrowed s file (take j l.parts.now) first
    → length l.parts.now ≤ j → Narrowed s first (build (named_at l.big l.further.now) 0 i) g → i ≤ further_many l → further_many l ≤ i
    → Found s n (listed l) g
unfolding listed
gap-narrowed s n h l file first g j i w a z b low high =
    let e : i ≡ further_many l = omega arith in
    narrow-end s first l.big l.further.now (further_many l) g (rw e at b) n (parts_of l.parts.now)
    (gap-whole l.parts.now n s h first (by_end s (whole n) l.parts.now j first (rw w at a) z))

-- the gap with some parts, one after another
abbrev pub narrowed_by : ℕ → Gap → List Part → Gap
narrowed_by s g ps = fold (narrowed s) g ps

pub narrowed-more : (s : ℕ) (g : Gap) (at : ℕ → Part) (k : ℕ) → narrowed_by s g (build at 0 (k + 1)) ≡ narrowed s (narrowed_by s g (build at 0 k)) (at k)
narrowed-more s g at k = ap (narrowed_by s g) (build-more at k) ∙ fold-append (narrowed s) g (build at 0 k) (at k ∷ [])

-- it has these parts more: those of a list, and those that a run of entries names
narrow-by : (s : ℕ) (g : Gap) (seen ps : List Part) (h : Gap) → Narrowed s g seen h → Narrowed s g (seen ++ ps) (narrowed_by s h ps)
narrow-by s g seen [] h a = rw append-nil a
narrow-by s g seen (p ∷ ps) h a =
    rw (← append_assoc seen (p ∷ []) ps) (narrow-by s g (seen ++ p ∷ []) ps (narrowed s h p) (narrow-part s g seen h a p (narrowed s h p) refl))

named-by : (s : ℕ) (g : Gap) (big : Bool) (f : List ℕ) (k : ℕ) → Narrowed s g (build (named_at big f) 0 k) (narrowed_by s g (build (named_at big f) 0 k))
unfolding build
named-by s g big f zero = narrow_start s g
named-by s g big f (suc k) =
    let more = narrow-turn s g big f k _ (named-by s g big f k) _ (narrowed-more s g (named_at big f) k) in
    rw add-one at more

-- so the gap of a whole file, with the parts of a list and then with those that its further entries name
pub gap-found : (s n : ℕ) → 8 ≤ s → (l : Listing) (i : ℕ) → i ≤ further_many l → further_many l ≤ i → (g : Gap)
    → g ≡ narrowed_by s (narrowed_by s (whole n) l.parts.now) (build (named_at l.big l.further.now) 0 i) → Found s n (listed l) g
gap-found s n h l i a b g e =
    let first = narrowed_by s (whole n) l.parts.now in
    let parts : Narrowed s (whole n) l.parts.now first = narrow-by s (whole n) [] l.parts.now (whole n) (narrow_start s (whole n)) in
    let named : Narrowed s first (build (named_at l.big l.further.now) 0 i) g = rw e (named-by s first l.big l.further.now i) in
    gap-narrowed s n h l (whole n) first g (length l.parts.now) i refl (rw (take_all (length l.parts.now) l.parts.now (omega arith)) parts) (omega arith) named a b

-- ---- meets: one part after another

-- a part that counts and has a byte from low up to high
abbrev pub met : ℕ → ℕ → Part → Bool
met low high p = wide p && not (clear low high p)

pub met-is : (low high : ℕ) (p : Part) → ltb 4 p.len && (ltb low (p.start + p.len) && ltb p.start high) ≡ met low high p
unfolding wide clear
met-is low high p = go (ltb 4 p.len) refl
  where
    flipped : (a b : ℕ) → ltb b a ≡ not (leb a b)
    flipped a b = go (ltb b a) refl
      where
        go : (t : Bool) → ltb b a ≡ t → t ≡ not (leb a b)
        go true e = rw (lt-leb a b (ltb-true b a e))
        go false e = rw (le-leb a b (ltb-false b a e))

    both-not : (x y : Bool) → not x && not y ≡ not (x || y)
    both-not true y = refl
    both-not false y = refl

    go : (t : Bool) → ltb 4 p.len ≡ t
        → t && (ltb low (p.start + p.len) && ltb p.start high) ≡ t && not (eqb p.len 0 || (leb (p.start + p.len) low || leb high p.start))
    go false e = refl
    go true e =
        let l : 4 < p.len = ltb-true _ _ e in
        let z : p.len ≡ 0 → ⊥ = λ q. absurd (omega arith) in
        rw (ne_eqb p.len 0 z, flipped (p.start + p.len) low, flipped high p.start) (both-not (leb (p.start + p.len) low) (leb high p.start))

-- of a list, by its elements
some-at : {A : Type 0} (is : A → Bool) (xs : List A) (i : ℕ) (d : A) → i < length xs → is (get_or xs i d) ≡ true → some is xs ≡ true
unfolding some
some-at is [] i d l h = absurd (omega arith)
some-at is (x ∷ xs) zero d l h = rw h
some-at is (x ∷ xs) (suc i) d l h = or_right (is x) (some is xs) (some-at is xs i d (omega (arith, l)) h)

some-none : {A : Type 0} (is : A → Bool) (xs : List A) (d : A) → ((i : ℕ) → i < length xs → is (get_or xs i d) ≡ false) → some is xs ≡ false
unfolding some
some-none is [] d h = refl
some-none is (x ∷ xs) d h = or_from (is x) (some is xs) (h 0 (omega arith)) (some-none is xs d (λ i l. h (suc i) (omega (arith, l))))

pub either-not : (x y : Bool) → not (x && y) ≡ not x || not y
either-not true y = refl
either-not false y = refl

kept-met : (low high : ℕ) (ps : List Part) → not (all (clear low high) (keep wide ps)) ≡ some (met low high) ps
unfolding all some keep
kept-met low high [] = refl
kept-met low high (p ∷ ps) = go (wide p) (kept-met low high ps)
  where
    go : (t : Bool) → not (all (clear low high) (keep wide ps)) ≡ some (met low high) ps
        → not (all (clear low high) (cond t (p ∷ keep wide ps) (keep wide ps))) ≡ (t && not (clear low high p)) || some (met low high) ps
    go true h = either-not (clear low high p) _ ∙ ap (λ (x : Bool). not (clear low high p) || x) h
    go false h = h

all-append : (ok : Part → Bool) (ps qs : List Part) → all ok (ps ++ qs) ≡ all ok ps && all ok qs
unfolding all
all-append ok [] qs = refl
all-append ok (p ∷ ps) qs = ap (λ (x : Bool). ok p && x) (all-append ok ps qs) ∙ sym (and_assoc (ok p) (all ok ps) (all ok qs))

-- the two halves of a list: what further entries name, and the parts
module _ (big : Bool) (s : List ℕ) (many : ℕ) (ps : List Part) (low high : ℕ) (met : Bool) (is-met : met ≡ not (all (clear low high) (parts_of ps))) where
  abbrev Halves : Bool
  Halves = all (clear low high) (named_parts big s many) && all (clear low high) (parts_of ps)

  halves_are : not Halves ≡ not (all (clear low high) (named_parts big s many ++ parts_of ps))
  halves_are = sym (ap not (all-append (clear low high) (named_parts big s many) (parts_of ps)))

  pub list-met : met ≡ true → true ≡ not (all (clear low high) (named_parts big s many ++ parts_of ps))
  list-met t = go (all (clear low high) (named_parts big s many)) (all (clear low high) (parts_of ps)) (sym is-met ∙ t) ∙ halves_are
    where
      go : (x y : Bool) → not y ≡ true → true ≡ not (x && y)
      go true y h = sym h
      go false y h = refl

  pub list-named : met ≡ false → (r : Bool) → r ≡ not (all (clear low high) (named_parts big s many))
      → r ≡ not (all (clear low high) (named_parts big s many ++ parts_of ps))
  list-named t r e = e ∙ go (all (clear low high) (named_parts big s many)) (all (clear low high) (parts_of ps)) (sym is-met ∙ t) ∙ halves_are
    where
      go : (x y : Bool) → not y ≡ false → not x ≡ not (x && y)
      go true true h = refl
      go true false h = sym h
      go false y h = refl

module _ (l : Listing) (low high : ℕ) where
  abbrev Named : List Part
  Named = build (named_at l.big l.further.now) 0 (further_many l)

  abbrev Met : List Part → Bool
  Met ps = some (met low high) ps

  abbrev Meets : Bool
  Meets = not (all (clear low high) (listed l))

  abbrev None : Part
  None = part 0 0

  parts-met : Met l.parts.now ≡ not (all (clear low high) (parts_of l.parts.now))
  unfolding parts_of
  parts-met = sym (kept-met low high l.parts.now)

  named-met : Met Named ≡ not (all (clear low high) (named_parts l.big l.further.now (further_many l)))
  unfolding named_parts
  named-met = sym (kept-met low high Named)

  meets-is : Meets ≡ Met Named || Met l.parts.now
  unfolding listed
  meets-is =
      ap not (all-append (clear low high) (named_parts l.big l.further.now (further_many l)) (parts_of l.parts.now)) ∙ either-not _ _
      ∙ (λ i. sym named-met i || sym parts-met i)

  named-is : (k : ℕ) → k < further_many l → met low high (get_or Named k None) ≡ met low high (named_at l.big l.further.now k)
  named-is k h = ap (met low high) (get_or-build (named_at l.big l.further.now) None 0 (further_many l) k h ∙ ap (named_at l.big l.further.now) (zero-add k))

  pub meets_part : (k : ℕ) → k < length l.parts.now → met low high (get_or l.parts.now k None) ≡ true → true ≡ Meets
  unfolding listed
  meets_part k h e =
      list-met l.big l.further.now (further_many l) l.parts.now low high (Met l.parts.now) parts-met (some-at (met low high) l.parts.now k None h e)

  pub meets_named : (k : ℕ) → k < further_many l → met low high (named_at l.big l.further.now k) ≡ true → true ≡ Meets
  meets_named k h e = sym (meets-is ∙ or_left _ _ (some-at (met low high) Named k None (rw length-build h) (named-is k h ∙ e)))

  pub meets_none : ((k : ℕ) → k < length l.parts.now → met low high (get_or l.parts.now k None) ≡ false)
      → ((k : ℕ) → k < further_many l → met low high (named_at l.big l.further.now k) ≡ false) → false ≡ Meets
  unfolding listed
  meets_none h e =
      sym (some-none (met low high) Named None (λ k q. let r : k < further_many l = rw length-build at q in named-is k r ∙ e k r))
      ∙ list-named l.big l.further.now (further_many l) l.parts.now low high (Met l.parts.now) parts-met (some-none (met low high) l.parts.now None h)
      (Met Named) named-met
