-- What a gap is good for: a place that lies in it shares no byte with the list, and the gap around a place tells whether the place does. By
-- induction over the parts. Assumes nothing.
use Rattle.std.proofs.Common.{◌≡◌, ℕ, ◌+◌, ◌<◌, ◌≤◌, min, max, Bool, true, false, cond, ◌||◌, eqb, ltb, leb, List, [], ◌∷◌, refl, ⊎_elim, zero-le, arith, ltb-false, ltb-true, le-ltb, lt-ltb, eq-eqb, eqb-true, le-leb, leb-true}
use Rattle.std.proofs.lemmas.Bool.{or_cases}
use mathlib.Core.Bool.{or-true}
use Rattle.paper.specs.Tests.{all, some}
use Rattle.paper.specs.Pieces.{part, shares}
use Rattle.paper.specs.declared.Part.{Part}
use Rattle.paper.proofs.Laws.{and-eq, and_both, or-false}
use Rattle.pieces.specs.Gaps.{wide, clear, narrowed, Found}
use Rattle.pieces.specs.declared.Gap.{Gap}

-- clear by one of three reasons
clear-empty : (lo hi : ℕ) (p : Part) → p.len ≡ 0 → clear lo hi p ≡ true
unfolding clear
clear-empty lo hi p e = rw (eq-eqb p.len 0 e)

clear-before : (lo hi : ℕ) (p : Part) → p.start + p.len ≤ lo → clear lo hi p ≡ true
unfolding clear
clear-before lo hi p l = rw (le-leb (p.start + p.len) lo l, or-true)

clear_behind : (lo hi : ℕ) (p : Part) → hi ≤ p.start → clear lo hi p ≡ true
unfolding clear
clear_behind lo hi p l = rw (le-leb hi p.start l, or-true, or-true)

-- so is a narrower gap
clear-less : (lo hi lo' hi' : ℕ) (p : Part) → lo ≤ lo' → hi' ≤ hi → clear lo hi p ≡ true → clear lo' hi' p ≡ true
unfolding clear
clear-less lo hi lo' hi' p a b h =
    ⊎_elim (λ e. clear-empty lo' hi' p (eqb-true _ _ e))
    (λ r. ⊎_elim (λ e. let l : p.start + p.len ≤ lo = leb-true _ _ e in clear-before lo' hi' p (omega arith))
    (λ e. let l : hi ≤ p.start = leb-true _ _ e in clear_behind lo' hi' p (omega arith)) (or_cases (leb (p.start + p.len) lo) _ r))
    (or_cases (eqb p.len 0) _ h)

all-less : (lo hi lo' hi' : ℕ) (ps : List Part) → lo ≤ lo' → hi' ≤ hi → all (clear lo hi) ps ≡ true → all (clear lo' hi') ps ≡ true
unfolding all
all-less lo hi lo' hi' [] a b h = refl
all-less lo hi lo' hi' (p ∷ ps) a b h =
    let c = and-eq (clear lo hi p) _ h in
    and_both (clear lo' hi' p) _ (clear-less lo hi lo' hi' p a b c.0) (all-less lo hi lo' hi' ps a b c.1)

-- ---- a place in a gap shares nothing

shares-no : (s l : ℕ) (p : Part) → min (s + l) (p.start + p.len) ≤ max s p.start → shares (part s l) p ≡ false
unfolding shares
shares-no s l p h = le-ltb _ _ h

pub shares-yes : (s l : ℕ) (p : Part) → max s p.start < min (s + l) (p.start + p.len) → shares (part s l) p ≡ true
unfolding shares
shares-yes s l p h = lt-ltb _ _ h

pub unshared : (lo hi s l : ℕ) (p : Part) → lo ≤ s → s + l ≤ hi → clear lo hi p ≡ true → shares (part s l) p ≡ false
unfolding clear
unshared lo hi s l p a b h =
    shares-no s l p
    (⊎_elim (λ e. empty (eqb-true _ _ e))
    (λ r. ⊎_elim (λ e. before (leb-true _ _ e)) (λ e. behind (leb-true _ _ e)) (or_cases (leb (p.start + p.len) lo) _ r))
    (or_cases (eqb p.len 0) _ h))
  where
    empty : p.len ≡ 0 → min (s + l) (p.start + p.len) ≤ max s p.start
    empty z = omega arith

    before : p.start + p.len ≤ lo → min (s + l) (p.start + p.len) ≤ max s p.start
    before z = omega arith

    behind : hi ≤ p.start → min (s + l) (p.start + p.len) ≤ max s p.start
    behind z = omega arith

pub clear-free : (lo hi s l : ℕ) (ps : List Part) → lo ≤ s → s + l ≤ hi → all (clear lo hi) ps ≡ true → some (shares (part s l)) ps ≡ false
unfolding all some
clear-free lo hi s l [] a b h = refl
clear-free lo hi s l (p ∷ ps) a b h =
    let c = and-eq (clear lo hi p) _ h in
    rw (unshared lo hi s l p a b c.0) (clear-free lo hi s l ps a b c.1)

-- ---- the gap around byte s of a file of n bytes

-- What is known of it when the parts ps were seen: no part has a byte in it where s does not lie below it; a place from s on, with bytes and in
-- the file, that leaves it or starts below it shares a byte with a part.
pub record Around (s n : ℕ) (ps : List Part) (lo hi : ℕ) : Type 0 where
  pub low : 8 ≤ lo
  pub high : hi ≤ n
  pub clean : lo ≤ s → all (clear lo hi) ps ≡ true
  pub held : s < lo → (l : ℕ) → 0 < l → s + l ≤ n → some (shares (part s l)) ps ≡ true
  pub reach : (l : ℕ) → 0 < l → hi < s + l → s + l ≤ n → some (shares (part s l)) ps ≡ true

module _ (s n : ℕ) where
  pub around-none : 8 ≤ s → Around s n [] 8 n
  unfolding all
  around-none h =
      record { low = omega arith; high = omega arith; clean = λ a. refl; held = λ a l b c. absurd (omega arith); reach = λ l a b c. absurd (omega arith) }

  module _ (p : Part) (ps : List Part) (lo hi : ℕ) (g : Around s n ps lo hi) where
    -- a part behind s
    pub around-behind : s < p.start → wide p ≡ true → Around s n (p ∷ ps) lo (min hi p.start)
    unfolding all some wide
    around-behind b w =
        record {
          low = g.low;
          high = let h = g.high in omega arith;
          clean = λ a.
              and_both (clear lo (min hi p.start) p) _ (clear_behind lo (min hi p.start) p (omega arith))
              (all-less lo hi lo (min hi p.start) ps (omega arith) (omega arith) (g.clean a));
          held = λ a l c d. rw (g.held a l c d) (or-true (shares (part s l) p));
          reach = reach-behind;
        }
      where
        long : 4 < p.len
        long = ltb-true _ _ w

        reach-behind : (l : ℕ) → 0 < l → min hi p.start < s + l → s + l ≤ n → shares (part s l) p || some (shares (part s l)) ps ≡ true
        reach-behind l d a c = go (ltb hi (s + l)) refl
          where
            go : (t : Bool) → ltb hi (s + l) ≡ t → shares (part s l) p || some (shares (part s l)) ps ≡ true
            go true e = rw (g.reach l d (ltb-true _ _ e) c) (or-true (shares (part s l) p))
            go false e =
                let h : s + l ≤ hi = ltb-false _ _ e in
                let k = long in
                rw (shares-yes s l p (omega arith))

    -- a part that starts at s or before
    pub around-before : p.start ≤ s → Around s n (p ∷ ps) (max lo (p.start + p.len)) hi
    unfolding all some
    around-before b =
        record {
          low = let h = g.low in omega arith;
          high = g.high;
          clean = λ a.
              and_both (clear (max lo (p.start + p.len)) hi p) _ (clear-before (max lo (p.start + p.len)) hi p (omega arith))
              (all-less lo hi (max lo (p.start + p.len)) hi ps (omega arith) (omega arith) (g.clean (omega arith)));
          held = held-before;
          reach = λ l d a c. rw (g.reach l d a c) (or-true (shares (part s l) p));
        }
      where
        held-before : s < max lo (p.start + p.len) → (l : ℕ) → 0 < l → s + l ≤ n → shares (part s l) p || some (shares (part s l)) ps ≡ true
        held-before a l c d = go (ltb s lo) refl
          where
            go : (t : Bool) → ltb s lo ≡ t → shares (part s l) p || some (shares (part s l)) ps ≡ true
            go true e = rw (g.held (ltb-true _ _ e) l c d) (or-true (shares (part s l) p))
            go false e =
                let h : lo ≤ s = ltb-false _ _ e in
                rw (shares-yes s l p (omega arith))

  -- a part that counts, or one of at most 4 bytes, which does not
  pub around-narrowed : (p : Part) (ps : List Part) (g : Gap) → Around s n ps g.lo g.hi
      → Around s n (cond (wide p) (p ∷ ps) ps) (narrowed s g p).lo (narrowed s g p).hi
  unfolding narrowed wide
  around-narrowed p ps g a = go (ltb 4 p.len) refl
    where
      behind : (t : Bool) → ltb s p.start ≡ t → ltb 4 p.len ≡ true
          → let r : Gap = cond t (record { lo = g.lo; hi = min g.hi p.start }) (record { lo = max g.lo (p.start + p.len); hi = g.hi }) in Around s n (p ∷ ps) r.lo r.hi
      behind true q e = around-behind p ps g.lo g.hi a (ltb-true _ _ q) e
      behind false q e = around-before p ps g.lo g.hi a (ltb-false _ _ q)

      go : (t : Bool) → ltb 4 p.len ≡ t → Around s n (cond (ltb 4 p.len) (p ∷ ps) ps) (narrowed s g p).lo (narrowed s g p).hi
      go false e =
          let z : ltb s 0 ≡ false = le-ltb s 0 zero-le in
          let low = a.low in
          let short : p.len ≤ 4 = ltb-false _ _ e in
          let same : max g.lo (0 + p.len) ≡ g.lo = omega arith in
          rw (e, z, same) a
      go true e = rw e (behind (ltb s p.start) refl e)

  -- all parts were seen
  pub found-gap : (ps : List Part) (g : Gap) → Around s n ps g.lo g.hi → Found s n ps g
  found-gap ps g a =
      record {
        low = a.low;
        high = a.high;
        clash = λ l b c d. ⊎_elim (λ e. a.held (ltb-true _ _ e) l b c) (λ e. a.reach l b (ltb-true _ _ e) c) (or_cases (ltb s g.lo) _ d);
        free = λ l c.
            let o = or-false (ltb s g.lo) _ c in
            clear-free g.lo g.hi s l ps (ltb-false _ _ o.0) (ltb-false _ _ o.1) (a.clean (ltb-false _ _ o.0));
        clean = λ t. a.clean (ltb-false _ _ t);
      }

  -- and what is known of one that was found
  pub found-around : (ps : List Part) (g : Gap) → Found s n ps g → Around s n ps g.lo g.hi
  found-around ps g f =
      record {
        low = f.low;
        high = f.high;
        clean = λ a. f.clean (le-ltb s g.lo a);
        held = λ a l b c. f.clash l b c (rw (lt-ltb s g.lo a));
        reach = λ l b a c. f.clash l b c (rw (lt-ltb g.hi (s + l) a) (or-true (ltb s g.lo)));
      }
