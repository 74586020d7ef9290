-- Numbers written one after the other, and read back: over the width. Where the values of entries stand among all of them.
-- Assumes nothing.
use Prim.Native.Nat.{ℕ, zero, suc, ◌+◌, ◌*◌, ◌^◌, ◌≤◌, ◌<◌, zero-le, suc-le-suc}
use mathlib.Core.Path.{◌≡◌, refl, sym, ap, ap₂, ◌∙◌, subst}
use mathlib.Core.Bool.{Bool, true, false, cond}
use mathlib.Core.List.{List, [], ◌∷◌, ◌++◌}
use native.Mathlib.Nat.{add-zero, zero-add, suc-add, mul-add, mul-zero, mul-suc, add_assoc, not-suc-le-zero, le_of_suc-le-suc, pow-suc}
use native.Mathlib.Omega.{arith}
use lib.Dec.{eqb, lit<}
use lib.ListN.{length, get_or, take, drop, length-append, length-take, length-drop}
use lib.Seq.{get_or-take, get_or-drop, ext_get_or, take-append_seam, drop-append-add}
use Rattle.paper.specs.Bytes.{num, enc, build, elems}
use Rattle.paper.specs.Block.{joined, encs, elements, values_at, count_if_at, new_index, with_index, moved}
use Rattle.paper.specs.Keys.{no_key_entry}
use Rattle.paper.specs.Asked.{Bytes}
use Rattle.paper.proofs.Laws.{num-enc, num-after, num-cons, length-enc, num-bound, length-build, get_or-build}
use Rattle.paper.specs.declared.KeyEntry.{KeyEntry}

-- every number of the list is below b
abbrev pub Below : ℕ → List ℕ → Type 0
Below b ns = (i : ℕ) → get_or ns i 0 < b

num-nil : (big : Bool) (w p : ℕ) → num big w [] p ≡ 0
unfolding num
num-nil big zero p = refl
num-nil false (suc w) p = rw (num-nil false w (suc p))
num-nil true (suc w) p = rw (num-nil true w (suc p)) (omega arith)

-- number i of those written
pub num-encs : (w : ℕ) (ns : List ℕ) (i : ℕ) → Below (256 ^ w) ns → num false w (encs w ns) (w * i) ≡ get_or ns i 0
unfolding encs joined
num-encs w [] i b = num-nil false w (w * i)
num-encs w (n ∷ ns) zero b = ap (num false w (enc w n ++ encs w ns)) (mul-zero w) ∙ num-enc w n (encs w ns) (b 0)
num-encs w (n ∷ ns) (suc i) b =
    let e : w * suc i ≡ length (enc w n) + w * i = mul-suc w i ∙ (let q = length-enc w n in omega arith) in
    ap (num false w (enc w n ++ encs w ns)) e
    ∙ num-after false w (enc w n) (encs w ns) (w * i)
    ∙ num-encs w ns i (λ j. b (suc j))

pub length-encs : (w : ℕ) (ns : List ℕ) → length (encs w ns) ≡ w * length ns
unfolding encs joined
length-encs w [] = sym (mul-zero w)
length-encs w (n ∷ ns) =
    length-append (enc w n) (encs w ns) ∙ ap₂ (λ (a b : ℕ). a + b) (length-enc w n) (length-encs w ns) ∙ omega (arith, mul-suc w (length ns))

pub num-drop : (big : Bool) (w k : ℕ) (s : List ℕ) (p : ℕ) → num big w (drop k s) p ≡ num big w s (k + p)
num-drop big w zero s p = ap (num big w s) (sym (zero-add p))
num-drop big w (suc k) [] p = num-nil big w p ∙ sym (num-nil big w (suc k + p))
num-drop big w (suc k) (x ∷ s) p =
    num-drop big w k s p ∙ sym (num-cons big w x s (k + p)) ∙ ap (num big w (x ∷ s)) (sym (suc-add k p))

pub length_elems : (big : Bool) (w k : ℕ) (s : List ℕ) → length (elems big w k s) ≡ k
unfolding elems
length_elems big w k s = length-build _ 0 k

pub get_or-elems : (big : Bool) (w k : ℕ) (s : List ℕ) (i : ℕ) → i < k → get_or (elems big w k s) i 0 ≡ num big w s (w * i)
unfolding elems
get_or-elems big w k s i h = get_or-build _ 0 0 k i h ∙ ap (λ (j : ℕ). num big w s (w * j)) (zero-add i)

-- k of those written, from the one at a
pub elems-encs : (w : ℕ) (ns : List ℕ) (a k : ℕ) → Below (256 ^ w) ns → a + k ≤ length ns → elems false w k (drop (w * a) (encs w ns)) ≡ take k (drop a ns)
elems-encs w ns a k b h =
    ext_get_or 0 (elems false w k (drop (w * a) (encs w ns))) (take k (drop a ns))
    (length_elems false w k _ ∙ sym long) at
  where
    long : length (take k (drop a ns)) ≡ k
    long = simp (length-take, length-drop) (omega arith)

    at : (i : ℕ) → i < length (elems false w k (drop (w * a) (encs w ns))) → get_or (elems false w k (drop (w * a) (encs w ns))) i 0 ≡ get_or (take k (drop a ns)) i 0
    at i l =
        let m : i < k = subst (λ (x : ℕ). i < x) (length_elems false w k (drop (w * a) (encs w ns))) l in
        get_or-elems false w k (drop (w * a) (encs w ns)) i m
        ∙ num-drop false w (w * a) (encs w ns) (w * i)
        ∙ ap (num false w (encs w ns)) (sym (mul-add w a i))
        ∙ num-encs w ns (a + i) b
        ∙ sym (get_or-take k (drop a ns) i 0 m ∙ get_or-drop a ns i 0)

-- ---- where the values of entry i stand, among those of all

-- how many elements the first i entries have at a location
unfoldable pub sum_at : ℕ → List KeyEntry → ℕ → ℕ
sum_at l [] i = 0
sum_at l (e ∷ es) zero = 0
sum_at l (e ∷ es) (suc i) = count_if_at l e + sum_at l es i

pub length_moved : (a d c : ℕ) (es : List KeyEntry) → length (moved a d c es) ≡ length es
unfolding moved
length_moved a d c [] = refl
length_moved a d c (e ∷ es) =
    ap suc (length_moved (a + count_if_at 34735 e) (d + count_if_at 34736 e) (c + count_if_at 34737 e) es)

pub moved_at : (a d c : ℕ) (es : List KeyEntry) (i : ℕ) → i < length es
    → get_or (moved a d c es) i no_key_entry
    ≡ with_index (get_or es i no_key_entry) (new_index (a + sum_at 34735 es i) (d + sum_at 34736 es i) (c + sum_at 34737 es i) (get_or es i no_key_entry))
unfolding moved sum_at
moved_at a d c [] i h = absurd (not-suc-le-zero h)
moved_at a d c (e ∷ es) zero h = simp add-zero
moved_at a d c (e ∷ es) (suc i) h =
    moved_at (a + count_if_at 34735 e) (d + count_if_at 34736 e) (c + count_if_at 34737 e) es i (le_of_suc-le-suc h) ∙ simp add_assoc

module _ (l : ℕ) (g : KeyEntry → List ℕ) (long : (e : KeyEntry) → length (g e) ≡ count_if_at l e) where
  pub joined_at : (es : List KeyEntry) (i : ℕ) → i < length es
      → take (count_if_at l (get_or es i no_key_entry)) (drop (sum_at l es i) (joined g es)) ≡ g (get_or es i no_key_entry)
  unfolding joined sum_at
  joined_at [] i h = absurd (not-suc-le-zero h)
  joined_at (e ∷ es) zero h = rw (← long e) (take-append_seam (g e) (joined g es))
  joined_at (e ∷ es) (suc i) h =
      ap (take (count_if_at l (get_or es i no_key_entry))) (rw (← long e) (drop-append-add (g e) (joined g es) (sum_at l es i)))
      ∙ joined_at es i (le_of_suc-le-suc h)

  pub joined_in : (es : List KeyEntry) (i : ℕ) → i < length es → sum_at l es i + count_if_at l (get_or es i no_key_entry) ≤ length (joined g es)
  unfolding joined sum_at
  joined_in [] i h = absurd (not-suc-le-zero h)
  joined_in (e ∷ es) zero h = omega (arith, long e, length-append (g e) (joined g es))
  joined_in (e ∷ es) (suc i) h =
      omega (arith, long e, length-append (g e) (joined g es), joined_in es i (le_of_suc-le-suc h))

-- ---- bounds

pub below-append : (b : ℕ) (xs ys : List ℕ) → Below b xs → Below b ys → Below b (xs ++ ys)
below-append b [] ys p q i = q i
below-append b (x ∷ xs) ys p q zero = p 0
below-append b (x ∷ xs) ys p q (suc i) = below-append b xs ys (λ j. p (suc j)) q i

pub below-joined : {A : Type 0} (b : ℕ) (g : A → List ℕ) (d : A) (xs : List A) → 0 < b → ((i : ℕ) → i < length xs → Below b (g (get_or xs i d))) → Below b (joined g xs)
unfolding joined
below-joined b g d [] z h = λ i. z
below-joined b g d (x ∷ xs) z h =
    below-append b (g x) (joined g xs) (h 0 (suc-le-suc zero-le)) (below-joined b g d xs z (λ i l. h (suc i) (suc-le-suc l)))

below-build : (b : ℕ) (g : ℕ → ℕ) → 0 < b → ((i : ℕ) → g i < b) → (i k : ℕ) → Below b (build g i k)
unfolding build
below-build b g z h i zero j = z
below-build b g z h i (suc k) zero = h i
below-build b g z h i (suc k) (suc j) = below-build b g z h (suc i) k j

pub bytes_drop : (k : ℕ) (s : List ℕ) → Bytes s → Bytes (drop k s)
bytes_drop k s b i = subst (λ (n : ℕ). n < 256) (sym (get_or-drop k s i 0)) (b (k + i))

pow-pos256 : (w : ℕ) → 0 < 256 ^ w
pow-pos256 zero = lit< tt
pow-pos256 (suc w) = rw pow-suc (omega (arith, pow-pos256 w))

pub below-elems : (big : Bool) (w k : ℕ) (s : List ℕ) → Bytes s → Below (256 ^ w) (elems big w k s)
unfolding elems
below-elems big w k s b = below-build (256 ^ w) _ (pow-pos256 w) (λ i. num-bound big w s (w * i) b) 0 k

pub below-values : (big : Bool) (l w : ℕ) (s : List ℕ) (e : KeyEntry) → Bytes s → Below (256 ^ w) (values_at big l w s e)
unfolding values_at elements
below-values big l w s e b = go (eqb e.location l) refl
  where
    go : (t : Bool) → eqb e.location l ≡ t → Below (256 ^ w) (cond (eqb e.location l) (elems big w e.count (drop (w * e.index) s)) [])
    go true p = rw p (below-elems big w e.count (drop (w * e.index) s) (bytes_drop (w * e.index) s b))
    go false p = rw p (λ i. pow-pos256 w)

pub length-values : (big : Bool) (l w : ℕ) (s : List ℕ) (e : KeyEntry) → length (values_at big l w s e) ≡ count_if_at l e
unfolding values_at count_if_at elements
length-values big l w s e = go (eqb e.location l) refl
  where
    go : (t : Bool) → eqb e.location l ≡ t → length (cond (eqb e.location l) (elems big w e.count (drop (w * e.index) s)) []) ≡ cond (eqb e.location l) e.count 0
    go true p = rw p (length_elems big w e.count (drop (w * e.index) s))
    go false p = rw p
