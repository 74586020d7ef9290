-- Laws of the general definitions, each shown once: runs, numbers of w bytes, built lists, the first bad element. Assumes nothing.
use Prim.Native.Nat.{ℕ, zero, suc, ◌+◌, ◌-◌, ◌*◌, ◌/◌, ◌%◌, ◌^◌, ◌≤◌, ◌<◌, min, zero-le, suc-le-suc}
use mathlib.Core.Path.{◌≡◌, refl, sym, ap, ap₂, ◌∙◌, subst}
use mathlib.Core.Bool.{Bool, true, false, cond, ◌||◌, ◌&&◌, or_assoc}
use mathlib.Core.List.{List, [], ◌∷◌, ◌++◌}
use native.Mathlib.Nat.{add-zero, zero-add, suc-add, pow-suc, mul-le-mul_right, zero-sub, sub-zero, suc-sub-suc, le_of_suc-le-suc, not-suc-le-zero}
use native.Mathlib.Omega.{arith}
use lib.Dec.{T, eqb, leb, lit<}
use lib.ListN.{length, get_or, take, drop, length-take, length-drop}
use lib.Seq.{get_or-take, get_or-drop, ext_get_or, take-take, drop-drop, take-nil}
use borrow.Author.Tests.{eqb-true, eqb-false, leb-true, le-leb}
use Rattle.paper.specs.Bytes.{run, num, enc, build}
use Rattle.paper.specs.Outcome.{Outcome, kept, broken, breaks, first_bad}
use Rattle.paper.specs.Tests.{all, some, just, in_range}
use Rattle.paper.specs.Asked.{Bytes}

-- ---- tests

pub and-eq : (a b : Bool) → a && b ≡ true → (a ≡ true) × (b ≡ true)
and-eq true b h = (refl, h)
and-eq false b h = (h, cc)

pub and_both : (a b : Bool) → a ≡ true → b ≡ true → a && b ≡ true
and_both a b p q = rw (p, q)

pub or-false : (a b : Bool) → a || b ≡ false → (a ≡ false) × (b ≡ false)
or-false true b h = (h, cc)
or-false false b h = (refl, h)

pub or-both : (a b : Bool) → a ≡ false → b ≡ false → a || b ≡ false
or-both a b p q = rw (p, q)

pub or_same : (a : Bool) → a || a ≡ true → a ≡ true
or_same true h = refl
or_same false h = h

pub T_true : (b : Bool) → T b → b ≡ true
T_true true t = refl
T_true false t = absurd t

-- a range of one number
pub just-is : (v a : ℕ) → in_range v (just a) ≡ eqb v a
just-is v a = go (eqb v a) refl
  where
    apart : (b : Bool) → leb a v && leb v a ≡ b → (v ≡ a → ⊥) → b ≡ false
    apart false p n = refl
    apart true p n =
        let h = and-eq (leb a v) (leb v a) p in
        let l : a ≤ v = leb-true a v h.0 in
        let m : v ≤ a = leb-true v a h.1 in
        absurd (n (omega arith))

    go : (b : Bool) → eqb v a ≡ b → leb a v && leb v a ≡ eqb v a
    go true p =
        let e : v ≡ a = eqb-true v a p in
        let l : a ≤ v = omega arith in
        let m : v ≤ a = omega arith in
        rw (p, le-leb a v l, le-leb v a m)
    go false p = rw p (apart _ refl (eqb-false v a p))

-- ---- runs

pub run_length : (f : List ℕ) (s l : ℕ) → length (run f s l) ≡ min l (length f - s)
run_length f s l = simp (length-take, length-drop)

pub run-length-in : (f : List ℕ) (s l : ℕ) → s + l ≤ length f → length (run f s l) ≡ l
run-length-in f s l h = run_length f s l ∙ omega arith

pub run-get : (f : List ℕ) (s l i : ℕ) → i < l → get_or (run f s l) i 0 ≡ get_or f (s + i) 0
run-get f s l i h = rw (get_or-take l (drop s f) i 0 h, get_or-drop s f i 0)

-- bytes that agree over a range are the same run
pub run-same : (f g : List ℕ) (s l : ℕ) → length f ≡ length g
    → ((i : ℕ) → s ≤ i → i < s + l → i < length f → get_or f i 0 ≡ get_or g i 0) → run f s l ≡ run g s l
run-same f g s l n h =
    ext_get_or 0 (run f s l) (run g s l) (run_length f s l ∙ ap (λ (k : ℕ). min l (k - s)) n ∙ sym (run_length g s l)) at
  where
    at : (i : ℕ) → i < length (run f s l) → get_or (run f s l) i 0 ≡ get_or (run g s l) i 0
    at i b =
        let c : i < min l (length f - s) = subst (λ (k : ℕ). i < k) (run_length f s l) b in
        let il : i < l = omega arith in
        run-get f s l i il ∙ h (s + i) (omega arith) (omega arith) (omega arith) ∙ sym (run-get g s l i il)

drop-take : (a l : ℕ) (x : List ℕ) → drop a (take l x) ≡ take (l - a) (drop a x)
drop-take zero l x = rw sub-zero
drop-take (suc a) zero x = rw zero-sub
drop-take (suc a) (suc l) [] = sym (take-nil (suc l - suc a))
drop-take (suc a) (suc l) (y ∷ x) = rw suc-sub-suc (drop-take a l x)

-- a run of a run
pub run-run : (f : List ℕ) (s l a m : ℕ) → a + m ≤ l → run (run f s l) a m ≡ run f (s + a) m
run-run f s l a m h =
    ap (take m) (drop-take a l (drop s f)) ∙ take-take m (l - a) (drop a (drop s f)) (omega arith) ∙ ap (take m) (drop-drop a s f)

-- ---- numbers, over the width

-- a number read out of a run is the number in the file
pub num-run : (big : Bool) (w : ℕ) (f : List ℕ) (s l p : ℕ) → p + w ≤ l → num big w (run f s l) p ≡ num big w f (s + p)
unfolding num
num-run big zero f s l p h = refl
num-run false (suc w) f s l p h =
    ap₂ (λ (a b : ℕ). a + 256 * b) (run-get f s l p (omega arith))
    (num-run false w f s l (suc p) (omega arith) ∙ ap (num false w f) (omega arith))
num-run true (suc w) f s l p h =
    ap₂ (λ (a b : ℕ). a * 256 ^ w + b) (run-get f s l p (omega arith))
    (num-run true w f s l (suc p) (omega arith) ∙ ap (num true w f) (omega arith))

-- a number of w bytes fits them
pub num-bound : (big : Bool) (w : ℕ) (s : List ℕ) (p : ℕ) → Bytes s → num big w s p < 256 ^ w
unfolding num
num-bound big zero s p b = lit< tt
num-bound false (suc w) s p b =
    let h : num false w s (suc p) < 256 ^ w = num-bound false w s (suc p) b in
    rw pow-suc (omega (arith, b p))
num-bound true (suc w) s p b =
    let h : num true w s (suc p) < 256 ^ w = num-bound true w s (suc p) b in
    let m : get_or s p 0 * 256 ^ w ≤ 255 * 256 ^ w = mul-le-mul_right (256 ^ w) (omega (arith, b p)) in
    rw pow-suc (omega arith)

-- a byte more in front
pub num-cons : (big : Bool) (w : ℕ) (x : ℕ) (s : List ℕ) (p : ℕ) → num big w (x ∷ s) (suc p) ≡ num big w s p
unfolding num
num-cons big zero x s p = refl
num-cons false (suc w) x s p = ap (λ (n : ℕ). get_or s p 0 + 256 * n) (num-cons false w x s (suc p))
num-cons true (suc w) x s p = ap (λ (n : ℕ). get_or s p 0 * 256 ^ w + n) (num-cons true w x s (suc p))

pub num-after : (big : Bool) (w : ℕ) (a s : List ℕ) (p : ℕ) → num big w (a ++ s) (length a + p) ≡ num big w s p
num-after big w [] s p = ap (num big w s) (zero-add p)
num-after big w (x ∷ a) s p = ap (num big w (x ∷ a ++ s)) (suc-add (length a) p) ∙ num-cons big w x (a ++ s) (length a + p) ∙ num-after big w a s p

-- what was written is read
pub num-enc : (w n : ℕ) (rest : List ℕ) → n < 256 ^ w → num false w (enc w n ++ rest) 0 ≡ n
unfolding num enc
num-enc zero n rest h = omega arith
num-enc (suc w) n rest h =
    let p : n < 256 ^ w * 256 = rw pow-suc at h in
    let e : num false w (enc w (n / 256) ++ rest) 0 ≡ n / 256 = num-enc w (n / 256) rest (omega arith) in
    rw (num-cons false w (n % 256) (enc w (n / 256) ++ rest) 0, e) (omega arith)

pub length-enc : (w n : ℕ) → length (enc w n) ≡ w
unfolding enc
length-enc zero n = refl
length-enc (suc w) n = ap suc (length-enc w (n / 256))

-- ---- lists built by index

pub length-build : {A : Type 0} (g : ℕ → A) (i k : ℕ) → length (build g i k) ≡ k
unfolding build
length-build g i zero = refl
length-build g i (suc k) = ap suc (length-build g (suc i) k)

pub get_or-build : {A : Type 0} (g : ℕ → A) (d : A) (i k j : ℕ) → j < k → get_or (build g i k) j d ≡ g (i + j)
unfolding build
get_or-build g d i zero j h = absurd (not-suc-le-zero h)
get_or-build g d i (suc k) zero h = ap g (sym (add-zero i))
get_or-build g d i (suc k) (suc j) h = get_or-build g d (suc i) k j (le_of_suc-le-suc h) ∙ ap g (omega arith)

-- one step of a loop over a built list
pub build-step : {A : Type 0} (g : ℕ → A) (i c : ℕ) → i < c → build g i (c - i) ≡ g i ∷ build g (i + 1) (c - (i + 1))
unfolding build
build-step g i c h = ap (build g i) e ∙ ap (λ (k : ℕ). g i ∷ build g k (c - (i + 1))) (omega arith)
  where
    e : c - i ≡ suc (c - (i + 1))
    e = omega arith

-- ---- the first bad element

-- a test that breaks a rule did not pass, where the rule is kept
pub kept-cond : (b : Bool) (p : ℕ) (o : Outcome) → cond b (broken p) o ≡ kept → (b ≡ false) × (o ≡ kept)
kept-cond true p o h = (cc, cc)
kept-cond false p o h = (refl, h)

pub breaks-kept : (b : Bool) (p : ℕ) → breaks b p ≡ kept → b ≡ false
breaks-kept true p h = cc
breaks-kept false p h = refl

-- none is bad
pub kept-all : {A : Type 0} (bad : A → Bool) (place : A → ℕ) (xs : List A) (d : A) → first_bad bad place xs ≡ kept
    → (i : ℕ) → i < length xs → bad (get_or xs i d) ≡ false
unfolding first_bad
kept-all bad place [] d h i l = absurd (not-suc-le-zero l)
kept-all bad place (x ∷ xs) d h zero l = (kept-cond (bad x) (place x) _ h).0
kept-all bad place (x ∷ xs) d h (suc i) l =
    kept-all bad place xs d (kept-cond (bad x) (place x) _ h).1 i (le_of_suc-le-suc l)

pub all-kept : {A : Type 0} (bad : A → Bool) (place : A → ℕ) (xs : List A) (d : A) → ((i : ℕ) → i < length xs → bad (get_or xs i d) ≡ false)
    → first_bad bad place xs ≡ kept
unfolding first_bad
all-kept bad place [] d h = refl
all-kept bad place (x ∷ xs) d h =
    let e : bad x ≡ false = h 0 (suc-le-suc zero-le) in
    rw e (all-kept bad place xs d (λ i l. h (suc i) (suc-le-suc l)))

-- two tests that agree on the list's elements find the same
pub first-same : {A : Type 0} (bad bad' : A → Bool) (place : A → ℕ) (xs : List A) (d : A)
    → ((i : ℕ) → i < length xs → bad (get_or xs i d) ≡ bad' (get_or xs i d)) → first_bad bad place xs ≡ first_bad bad' place xs
unfolding first_bad
first-same bad bad' place [] d h = refl
first-same bad bad' place (x ∷ xs) d h =
    ap₂ (λ (b : Bool) (o : Outcome). cond b (broken (place x)) o) (h 0 (suc-le-suc zero-le))
    (first-same bad bad' place xs d (λ i l. h (suc i) (suc-le-suc l)))

-- a test that was computed over a whole table holds at each entry
pub all-at : {A : Type 0} (ok : A → Bool) (xs : List A) (d : A) → all ok xs ≡ true → (i : ℕ) → i < length xs → ok (get_or xs i d) ≡ true
unfolding all
all-at ok [] d h i l = absurd (not-suc-le-zero l)
all-at ok (x ∷ xs) d h zero l = (and-eq (ok x) (all ok xs) h).0
all-at ok (x ∷ xs) d h (suc i) l = all-at ok xs d (and-eq (ok x) (all ok xs) h).1 i (le_of_suc-le-suc l)

-- and one that none passes does at none
pub none-at : {A : Type 0} (is : A → Bool) (xs : List A) (d : A) → some is xs ≡ false → (i : ℕ) → i < length xs → is (get_or xs i d) ≡ false
unfolding some
none-at is [] d h i l = absurd (not-suc-le-zero l)
none-at is (x ∷ xs) d h zero l = (or-false (is x) (some is xs) h).0
none-at is (x ∷ xs) d h (suc i) l = none-at is xs d (or-false (is x) (some is xs) h).1 i (le_of_suc-le-suc l)

pub some-append : {A : Type 0} (is : A → Bool) (xs ys : List A) → some is (xs ++ ys) ≡ some is xs || some is ys
unfolding some
some-append is [] ys = refl
some-append is (x ∷ xs) ys = ap (λ (b : Bool). is x || b) (some-append is xs ys) ∙ sym (or_assoc (is x) (some is xs) (some is ys))
