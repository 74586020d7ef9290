-- The entries of one tag, in the directory's order: the first is the one that is found; a tag that may not be repeated has no other; and where rule 6 as
-- it was before C-12 is not broken at 50909, it is rule 6 as it is. Assumes nothing.
use Prim.Native.Nat.{ℕ, suc, ◌≤◌}
use mathlib.Core.Path.{◌≡◌, refl, sym, ap, ◌∙◌}
use mathlib.Core.Bool.{Bool, true, false, cond, not, ◌&&◌, ◌||◌, false≢true, or-false}
use mathlib.Core.List.{List, [], ◌∷◌, map}
use native.Mathlib.Omega.{arith}
use lib.Dec.{eqb, ltb}
use lib.ListN.{length, get_or, drop}
use borrow.Author.Tests.{eqb-true, eqb-false, ne_eqb, ltb-true}
use Rattle.paper.specs.Outcome.{kept, broken, ordered_from, ordered, ascending_from, ascending}
use Rattle.paper.specs.Tests.{some, keep}
use Rattle.paper.specs.Layout.{behind}
use Rattle.paper.specs.Tags.{Line, Held, hold, absent, find, has}
use Rattle.paper.proofs.Laws.{and-eq}
use Rattle.paper.specs.declared.Entry.{Entry}

-- ---- the entries of tag t

abbrev pub of_tag : ℕ → Held → Bool
of_tag t h = eqb h.entry.tag t

abbrev pub tags_of : List Held → List ℕ
tags_of hs = map (λ h. h.entry.tag) hs

pub some-keep : {A : Type 0} (ok is : A → Bool) (xs : List A) → some is (keep ok xs) ≡ some (λ x. ok x && is x) xs
unfolding some keep
some-keep ok is [] = refl
some-keep ok is (x ∷ xs) = go (ok x) (some-keep ok is xs)
  where
    go : (b : Bool) → some is (keep ok xs) ≡ some (λ x. ok x && is x) xs → some is (cond b (x ∷ keep ok xs) (keep ok xs)) ≡ (b && is x) || some (λ x. ok x && is x) xs
    go true e = ap (λ (c : Bool). is x || c) e
    go false e = e

module _ (t : ℕ) where
  pub first_of : (hs : List Held) → get_or (keep (of_tag t) hs) 0 absent ≡ find t hs
  unfolding keep find
  first_of [] = refl
  first_of (h ∷ hs) = go (of_tag t h) refl (first_of hs)
    where
      go : (b : Bool) → of_tag t h ≡ b → get_or (keep (of_tag t) hs) 0 absent ≡ find t hs → get_or (keep (of_tag t) (h ∷ hs)) 0 absent ≡ find t (h ∷ hs)
      go true e r = rw e
      go false e r = rw e r

  module _ (some-tag : eqb 0 t ≡ false) where
    -- the tag is present exactly where it has an entry
    pub present : (hs : List Held) → has t hs ≡ not (eqb (length (keep (of_tag t) hs)) 0)
    unfolding keep find has
    present [] = some-tag
    present (h ∷ hs) = go (of_tag t h) refl (present hs)
      where
        go : (b : Bool) → of_tag t h ≡ b → has t hs ≡ not (eqb (length (keep (of_tag t) hs)) 0) → has t (h ∷ hs) ≡ not (eqb (length (keep (of_tag t) (h ∷ hs))) 0)
        go true e r = rw (e, ne_eqb (suc (length (keep (of_tag t) hs))) 0 (λ z. omega arith)) e
        go false e r = rw e r

    -- a test of every entry of the tag is one of the first and one of the others
    pub first-or-later : (bad : Held → Bool) (hs : List Held)
        → some (λ h. of_tag t h && bad h) hs ≡ (has t hs && bad (find t hs)) || some bad (drop 1 (keep (of_tag t) hs))
    unfolding some keep find has
    first-or-later bad [] = rw some-tag
    first-or-later bad (h ∷ hs) = go (of_tag t h) refl (first-or-later bad hs)
      where
        go : (b : Bool) → of_tag t h ≡ b → some (λ h. of_tag t h && bad h) hs ≡ (has t hs && bad (find t hs)) || some bad (drop 1 (keep (of_tag t) hs))
            → some (λ h. of_tag t h && bad h) (h ∷ hs) ≡ (has t (h ∷ hs) && bad (find t (h ∷ hs))) || some bad (drop 1 (keep (of_tag t) (h ∷ hs)))
        go true e r = rw (e, e) (ap (λ (c : Bool). bad h || c) (sym (some-keep (of_tag t) bad hs)))
        go false e r = rw e r

-- with no entry of the tag nothing is found at fault
pub none-bad : (t : ℕ) (bad : Held → Bool) (hs : List Held) → has t hs ≡ false → some (λ h. of_tag t h && bad h) hs ≡ false
unfolding some has find
none-bad t bad [] n = refl
none-bad t bad (h ∷ hs) n = go (of_tag t h) refl (none-bad t bad hs)
  where
    go : (b : Bool) → of_tag t h ≡ b → (has t hs ≡ false → some (λ h. of_tag t h && bad h) hs ≡ false) → some (λ h. of_tag t h && bad h) (h ∷ hs) ≡ false
    go true e r = let w : eqb h.entry.tag t ≡ false = rw e at n in absurd (false≢true (sym w ∙ e))
    go false e r = rw e (r (rw e at n))

-- ---- a tag that may not be repeated

-- behind a number that is not below t stands none that is t or below
abbrev pub Rises : (ℕ → ℕ → Bool) → ℕ → Type 0
Rises follows t = (a b : ℕ) → t ≤ a → follows a b ≡ true → (eqb b t ≡ false) × (t ≤ b)

pub rises-strict : (t : ℕ) → Rises ltb t
rises-strict t a b l f = let m = ltb-true a b f in (ne_eqb b t (λ e. omega arith), omega arith)

pub rises-behind : (t : ℕ) → eqb t 50909 ≡ false → Rises behind t
unfolding behind
rises-behind t n a b l f = go (ltb a b) refl
  where
    go : (u : Bool) → ltb a b ≡ u → (eqb b t ≡ false) × (t ≤ b)
    go true e = rises-strict t a b l e
    go false e =
        let w : eqb a 50909 && eqb b 50909 ≡ true = rw e at f in
        let x : a ≡ 50909 = eqb-true a 50909 (and-eq (eqb a 50909) _ w).0 in
        let y : b ≡ 50909 = eqb-true b 50909 (and-eq (eqb a 50909) _ w).1 in
        (ne_eqb b t (λ z. eqb-false t 50909 n (sym z ∙ y)), omega arith)

pub ordered-more : (follows : ℕ → ℕ → Bool) (a : ℕ) (bs : List ℕ) → ordered_from follows a bs ≡ kept → ordered follows bs ≡ kept
unfolding ordered ordered_from
ordered-more follows a [] h = refl
ordered-more follows a (b ∷ bs) h = go (follows a b) refl
  where
    go : (t : Bool) → follows a b ≡ t → ordered_from follows b bs ≡ kept
    go true e = rw e at h
    go false e = let w : broken b ≡ kept = rw e at h in cc

-- things that each have a tag, and those of tag t among them
module _ {A : Type 0} (tag : A → ℕ) (follows : ℕ → ℕ → Bool) (t : ℕ) (rises : Rises follows t) where
  none_after : (a : ℕ) (xs : List A) → t ≤ a → ordered_from follows a (map tag xs) ≡ kept → keep (λ x. eqb (tag x) t) xs ≡ []
  unfolding ordered_from keep
  none_after a [] l h = refl
  none_after a (x ∷ xs) l h = go (follows a (tag x)) refl (none_after (tag x) xs)
    where
      go : (b : Bool) → follows a (tag x) ≡ b
          → (t ≤ tag x → ordered_from follows (tag x) (map tag xs) ≡ kept → keep (λ x. eqb (tag x) t) xs ≡ []) → keep (λ x. eqb (tag x) t) (x ∷ xs) ≡ []
      go true e s = let r = rises a (tag x) l e in rw r.0 (s r.1 (rw e at h))
      go false e s = let w : broken (tag x) ≡ kept = rw e at h in cc

  pub no_other : (xs : List A) → ordered follows (map tag xs) ≡ kept → drop 1 (keep (λ x. eqb (tag x) t) xs) ≡ []
  unfolding ordered keep
  no_other [] h = refl
  no_other (x ∷ xs) h = go (eqb (tag x) t) refl (no_other xs (ordered-more follows (tag x) (map tag xs) h))
    where
      go : (b : Bool) → eqb (tag x) t ≡ b → drop 1 (keep (λ x. eqb (tag x) t) xs) ≡ [] → drop 1 (keep (λ x. eqb (tag x) t) (x ∷ xs)) ≡ []
      go true e r = let w : tag x ≡ t = eqb-true _ _ e in rw e (none_after (tag x) xs (omega arith) h)
      go false e r = rw e r

-- so a test of every entry of the tag is one of the entry that is found
pub once : (follows : ℕ → ℕ → Bool) (t : ℕ) → Rises follows t → eqb 0 t ≡ false → (bad : Held → Bool) (hs : List Held) → ordered follows (tags_of hs) ≡ kept
    → some (λ h. of_tag t h && bad h) hs ≡ has t hs && bad (find t hs)
unfolding some
once follows t rises z bad hs h = first-or-later t z bad hs ∙ rw (no_other (λ x. x.entry.tag) follows t rises hs h) (or-false (has t hs && bad (find t hs)))

-- entries with their bytes, without them
pub entries-held : (tb : List Line) (f : List ℕ) (es : List Entry) → map (λ h. h.entry) (map (hold tb f) es) ≡ es
unfolding hold
entries-held tb f [] = refl
entries-held tb f (e ∷ es) = ap (λ (xs : List Entry). e ∷ xs) (entries-held tb f es)

-- the tags of entries with their bytes
pub tags-held : (tb : List Line) (f : List ℕ) (es : List Entry) → tags_of (map (hold tb f) es) ≡ map (λ e. e.tag) es
unfolding hold
tags-held tb f [] = refl
tags-held tb f (e ∷ es) = ap (λ (ts : List ℕ). e.tag ∷ ts) (tags-held tb f es)

-- the entries of a tag, with their bytes
pub kept-held : (tb : List Line) (f : List ℕ) (t : ℕ) (es : List Entry) → keep (of_tag t) (map (hold tb f) es) ≡ map (hold tb f) (keep (λ e. eqb e.tag t) es)
unfolding hold keep
kept-held tb f t [] = refl
kept-held tb f t (e ∷ es) = go (eqb e.tag t) refl (kept-held tb f t es)
  where
    go : (b : Bool) → eqb e.tag t ≡ b → keep (of_tag t) (map (hold tb f) es) ≡ map (hold tb f) (keep (λ e. eqb e.tag t) es)
        → keep (of_tag t) (map (hold tb f) (e ∷ es)) ≡ map (hold tb f) (keep (λ e. eqb e.tag t) (e ∷ es))
    go true q r = rw q (ap (λ (hs : List Held). hold tb f e ∷ hs) r)
    go false q r = rw q r

-- those behind the first, with a test that sees the entry alone
pub later-held : (tb : List Line) (f : List ℕ) (t : ℕ) (bad : Entry → Bool) (es : List Entry)
    → some (λ h. bad h.entry) (drop 1 (keep (of_tag t) (map (hold tb f) es))) ≡ some bad (drop 1 (keep (λ e. eqb e.tag t) es))
unfolding some hold
later-held tb f t bad es = ap (λ (hs : List Held). some (λ h. bad h.entry) (drop 1 hs)) (kept-held tb f t es) ∙ go (keep (λ e. eqb e.tag t) es)
  where
    all_of : (xs : List Entry) → some (λ h. bad h.entry) (map (hold tb f) xs) ≡ some bad xs
    all_of [] = refl
    all_of (x ∷ xs) = ap (λ (c : Bool). bad x || c) (all_of xs)

    go : (xs : List Entry) → some (λ h. bad h.entry) (drop 1 (map (hold tb f) xs)) ≡ some bad (drop 1 xs)
    go [] = refl
    go (x ∷ xs) = all_of xs

-- ---- rule 6 as it was, and as it is

-- numbers that ascend
pub rising-from : (a : ℕ) (bs : List ℕ) → (ascending_from a bs ≡ broken 50909 → ⊥) → ordered_from behind a bs ≡ ascending_from a bs
unfolding ordered_from behind
rising-from a [] n = refl
rising-from a (b ∷ bs) n = go (ltb a b) refl (rising-from b bs)
  where
    go : (t : Bool) → ltb a b ≡ t → ((ascending_from b bs ≡ broken 50909 → ⊥) → ordered_from behind b bs ≡ ascending_from b bs)
        → ordered_from behind a (b ∷ bs) ≡ ascending_from a (b ∷ bs)
    go true e r = rw e (r (λ w. n (rw e w)))
    go false e r = rw e (on (eqb a 50909 && eqb b 50909) refl)
      where
        on : (t : Bool) → eqb a 50909 && eqb b 50909 ≡ t → cond (eqb a 50909 && eqb b 50909) (ordered_from behind b bs) (broken b) ≡ broken b
        on true w = absurd (n (rw e (ap broken (eqb-true b 50909 (and-eq (eqb a 50909) _ w).1))))
        on false w = rw w

-- and so all that are not broken at 50909
pub rising : (ns : List ℕ) → (ascending ns ≡ broken 50909 → ⊥) → ordered behind ns ≡ ascending ns
unfolding ordered
rising [] n = refl
rising (a ∷ bs) n = rising-from a bs n
