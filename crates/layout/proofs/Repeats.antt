-- The entries of tag 50909 where rule 6 is kept: they stand side by side, so that those behind the first are a run of the directory. Assumes nothing.
use Prim.Native.Nat.{ℕ, zero, suc, ◌+◌, ◌-◌, ◌*◌, ◌≤◌, ◌<◌, zero-le}
use mathlib.Core.Path.{◌≡◌, refl, sym, ap, ap₂, ◌∙◌}
use mathlib.Core.Bool.{Bool, true, false}
use mathlib.Core.List.{List, [], ◌∷◌, map}
use native.Mathlib.Omega.{arith}
use lib.Dec.{eqb, ltb}
use lib.ListN.{length, get_or, drop}
use borrow.Author.Tests.{eqb-true, ne_eqb, ltb-true, ltb-false}
use Rattle.paper.specs.Bytes.{run, num, build}
use Rattle.paper.specs.Outcome.{ordered, ordered_from}
use Rattle.paper.specs.declared.Outcome.TheVariants.{Kept as kept, Broken as broken}
use Rattle.paper.specs.Tests.{keep}
use Rattle.paper.specs.Layout.{dir_len, start_of, entry_of, entry_at, entries, behind, rule6, rule7}
use Rattle.paper.specs.declared.Entry.{Entry}
use Rattle.paper.specs.Tag
use Rattle.paper.proofs.Laws.{num-run, length-build, get_or-build}
use Rattle.paper.proofs.Several.{ordered-more}
use Rattle.layout.specs.Repeats.{is_text, text_count, first_text, further_of, later_texts, entries_from}
use Rattle.layout.specs.declared.Further.{Further}
use Rattle.layout.proofs.Values.{entry-within}

-- ---- side by side

-- behind a tag above 50909 there is none
none_above : (a : ℕ) (es : List Entry) → Tag.metadata < a → ordered_from behind a (map (λ e. e.tag) es) ≡ kept → keep is_text es ≡ []
unfolding ordered_from keep behind
none_above a [] l h = refl
none_above a (e ∷ es) l h = go (ltb a e.tag) refl (none_above e.tag es)
  where
    go : (b : Bool) → ltb a e.tag ≡ b → (Tag.metadata < e.tag → ordered_from behind e.tag (map (λ e. e.tag) es) ≡ kept → keep is_text es ≡ [])
        → keep is_text (e ∷ es) ≡ []
    go true q r =
        let m = ltb-true a e.tag q in
        let n : eqb e.tag Tag.metadata ≡ false = ne_eqb e.tag Tag.metadata (λ z. omega arith) in
        rw n (r (omega arith) (rw q at h))
    go false q r =
        let n : eqb a Tag.metadata ≡ false = ne_eqb a Tag.metadata (λ z. omega arith) in
        let w : broken e.tag ≡ kept = rw (q, n) at h in cc

module _ (g : ℕ → Entry) where
  -- behind a 50909 come the others, then none
  run_on : (j k : ℕ) → ordered_from behind Tag.metadata (map (λ e. e.tag) (build g j k)) ≡ kept → keep is_text (build g j k) ≡ build g j (text_count (build g j k))
  unfolding ordered_from keep behind build text_count
  run_on j zero h = refl
  run_on j (suc k) h = go (is_text (g j)) refl (run_on (suc j) k)
    where
      go : (b : Bool) → is_text (g j) ≡ b
          → (ordered_from behind Tag.metadata (map (λ e. e.tag) (build g (suc j) k)) ≡ kept → keep is_text (build g (suc j) k) ≡ build g (suc j) (text_count (build g (suc j) k)))
          → keep is_text (build g j (suc k)) ≡ build g j (text_count (build g j (suc k)))
      go true q r =
          let t : (g j).tag ≡ Tag.metadata = eqb-true _ _ q in
          let o : ordered_from behind Tag.metadata (map (λ e. e.tag) (build g (suc j) k)) ≡ kept = rw t at h in
          rw q (ap (λ (es : List Entry). g j ∷ es) (r o))
      go false q r = on (ltb Tag.metadata (g j).tag) refl
        where
          on : (b : Bool) → ltb Tag.metadata (g j).tag ≡ b → keep is_text (build g j (suc k)) ≡ build g j (text_count (build g j (suc k)))
          on true p =
              let n : keep is_text (build g (suc j) k) ≡ [] = none_above (g j).tag (build g (suc j) k) (ltb-true Tag.metadata (g j).tag p) (rw p at h) in
              rw (q, n)
          on false p = let w : broken (g j).tag ≡ kept = rw (p, q) at h in cc

  texts-run : (i k : ℕ) → ordered behind (map (λ e. e.tag) (build g i k)) ≡ kept
      → keep is_text (build g i k) ≡ build g (i + first_text (build g i k)) (text_count (build g i k))
  unfolding ordered keep build text_count first_text
  texts-run i zero h = refl
  texts-run i (suc k) h = go (is_text (g i)) refl (texts-run (suc i) k (ordered-more behind (g i).tag (map (λ e. e.tag) (build g (suc i) k)) h))
    where
      go : (b : Bool) → is_text (g i) ≡ b
          → keep is_text (build g (suc i) k) ≡ build g (suc i + first_text (build g (suc i) k)) (text_count (build g (suc i) k))
          → keep is_text (build g i (suc k)) ≡ build g (i + first_text (build g i (suc k))) (text_count (build g i (suc k)))
      go true q r =
          let t : (g i).tag ≡ Tag.metadata = eqb-true _ _ q in
          let z : i + 0 ≡ i = omega arith in
          rw (q, z) (ap (λ (es : List Entry). g i ∷ es) (run_on (suc i) k (rw t at h)))
      go false q r =
          let w : i + suc (first_text (build g (suc i) k)) ≡ suc i + first_text (build g (suc i) k) = omega arith in
          rw (q, w) r

-- ---- how many there are

texts-few : (es : List Entry) → text_count es ≤ length es
unfolding text_count keep
texts-few [] = zero-le
texts-few (e ∷ es) = go (is_text e) refl (texts-few es)
  where
    go : (b : Bool) → is_text e ≡ b → text_count es ≤ length es → text_count (e ∷ es) ≤ length (e ∷ es)
    go true q r = rw q (omega arith)
    go false q r = rw q (omega arith)

texts-fit : (es : List Entry) → first_text es + text_count es ≤ length es
unfolding first_text text_count keep
texts-fit [] = zero-le
texts-fit (e ∷ es) = go (is_text e) refl (texts-fit es) (texts-few es)
  where
    go : (b : Bool) → is_text e ≡ b → first_text es + text_count es ≤ length es → text_count es ≤ length es → first_text (e ∷ es) + text_count (e ∷ es) ≤ length (e ∷ es)
    go true q r s = rw q (omega arith)
    go false q r s = rw q (omega arith)

-- how many are told
pub many_is : (at : ℕ) (es : List Entry) → (further_of at es).many ≡ text_count es - 1
unfolding further_of
many_is at es = go (ltb 1 (text_count es)) refl
  where
    go : (b : Bool) → ltb 1 (text_count es) ≡ b → (further_of at es).many ≡ text_count es - 1
    go true e = rw e
    go false e = let l = ltb-false 1 (text_count es) e in let z : text_count es - 1 ≡ 0 = omega arith in rw (e, z)

-- all but the first
drop-first : (g : ℕ → Entry) (i m : ℕ) → drop 1 (build g (0 + i) m) ≡ build g (i + 1) (m - 1)
unfolding build
drop-first g i zero = refl
drop-first g i (suc m) =
    let e : suc (0 + i) ≡ i + 1 = omega arith in
    let k : suc m - 1 ≡ m = omega arith in
    rw (e, k)

-- ---- the run of the directory

module _ (f : List ℕ) (big : Bool) (at c : ℕ) where
  abbrev Dir : List ℕ
  Dir = run f at (dir_len c)

  abbrev Es : List Entry
  Es = entries big at c (run f at (dir_len c))

  -- an entry, read from the directory and from a run that starts d bytes further
  field : (d l p w q : ℕ) → p + 12 ≤ l → d + p + 12 ≤ dir_len c → q + w ≤ 12 → num big w (run f (at + d) l) (p + q) ≡ num big w Dir (d + p + q)
  field d l p w q h k b =
      let e : at + d + (p + q) ≡ at + (d + p + q) = omega arith in
      num-run big w f (at + d) l (p + q) (omega arith) ∙ ap (num big w f) e ∙ sym (num-run big w f at (dir_len c) (d + p + q) (omega arith))

  shifted : (d l p : ℕ) → p + 12 ≤ l → d + p + 12 ≤ dir_len c → entry_of big (at + d) (run f (at + d) l) p ≡ entry_of big at Dir (d + p)
  unfolding entry_of start_of
  shifted d l p h k =
      let z : p + 0 ≡ p = omega arith in
      let y : d + p + 0 ≡ d + p = omega arith in
      let t : num big 2 (run f (at + d) l) p ≡ num big 2 Dir (d + p) = rw (z, y) at (field d l p 2 0 h k (omega arith)) in
      let e : at + d + (p + 8) ≡ at + (d + p + 8) = omega arith in
      rw (t, field d l p 2 2 h k (omega arith), field d l p 4 4 h k (omega arith), field d l p 4 8 h k (omega arith), e)

  -- so many entries from entry a on
  shifted-all : (a m l i : ℕ) → a + (i + m) ≤ c → 12 * (i + m) ≤ l
      → build (λ j. entry_of big (at + (2 + 12 * a)) (run f (at + (2 + 12 * a)) l) (12 * j)) i m ≡ build (entry_at big at Dir) (a + i) m
  unfolding build
  shifted-all a zero l i h k = refl
  shifted-all a (suc m) l i h k =
      let e : entry_of big (at + (2 + 12 * a)) (run f (at + (2 + 12 * a)) l) (12 * i) ≡ entry_of big at Dir (2 + 12 * a + 12 * i) =
      shifted (2 + 12 * a) l (12 * i) (omega arith) (omega arith) in
      let q : 2 + 12 * a + 12 * i ≡ 2 + 12 * (a + i) = omega arith in
      let r = shifted-all a m l (suc i) (omega arith) (omega arith) in
      let s : a + suc i ≡ suc (a + i) = omega arith in
      ap₂ (λ (x : Entry) (xs : List Entry). x ∷ xs) (e ∙ ap (entry_of big at Dir) q) (r ∙ ap (λ (n : ℕ). build (entry_at big at Dir) n m) s)

  -- what is lent of the further entries
  pub record FurtherHolds (r : Further) : Type 0 where
    pub room : r.start + 12 * r.many ≤ length f
    pub few : r.many ≤ 1024
    pub are : entries_from big r.start (run f r.start (12 * r.many)) r.many ≡ later_texts Es

  module _ (whole : at + dir_len c ≤ length f) (less : c ≤ 1024) (six : rule6 Es ≡ kept) where
    later-run : later_texts Es ≡ build (entry_at big at Dir) (first_text Es + 1) (text_count Es - 1)
    unfolding rule6 entries
    later-run = ap (drop 1) (texts-run (entry_at big at Dir) 0 c six) ∙ drop-first (entry_at big at Dir) (first_text Es) (text_count Es)

    fit : first_text Es + text_count Es ≤ c
    unfolding entries
    fit = let t = texts-fit Es in let l = length-build (entry_at big at Dir) 0 c in omega arith

    -- each lies in the file
    pub later-within : 8 ≤ at → rule7 (length f) Es ≡ kept → (d : Entry) (j : ℕ) → j < text_count Es - 1
        → (get_or (later_texts Es) j d).start + (get_or (later_texts Es) j d).len ≤ length f
    later-within low seven d j l =
        let t = fit in
        let e : get_or (later_texts Es) j d ≡ entry_at big at Dir (first_text Es + 1 + j) =
        ap (λ (xs : List Entry). get_or xs j d) later-run ∙ get_or-build (entry_at big at Dir) d (first_text Es + 1) (text_count Es - 1) j l in
        rw e (entry-within (length f) at c big Dir low whole seven (first_text Es + 1 + j) (omega arith))

    pub further-holds : {r : Further} → r ≡ further_of at Es → FurtherHolds r
    unfolding further_of entries_from build
    further-holds {r} is = rw is (go (ltb 1 (text_count Es)) refl)
      where
        go : (b : Bool) → ltb 1 (text_count Es) ≡ b → FurtherHolds (further_of at Es)
        go true e =
            let m = ltb-true 1 (text_count Es) e in
            let t = fit in
            let w : first_text Es + 1 + 0 ≡ first_text Es + 1 = omega arith in
            rw e (record {
              room = omega arith;
              few = omega arith;
              are = shifted-all (first_text Es + 1) (text_count Es - 1) (12 * (text_count Es - 1)) 0 (omega arith) (omega arith)
                  ∙ ap (λ (i : ℕ). build (entry_at big at Dir) i (text_count Es - 1)) w
                  ∙ sym later-run;
            })
        go false e =
            let m = ltb-false 1 (text_count Es) e in
            let z : text_count Es - 1 ≡ 0 = omega arith in
            rw e (record { room = omega arith; few = omega arith; are = sym (later-run ∙ ap (build (entry_at big at Dir) (first_text Es + 1)) z) })
