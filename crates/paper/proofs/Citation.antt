-- A citation is the part of the file that it is said to be, and it lies in the value of 34737: so it is the same in files that agree on the
-- reading list. Assumes nothing.
use Prim.Native.Nat.{ℕ, ◌+◌, ◌-◌, ◌≤◌}
use mathlib.Core.Path.{◌≡◌, refl, sym, ap, ◌∙◌, subst}
use mathlib.Core.Bool.{Bool, true, false, cond, ◌&&◌, false≢true}
use mathlib.Core.List.{List, [], ◌∷◌}
use native.Mathlib.Omega.{arith}
use lib.Dec.{eqb, leb}
use lib.ListN.{length}
use borrow.Author.Tests.{eqb-true, leb-true, not-false}
use Rattle.paper.specs.Bytes.{run}
use Rattle.paper.specs.Outcome.{kept, ◌▸◌, first, first_bad}
use Rattle.paper.specs.Tag
use Rattle.paper.specs.Keys.{Runs, keys, rule17, misplaced, right_place, within, room, kind_of, kind_in, known_keys, find_key, has_key}
use Rattle.paper.specs.Judge.{View, view, verdict_of, reading_list, runs_of, view_at}
use Rattle.paper.specs.Calls.{accepts, answer, citation, cited_of, cited_in, starts_of, rule26}
use Rattle.paper.specs.Asked.{Agree}
use Rattle.paper.proofs.Laws.{and-eq, kept-cond}
use Rattle.paper.proofs.Keeps.{rule17-kept}
use Rattle.paper.proofs.Held.{tag-part}
use Rattle.paper.proofs.Unseen.{answer-same}
use Rattle.paper.specs.declared.KeyEntry.{KeyEntry}

-- a key that is found is one of the keys, so it is not bad where none is
pub found-kept : (bad : KeyEntry → Bool) (place : KeyEntry → ℕ) (k : ℕ) (ks : List KeyEntry) → (k ≡ 0 → ⊥) → first_bad bad place ks ≡ kept
    → has_key k ks ≡ true → bad (find_key k ks) ≡ false
unfolding first_bad has_key find_key
found-kept bad place k [] nz h p = let e : 0 ≡ k = eqb-true 0 k p in absurd (nz (sym e))
found-kept bad place k (e ∷ es) nz h p =
    go (eqb e.key k) refl (kept-cond (bad e) (place e) _ h).0 (found-kept bad place k es nz (kept-cond (bad e) (place e) _ h).1)
  where
    go : (b : Bool) → eqb e.key k ≡ b → bad e ≡ false → (has_key k es ≡ true → bad (find_key k es) ≡ false) → bad (find_key k (e ∷ es)) ≡ false
    go true q x r = rw q x
    go false q x r = rw q (r (rw q at p))

kind-zero : kind_of 0 ≡ 3
unfolding kind_of kind_in known_keys
kind-zero = refl

-- a present ASCII key's characters lie within those of the runs
pub cite-within : (r : Runs) (k : ℕ) → rule17 r (keys r) ≡ kept → kind_of k ≡ 2 → has_key k (keys r) ≡ true
    → (1 ≤ (find_key k (keys r)).count) × ((find_key k (keys r)).index + (find_key k (keys r)).count ≤ length r.characters)
unfolding rule17 misplaced right_place has_key room
cite-within r k h q p =
    let e : KeyEntry = find_key k (keys r) in
    let ek : e.key ≡ k = eqb-true _ _ p in
    let nz : k ≡ 0 → ⊥ = λ z. (let u : ◌≡◌ {A = ℕ} 2 3 = sym q ∙ ap kind_of z ∙ kind-zero in omega arith) in
    let x : right_place r e (kind_of e.key) ≡ true = not-false _ (found-kept _ _ k (keys r) nz h p) in
    let y : right_place r e 2 ≡ true = subst (λ (n : ℕ). right_place r e n ≡ true) (ap kind_of ek ∙ q) x in
    let l : e.location ≡ 34737 = eqb-true _ _ (and-eq (eqb e.location 34737) _ y).0 in
    let w : within r e ≡ true = (and-eq (within r e) _ (and-eq (eqb e.location 34737) _ y).1).0 in
    let c : leb 1 e.count ≡ true = (and-eq (leb 1 e.count) _ w).0 in
    let d : leb (e.index + e.count) (room r e.location) ≡ true = (and-eq (leb 1 e.count) _ w).1 in
    (leb-true _ _ c, leb-true _ _ (subst (λ (n : ℕ). leb (e.index + e.count) (room r n) ≡ true) l d))

-- ---- the text, out of the view

unfoldable pub cited_text : ℕ → View → List ℕ
cited_text k w =
    cond (accepts (first (26 ▸ rule26 k (keys (runs_of w)) ∷ [])))
    (run (runs_of w).characters (find_key k (keys (runs_of w))).index ((find_key k (keys (runs_of w))).count - 1))
    []

accepts26 : (k : ℕ) (ks : List KeyEntry) → accepts (first (26 ▸ rule26 k ks ∷ [])) ≡ true → (kind_of k ≡ 2) × (has_key k ks ≡ true)
unfolding first rule26
accepts26 k ks h = go (eqb (kind_of k) 2 && has_key k ks) refl
  where
    go : (b : Bool) → eqb (kind_of k) 2 && has_key k ks ≡ b → (kind_of k ≡ 2) × (has_key k ks ≡ true)
    go true e = let x = and-eq (eqb (kind_of k) 2) (has_key k ks) e in (eqb-true _ _ x.0, x.1)
    go false e = let w : false ≡ true = rw e at h in absurd (false≢true w)

module _ (f : List ℕ) (k : ℕ) where
  -- the key's entry
  abbrev Of : KeyEntry
  Of = find_key k (keys (runs_of (view f)))

  text-part : (verdict_of f).number ≡ 0 → (kind_of k ≡ 2) × (has_key k (keys (runs_of (view f))) ≡ true)
      → run f ((starts_of (view f)).characters + Of.index) (Of.count - 1) ≡ run (runs_of (view f)).characters Of.index (Of.count - 1)
  unfolding starts_of runs_of view view_at
  text-part z p =
      let w = cite-within (runs_of (view f)) k (rule17-kept f z) p.0 p.1 in
      (tag-part f Tag.characters Of.index (Of.count - 1) (omega (arith, w.0, w.1)) (omega (arith, w.0, w.1))).same

  -- what is handed back is the text that the view shows
  pub citation-text : citation f k ≡ answer f (cited_text k) (λ v. [])
  unfolding citation cited_of answer cited_in cited_text
  citation-text = go (accepts (verdict_of f)) refl
    where
      go : (b : Bool) → accepts (verdict_of f) ≡ b
          → run f (cited_of f k).start (cited_of f k).len ≡ cond (accepts (verdict_of f)) (cited_text k (view f)) []
      go false e = rw e
      go true e = rw e (on (accepts (first (26 ▸ rule26 k (keys (runs_of (view f))) ∷ []))) refl)
        where
          on : (b : Bool) → accepts (first (26 ▸ rule26 k (keys (runs_of (view f))) ∷ [])) ≡ b
              → run f (cited_in k (view f)).start (cited_in k (view f)).len ≡ cited_text k (view f)
          on true q = rw q (text-part (eqb-true _ _ e) (accepts26 k _ q))
          on false q = rw q

-- Demand 3, for a citation's bytes
pub citation-same : (f g : List ℕ) → length f ≡ length g → Agree f g (reading_list f) → (k : ℕ) → citation f k ≡ citation g k
citation-same f g n h k = citation-text f k ∙ answer-same f g n h (cited_text k) (λ v. []) ∙ sym (citation-text g k)
