-- A metadata text is the part of the file, or of the outside text, that it is said to be; in the file it is the value of an entry of 50909. So it is the
-- same in files that agree on the reading list. Assumes nothing.
use Prim.Native.Nat.{ℕ, zero, suc, zero-le}
use mathlib.Core.Path.{◌≡◌, refl, sym, ◌∙◌}
use mathlib.Core.Bool.{Bool, true, false, cond, not, ◌&&◌, ◌||◌}
use mathlib.Core.List.{List, [], ◌∷◌, map}
use native.Mathlib.Omega.{arith}
use lib.Dec.{eqb, ltb, lit<}
use lib.ListN.{length, get_or}
use lib.Seq.{take-length}
use borrow.Author.Tests.{eqb-true, ne_eqb, le-ltb, not-false}
use Rattle.paper.specs.Bytes.{run}
use Rattle.paper.specs.Outcome.{first}
use Rattle.paper.specs.Tests.{some, keep}
use Rattle.paper.specs.Layout.{size_of}
use Rattle.paper.specs.Tags.{table, Held, absent, hold, listed, in_table, fits_the_line, misfits, rule10}
use Rattle.paper.specs.Judge.{View, view, verdict_of, reading_list, view_at, head_in, entries_in}
use Rattle.paper.specs.Calls.{accepts, answer, texts_in, rule29, text_within, text_of, metadata_text}
use Rattle.paper.specs.Asked.{Agree}
use Rattle.paper.proofs.Laws.{and-eq, or_same, or-false, kept-all}
use Rattle.paper.proofs.Bounds.{no_line}
use Rattle.paper.proofs.Keeps.{rule10-kept}
use Rattle.paper.proofs.Several.{of_tag}
use Rattle.paper.proofs.Unseen.{answer-same}
use Rattle.paper.specs.declared.Entry.{Entry}

-- text k that the view shows
unfoldable pub told : ℕ → List ℕ → View → List ℕ
told k outside w =
    cond (ltb k (length (texts_in w))) (get_or (texts_in w) k absent).bytes
    (cond (eqb (length (texts_in w)) 0 && eqb k 0) outside [])

-- an entry of 50909 that fits its line is of type BYTE, so its value is on the reading list
byte-listed : (e : Entry) → eqb e.tag 50909 ≡ true → fits_the_line (get_or table 20 no_line) e ≡ true → listed table e ≡ true
unfolding table fits_the_line listed in_table some size_of
byte-listed e p fit =
    let tag : e.tag ≡ 50909 = eqb-true _ _ p in
    let typ : e.typ ≡ 1 = eqb-true _ _ (or_same _ (and-eq (eqb e.typ 1 || eqb e.typ 1) _ fit).0) in
    rw (tag, typ)

-- so what is handed back is what the view holds
texts-held : (f : List ℕ) (es : List Entry) → some (λ h. of_tag 50909 h && not (fits_the_line (get_or table 20 no_line) h.entry)) (map (hold table f) es) ≡ false → (k : ℕ)
    → run f (get_or (keep (of_tag 50909) (map (hold table f) es)) k absent).entry.start (get_or (keep (of_tag 50909) (map (hold table f) es)) k absent).entry.len
    ≡ (get_or (keep (of_tag 50909) (map (hold table f) es)) k absent).bytes
unfolding some keep hold
texts-held f [] h k = refl
texts-held f (e ∷ es) h k = go (eqb e.tag 50909) refl (texts-held f es)
  where
    Goal : List Held → ℕ → Type 0
    Goal ts j = run f (get_or ts j absent).entry.start (get_or ts j absent).entry.len ≡ (get_or ts j absent).bytes

    Bad : List Held → Bool
    Bad hs = some (λ h. of_tag 50909 h && not (fits_the_line (get_or table 20 no_line) h.entry)) hs

    go : (b : Bool) → eqb e.tag 50909 ≡ b → (Bad (map (hold table f) es) ≡ false → (i : ℕ) → Goal (keep (of_tag 50909) (map (hold table f) es)) i)
        → Goal (keep (of_tag 50909) (map (hold table f) (e ∷ es))) k
    go false p r = rw p (r (rw p at h) k)
    go true p r =
        let w : not (fits_the_line (get_or table 20 no_line) e) || some (λ h. of_tag 50909 h && not (fits_the_line (get_or table 20 no_line) h.entry)) (map (hold table f) es) ≡ false = rw p at h in
        let o = or-false (not (fits_the_line (get_or table 20 no_line) e)) _ w in
        let l : listed table e ≡ true = byte-listed e p (not-false _ o.0) in
        rw p (at k l (r o.1))
      where
        at : (j : ℕ) → listed table e ≡ true → ((i : ℕ) → Goal (keep (of_tag 50909) (map (hold table f) es)) i)
            → Goal (hold table f e ∷ keep (of_tag 50909) (map (hold table f) es)) j
        at zero l r = rw l
        at (suc i) l r = r i

-- no entry of 50909 in an accepted file is of another type
texts-fit : (f : List ℕ) → (verdict_of f).number ≡ 0
    → some (λ h. of_tag 50909 h && not (fits_the_line (get_or table 20 no_line) h.entry)) (view f).held ≡ false
unfolding rule10 misfits table
texts-fit f z = kept-all (misfits (view f).held) _ table no_line (rule10-kept f z) 20 (lit< tt)

pub text-part : (f : List ℕ) → (verdict_of f).number ≡ 0 → (k : ℕ)
    → run f (get_or (texts_in (view f)) k absent).entry.start (get_or (texts_in (view f)) k absent).entry.len ≡ (get_or (texts_in (view f)) k absent).bytes
unfolding view view_at texts_in
text-part f z k = texts-held f (entries_in f (head_in f)) (texts-fit f z) k

pub metadata-text : (f : List ℕ) (k : ℕ) (outside : List ℕ) → metadata_text f k outside ≡ answer f (told k outside) (λ v. [])
unfolding metadata_text text_of answer text_within rule29 first told
metadata-text f k outside = go (accepts (verdict_of f)) refl
  where
    Part : View → List ℕ
    Part w = run (cond (eqb (text_within k (length outside) w).from 0) f outside) (text_within k (length outside) w).start (text_within k (length outside) w).len

    own : (n : ℕ) → length (texts_in (view f)) ≡ n → (verdict_of f).number ≡ 0 → Part (view f) ≡ told k outside (view f)
    own zero e z = on (eqb k 0) refl
      where
        on : (b : Bool) → eqb k 0 ≡ b → Part (view f) ≡ told k outside (view f)
        on true q = rw (e, le-ltb k 0 zero-le, q) (take-length outside)
        on false q = rw (e, le-ltb k 0 zero-le, q)
    own (suc n) e z = on (ltb k (suc n)) refl
      where
        on : (b : Bool) → ltb k (suc n) ≡ b → Part (view f) ≡ told k outside (view f)
        on true q = rw (e, ne_eqb (suc n) 0 (λ y. omega arith), q) (text-part f z k)
        on false q = rw (e, ne_eqb (suc n) 0 (λ y. omega arith), q)

    go : (b : Bool) → accepts (verdict_of f) ≡ b → metadata_text f k outside ≡ cond (accepts (verdict_of f)) (told k outside (view f)) []
    go false e = rw e
    go true e = rw e (own (length (texts_in (view f))) refl (eqb-true _ _ e))

-- Demand 3, for the bytes of a metadata text
pub metadata-same : (f g : List ℕ) → length f ≡ length g → Agree f g (reading_list f) → (k : ℕ) (outside : List ℕ) → metadata_text f k outside ≡ metadata_text g k outside
metadata-same f g n h k outside =
    metadata-text f k outside ∙ answer-same f g n h (told k outside) (λ v. []) ∙ sym (metadata-text g k outside)
