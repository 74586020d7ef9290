-- The metadata texts of an accepted file are the values of its entries of tag 50909, in the directory's order. Assumes nothing.
use Prim.Native.Nat.{ℕ, zero, suc, ◌≤◌, ◌<◌}
use mathlib.Core.Path.{◌≡◌, refl, ap, ◌∙◌}
use mathlib.Core.Bool.{Bool, true, false}
use mathlib.Core.List.{List, [], ◌∷◌, map}
use native.Mathlib.Omega.{arith}
use lib.Dec.{eqb, ltb}
use lib.ListN.{length, get_or, length-map}
use lib.Seq.{take-length}
use borrow.Author.Tests.{ne_eqb, lt-ltb, le-ltb}
use Rattle.paper.specs.Bytes.{run}
use Rattle.paper.specs.Outcome.{verdict, first}
use Rattle.paper.specs.Tags.{Line, table, Held, hold, absent}
use Rattle.paper.specs.Judge.{view, view_at, head_in, entries_in, verdict_of}
use Rattle.paper.specs.Calls.{answer, texts_in, rule29, text_within, text_of, metadata_text}
use Rattle.paper.specs.Shown.{text_entries, texts_held, text_entry, TextIs, TextsHold}
use Rattle.paper.proofs.Several.{kept-held}
use Rattle.paper.specs.declared.Entry.{Entry}
use Rattle.paper.specs.declared.Text.{Text}

held-entry : (tb : List Line) (f : List ℕ) (es : List Entry) (k : ℕ) → (get_or (map (hold tb f) es) k absent).entry ≡ get_or es k absent.entry
unfolding hold
held-entry tb f [] k = refl
held-entry tb f (e ∷ es) zero = refl
held-entry tb f (e ∷ es) (suc k) = held-entry tb f es k

module _ (f : List ℕ) where
  texts-are : texts_in (view f) ≡ map (hold table f) (text_entries f)
  unfolding texts_in view view_at
  texts-are = kept-held table f 50909 (entries_in f (head_in f))

  many : length (texts_in (view f)) ≡ texts_held f
  many = ap (λ (hs : List Held). length hs) texts-are ∙ length-map (text_entries f) (hold table f)

  entry-is : (k : ℕ) → (get_or (texts_in (view f)) k absent).entry ≡ text_entry f k
  entry-is k = ap (λ (hs : List Held). (get_or hs k absent).entry) texts-are ∙ held-entry table f (text_entries f) k

  module _ (z : (verdict_of f).number ≡ 0) where
    -- the whole answer, in each case
    pub text-past : (k m : ℕ) → texts_held f ≤ k → 0 < k → text_of f k m ≡ record { verdict = verdict 29 k; from = 0; start = 0; len = 0 }
    unfolding text_of answer text_within rule29 first
    text-past k m l p = go (eqb (texts_held f) 0) refl
      where
        go : (b : Bool) → eqb (texts_held f) 0 ≡ b → text_of f k m ≡ record { verdict = verdict 29 k; from = 0; start = 0; len = 0 }
        go true e = rw (z, many, e, le-ltb k _ l, ne_eqb k 0 (λ y. omega arith))
        go false e = rw (z, many, e, le-ltb k _ l)

    pub text-own : (k m : ℕ) → k < texts_held f → text_of f k m ≡ record { verdict = verdict 0 0; from = 0; start = (text_entry f k).start; len = (text_entry f k).len }
    unfolding text_of answer text_within rule29 first
    text-own k m l =
        let some : eqb (texts_held f) 0 ≡ false = ne_eqb (texts_held f) 0 (λ e. omega arith) in
        let there : ltb k (texts_held f) ≡ true = lt-ltb k _ l in
        rw (z, many, some, there, entry-is k)

    pub text-outer : (m : ℕ) → texts_held f ≡ 0 → text_of f 0 m ≡ record { verdict = verdict 0 0; from = 1; start = 0; len = m }
    unfolding text_of answer text_within rule29 first
    text-outer m n = rw (z, many, n)

    own : (k : ℕ) (outside : List ℕ) → k < texts_held f
        → TextIs f k outside 0 (text_entry f k).start (text_entry f k).len (run f (text_entry f k).start (text_entry f k).len)
    unfolding metadata_text
    own k outside l =
        let t = text-own k (length outside) l in
        record { accepted = rw t; from_is = rw t; start_is = rw t; len_is = rw t; bytes_are = rw t }

    outer : (outside : List ℕ) → texts_held f ≡ 0 → TextIs f 0 outside 1 0 (length outside) outside
    unfolding metadata_text
    outer outside n =
        let t = text-outer (length outside) n in
        record { accepted = rw t; from_is = rw t; start_is = rw t; len_is = rw t; bytes_are = rw t (take-length outside) }

    pub texts-hold : TextsHold f
    texts-hold = record { own = own; outer = outer; none = λ k m l p. ap (λ (t : Text). t.verdict) (text-past k m l p) }
