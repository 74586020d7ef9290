-- This page states rule 14 by itself, each place asked in turn: a place with bytes shares one with a part exactly where the part is not clear of it, and one law for the
-- start, the end, each turn and each clash of a pass over places that keep rule 13, of any list of parts. Assumes nothing.
use Rattle.std.proofs.Common.{◌≡◌, ℕ, ◌+◌, ◌<◌, ◌≤◌, Bool, true, false, not, ◌||◌, eqb, ltb, leb, List, [], ◌∷◌, sym, refl, ap, ◌∙◌, arith, leb-false}
use Rattle.order.specs.Width.{width}
use Rattle.paper.specs.Outcome.{first_bad}
use Rattle.paper.specs.Tests.{all, some}
use Rattle.paper.specs.Pieces.{part, Piece, shares, place_at, bad_piece, touches, rule13}
use Rattle.paper.specs.declared.Part.{Part}
use Rattle.paper.specs.declared.Outcome.TheVariants.{Kept as kept}
use Rattle.paper.proofs.Laws.{build-step, or-false, kept-cond}
use Rattle.pieces.specs.Gaps.{clear}
use Rattle.pieces.specs.Reading.{pieces_in, pieces_from, place_in}
use Rattle.pieces.specs.declared.places.Places.{Places}
use Rattle.pieces.proofs.Gaps.{shares-yes, unshared}
use Rattle.pieces.proofs.Listed.{either-not}
use Rattle.pieces.proofs.Passing.{some_bytes, from_start, from_end}

-- ---- a place with bytes shares one with a part exactly where the part is not clear of it

unclear : (s l : ℕ) (p : Part) → 0 < l → clear s (s + l) p ≡ false → shares (part s l) p ≡ true
unfolding clear
unclear s l p h e =
    let x = or-false (eqb p.len 0) _ e in
    let y = or-false (leb (p.start + p.len) s) _ x.1 in
    let some-len : 0 < p.len = some_bytes p.len x.0 in
    let behind : s < p.start + p.len = leb-false _ _ y.0 in
    let before : p.start < s + l = leb-false _ _ y.1 in
    shares-yes s l p (omega arith)

pub shares-is : (s l : ℕ) (p : Part) → 0 < l → shares (part s l) p ≡ not (clear s (s + l) p)
shares-is s l p h = go (clear s (s + l) p) refl
  where
    go : (t : Bool) → clear s (s + l) p ≡ t → shares (part s l) p ≡ not t
    go true e = unshared s (s + l) s l p (omega arith) (omega arith) e
    go false e = unclear s l p h e

pub some_is : (s l : ℕ) (ps : List Part) → 0 < l → some (shares (part s l)) ps ≡ not (all (clear s (s + l)) ps)
unfolding some all
some_is s l [] h = refl
some_is s l (p ∷ ps) h = rw (shares-is s l p h, some_is s l ps h) (sym (either-not (clear s (s + l) p) (all (clear s (s + l)) ps)))

-- ---- places that keep rule 13

module _ (p : Places) where
  abbrev Whole : List Piece
  Whole = pieces_in p

  abbrev Left : ℕ → List Piece
  Left i = pieces_from p i

  abbrev Meets : List Part → Bool
  Meets ps = some (touches ps) Whole

  module _ (n : ℕ) (ps : List Part) where
    -- the places before i share no byte with the list
    pub record Apart (i : ℕ) : Type 0 where
      pub high : i ≤ p.many
      pub good : rule13 n (Left i) ≡ kept
      pub same : Meets ps ≡ some (touches ps) (Left i)

    pub apart-start : rule13 n Whole ≡ kept → Apart 0
    apart-start h =
        record {
          high = omega arith;
          good = sym (ap (rule13 n) (from_start p)) ∙ h;
          same = ap (some (touches ps)) (from_start p);
        }

    module _ (i : ℕ) (ap-i : Apart i) where
      pub apart-end : p.many ≤ i → false ≡ Meets ps
      unfolding some
      apart-end m = sym (ap-i.same ∙ ap (some (touches ps)) (from_end p i m))

      module _ (l : i < p.many) (start len : ℕ) (is-start : start ≡ (place_in p i).start) (is-len : len ≡ (place_in p i).len) (met : Bool)
          (is-met : met ≡ not (all (clear start (start + len)) ps)) where
        place_is : Left i ≡ record { index = i; place = part start len } ∷ Left (i + 1)
        unfolding pieces_from place_at
        place_is =
            build-step (place_at p.big (width p.offsets.wide) p.offsets.bytes.now (width p.bytecounts.wide) p.bytecounts.bytes.now) i p.many l
            ∙ (λ j. record { index = i; place = part (sym is-start j) (sym is-len j) } ∷ Left (i + 1))

        halves : (eqb len 0 || (ltb start 8 || ltb n (start + len)) ≡ false) × (rule13 n (Left (i + 1)) ≡ kept)
        unfolding rule13 first_bad bad_piece
        halves = kept-cond _ i _ (sym (ap (rule13 n) place_is) ∙ ap-i.good)

        some-len : 0 < len
        some-len = some_bytes len (or-false (eqb len 0) _ halves.0).0

        next : Meets ps ≡ met || some (touches ps) (Left (i + 1))
        unfolding some touches
        next = ap-i.same ∙ ap (some (touches ps)) place_is ∙ rw (some_is start len ps some-len, is-met)

        pub apart-clash : met ≡ true → true ≡ Meets ps
        apart-clash t = sym (next ∙ rw t)

        pub apart-turn : met ≡ false → Apart (i + 1)
        apart-turn t = record { high = omega arith; good = halves.1; same = next ∙ rw t }
