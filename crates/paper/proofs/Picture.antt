-- The pieces of an accepted file, of its image and of its mask, lie within it, and none of their bytes is on the reading list: so a file that differs from
-- it in the pictures alone agrees with it on the list. Assumes nothing.
use Prim.Native.Nat.{ℕ, zero, suc, ◌+◌, ◌≤◌, ◌<◌, min, max, zero-le, suc-le-suc}
use mathlib.Core.Path.{◌≡◌, refl, sym, subst, ◌∙◌}
use mathlib.Core.Bool.{Bool, true, false, cond, ◌&&◌}
use mathlib.Core.List.{List, [], ◌∷◌, ◌++◌, append-nil}
use native.Mathlib.Omega.{arith}
use lib.Dec.{T, eqb, leb, ltb, leb→le, ltb→lt}
use lib.ListN.{length, get_or}
use borrow.Author.Tests.{eqb-false, ltb-false, lt-ltb}
use Rattle.paper.specs.Outcome.{kept, first_bad}
use Rattle.paper.specs.Layout.{dir_len}
use Rattle.paper.specs.Tests.{some}
use Rattle.paper.specs.Pieces.{Part, part, Piece, shares, full_list, bad_piece, rule13, rule14, touches}
use Rattle.paper.specs.Judge.{Head, view, verdict_of, view_at, head_in, count_in, pieces_of, directory_of, full_of, reading_list, directory_parts, where_kept}
use Rattle.paper.specs.Judge.{head_stage, offset_stage, count_stage, entry_stage, file_stage, has_mask, mask_head, mask_lines, mask_view, both_parts, both_pieces, all_pieces}
use Rattle.paper.specs.Tags.{Line, table}
use Rattle.paper.specs.declared.Verdict.{Verdict}
use Rattle.paper.proofs.Laws.{kept-all, kept-cond, T_true, or-false, or-both, some-append}
use Rattle.paper.proofs.Keeps.{rule13-kept, rule14-kept, mask-rule13-kept, mask-rule14-kept}
use Rattle.paper.specs.Asked.{in_part, on_list, Agree, no_piece, Within, InPiece, Repainted}
use Rattle.paper.proofs.Unseen.{in-part}

and-true : (a b : Bool) → T (a && b) → T a × T b
and-true true b t = (tt, t)
and-true false b t = (t, absurd t)

-- a byte in both parts
shared : (i : ℕ) (a b : Part) → T (in_part i a) → T (in_part i b) → shares a b ≡ true
unfolding shares
shared i a b s t =
    let s0 : a.start ≤ i = leb→le _ _ (and-true (leb a.start i) _ s).0 in
    let s1 : i < a.start + a.len = ltb→lt _ _ (and-true (leb a.start i) _ s).1 in
    let t0 : b.start ≤ i = leb→le _ _ (and-true (leb b.start i) _ t).0 in
    let t1 : i < b.start + b.len = ltb→lt _ _ (and-true (leb b.start i) _ t).1 in
    let u : max a.start b.start < min (a.start + a.len) (b.start + b.len) = omega arith in
    lt-ltb _ _ u

-- a part that shares no byte with any of a list has none on it
unshared : (i : ℕ) (a : Part) (ps : List Part) → some (shares a) ps ≡ false → T (in_part i a) → on_list i ps ≡ false
unfolding on_list some
unshared i a [] h t = refl
unshared i a (p ∷ ps) h t = go (in_part i p) refl (unshared i a ps (or-false (shares a p) _ h).1 t)
  where
    go : (b : Bool) → in_part i p ≡ b → on_list i ps ≡ false → on_list i (p ∷ ps) ≡ false
    go true e r =
        let x : shares a p ≡ true = shared i a p t (rw e tt) in
        let y : shares a p ≡ false = (or-false (shares a p) _ h).0 in
        cc
    go false e r = rw e r

-- what is read where a stage is kept is on no longer a list than where it is not asked
kept_less : (i : ℕ) (v : Verdict) (ps : List Part) → on_list i ps ≡ false → on_list i (where_kept v ps) ≡ false
unfolding on_list some
kept_less i v ps h = go (eqb v.number 0)
  where
    go : (b : Bool) → on_list i (cond b ps []) ≡ false
    go true = h
    go false = refl

-- what the stages of a directory let be read is within its whole list
directory-full : (tb : List Line) (f : List ℕ) (h : Head) (i : ℕ) → on_list i (directory_of (view_at tb f h)) ≡ false → on_list i (directory_parts tb f h) ≡ false
unfolding directory_parts on_list directory_of view_at some
directory-full tb f h i n =
    let b = or-false (in_part i (part h.at 2)) _ n in
    let c = or-false (in_part i (part h.at (dir_len (count_in f h)))) _ b.1 in
    kept_less i (offset_stage h) _
    (or-both _ _ b.0 (kept_less i (count_stage f h) _ (or-both _ _ c.0 (kept_less i (entry_stage f h) _ c.1))))

-- the whole list of a file: of both directories where there is a mask
unfoldable whole_list : List ℕ → List Part
whole_list f = full_of (view f) ++ cond (has_mask f) (directory_of (mask_view f)) []

-- of the mask, or nothing
mask-less : (f : List ℕ) (i : ℕ) → on_list i (cond (has_mask f) (directory_of (mask_view f)) []) ≡ false
    → on_list i (cond (has_mask f) (directory_parts (mask_lines f) f (mask_head f)) []) ≡ false
unfolding mask_view on_list some
mask-less f i n = go (has_mask f) refl
  where
    go : (b : Bool) → has_mask f ≡ b → on_list i (cond (has_mask f) (directory_parts (mask_lines f) f (mask_head f)) []) ≡ false
    go true e = rw e (directory-full (mask_lines f) f (mask_head f) i (rw e at n))
    go false e = rw e

-- the head of a file of any length
head-less : (n i : ℕ) → in_part i (part 0 8) ≡ false → in_part i (part 0 (min 8 n)) ≡ false
head-less n i y = go (in_part i (part 0 (min 8 n))) refl
  where
    go : (b : Bool) → in_part i (part 0 (min 8 n)) ≡ b → in_part i (part 0 (min 8 n)) ≡ false
    go true e =
        let l : i < 0 + min 8 n = ltb→lt _ _ (and-true (leb 0 i) (ltb i (0 + min 8 n)) (subst T (sym e) tt)).1 in
        let x : in_part i (part 0 8) ≡ true = T_true _ (in-part i (part 0 8) (omega arith) (omega arith)) in
        cc
    go false e = e

-- a file's reading list is within the whole one, which rule 14 tests
listed-full : (f : List ℕ) (i : ℕ) → on_list i (whole_list f) ≡ false → on_list i (reading_list f) ≡ false
unfolding reading_list on_list whole_list full_of full_list directory_of view some
listed-full f i h =
    let w = or-false _ _ (sym (some-append (in_part i) (full_of (view f)) _) ∙ h) in
    let a = or-false (in_part i (part 0 8)) _ w.0 in
    or-both _ _ (head-less (length f) i a.0)
    (some-append (in_part i) (where_kept (head_stage f) (directory_parts table f (head_in f))) _
    ∙ or-both _ _ (kept_less i (head_stage f) _ (directory-full table f (head_in f) i a.1)) (kept_less i (file_stage f) _ (mask-less f i w.1)))

-- ---- where the pieces of an accepted file lie

pub piece-within : (n : ℕ) (s : Piece) → bad_piece n s ≡ false → Within n s.place
unfolding bad_piece
piece-within n s h =
    let a = or-false (eqb s.place.len 0) _ h in
    let b = or-false (ltb s.place.start 8) _ a.1 in
    record { some = positive s.place.len (eqb-false _ _ a.0); low = ltb-false _ _ b.0; high = ltb-false _ _ b.1 }
  where
    positive : (k : ℕ) → (k ≡ 0 → ⊥) → 0 < k
    positive zero z = absurd (z refl)
    positive (suc k) z = suc-le-suc zero-le

-- two lists without a bad element
none-bad-both : {A : Type 0} (bad : A → Bool) (place : A → ℕ) (xs ys : List A) → first_bad bad place xs ≡ kept → first_bad bad place ys ≡ kept
    → first_bad bad place (xs ++ ys) ≡ kept
unfolding first_bad
none-bad-both bad place [] ys p q = q
none-bad-both bad place (x ∷ xs) ys p q = let k = kept-cond (bad x) (place x) _ p in rw k.0 (none-bad-both bad place xs ys k.1 q)

all-within : (f : List ℕ) → (verdict_of f).number ≡ 0 → rule13 (length f) (all_pieces f) ≡ kept
unfolding rule13 all_pieces first_bad
all-within f z = none-bad-both _ _ (pieces_of (view f)) _ (rule13-kept f z) (go (has_mask f) refl)
  where
    go : (b : Bool) → has_mask f ≡ b → rule13 (length f) (cond (has_mask f) (pieces_of (mask_view f)) []) ≡ kept
    go true e = rw e (mask-rule13-kept f z e)
    go false e = rw e

all-clear : (f : List ℕ) → (verdict_of f).number ≡ 0 → rule14 (whole_list f) (all_pieces f) ≡ kept
unfolding rule14 all_pieces whole_list both_parts both_pieces first_bad
all-clear f z = go (has_mask f) refl
  where
    go : (b : Bool) → has_mask f ≡ b → rule14 (whole_list f) (all_pieces f) ≡ kept
    go true e = rw e (mask-rule14-kept f z e)
    go false e = rw (e, append-nil (full_of (view f)), append-nil (pieces_of (view f))) (rule14-kept f z)

pub pieces-within : (f : List ℕ) → (verdict_of f).number ≡ 0 → (k : ℕ) → k < length (all_pieces f) → Within (length f) (get_or (all_pieces f) k no_piece).place
unfolding rule13
pieces-within f z k l = piece-within (length f) (get_or (all_pieces f) k no_piece) (kept-all _ _ (all_pieces f) no_piece (all-within f z) k l)

-- ---- and that none of their bytes is on the reading list

pub pieces-unread : (f : List ℕ) → (verdict_of f).number ≡ 0 → (k : ℕ) → k < length (all_pieces f) → (i : ℕ) → InPiece f k i
    → on_list i (reading_list f) ≡ false
unfolding rule14 touches
pieces-unread f z k l i t =
    listed-full f i (unshared i (get_or (all_pieces f) k no_piece).place (whole_list f) (kept-all _ _ (all_pieces f) no_piece (all-clear f z) k l) t)

-- a repainted file agrees with it on the reading list
pub repainted-agree : (f g : List ℕ) → (verdict_of f).number ≡ 0 → Repainted f g → Agree f g (reading_list f)
repainted-agree f g z r i t = r.elsewhere i none
  where
    none : (k : ℕ) → k < length (all_pieces f) → InPiece f k i → ⊥
    none k l s = subst T (pieces-unread f z k l i s) t
