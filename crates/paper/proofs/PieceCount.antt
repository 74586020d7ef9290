-- An accepted file has as many pieces as its size asks for, and at least one; its offsets and its byte counts are as many. Assumes nothing.
use Prim.Native.Nat.{ℕ, zero, suc, ◌+◌, ◌-◌, ◌*◌, ◌/◌, ◌%◌, ◌≤◌, ◌<◌, zero-le, suc-le-suc}
use mathlib.Core.Path.{◌≡◌, refl, sym, ap, ap₂, ◌∙◌, subst}
use mathlib.Core.Bool.{Bool, true, false, not, ◌||◌, ◌&&◌, true≢false, false≢true}
use mathlib.Core.List.{List, [], ◌∷◌}
use mathlib.Core.Logic.{inl, inr}
use native.Mathlib.Nat.{zero-add, mul-pos, div-add-mod, mod-lt}
use native.Mathlib.Omega.{arith}
use lib.Dec.{eqb, leb, ltb, lit<}
use lib.ListN.{length, get_or}
use borrow.Author.Tests.{eqb-true, leb-true, ltb-true, not-false}
use Rattle.paper.specs.Bytes.{num, elems}
use Rattle.paper.specs.Tests.{some, between, allows}
use Rattle.paper.specs.Layout.{size_of}
use Rattle.paper.specs.Tag
use Rattle.paper.specs.Tags.{Line, Held, table, sixteens, find, bytes_of, count_of, values_of, value_of, strip_tags, tile_tags, has_some, tiled, offsets_tag, byte_counts_tag}
use Rattle.paper.specs.Tags.{rounded_up, piece_count, rule27, disallowed, rule11, rule12}
use Rattle.paper.specs.Pieces.{Piece, place_at, places_of, pieces}
use Rattle.paper.specs.Judge.{view, verdict_of, head_in, view_at, pieces_of}
use Rattle.paper.specs.Asked.{no_piece}
use Rattle.paper.specs.Shown.{has_tag, value_in, tag_count, pieces_in, Rounded, PieceHolds, StripsHold, TilesHold, PiecesHold}
use Rattle.paper.proofs.Laws.{and-eq, breaks-kept, kept-all, all-at, length-build, get_or-build}
use Rattle.paper.proofs.Codec.{length_elems, get_or-elems}
use Rattle.paper.proofs.Keeps.{rule27-kept, rule11-kept, rule12-kept}
use Rattle.paper.proofs.Bounds.{no_line}
use Rattle.paper.proofs.Kept.{among, has-none}
use Rattle.paper.proofs.Values.{nand, each-kept, line_at, has_line, present-count, present-number, present-value, needed}

-- ---- numbers

rounded-by : (a b n r : ℕ) → b * n + r ≡ a + (b - 1) → r < b → (a ≤ n * b) × (n * b < a + b)
rounded-by a b n r e l = (omega arith, omega arith)

pub rounded : (a b : ℕ) → 0 < b → Rounded a b (rounded_up a b)
unfolding rounded_up
rounded a b p =
    let x : ℕ = a + (b - 1) in
    let both = rounded-by a b (x / b) (x % b) (div-add-mod x b) (mod-lt x p) in
    record { is = refl; enough = both.0; least = both.1 }

-- something takes at least one
rounded-some : (a b n : ℕ) → 1 ≤ a → Rounded a b n → 0 < n
rounded-some a b zero p r = let l : a ≤ 0 * b = r.enough in absurd (omega arith)
rounded-some a b (suc n) p r = suc-le-suc zero-le

-- the least of a range
from-least : (a b v : ℕ) → allows (between a b ∷ []) v ≡ true → a ≤ v
unfolding allows some
from-least a b v h = go (leb a v) refl
  where
    go : (x : Bool) → leb a v ≡ x → a ≤ v
    go true p = leb-true a v p
    go false p = absurd (false≢true (rw p at h))

-- ---- strips or tiles

one-family : (s t : Bool) → (s && t) || (not s && not t) ≡ false → s ≡ not t
one-family true true h = absurd (true≢false h)
one-family true false h = refl
one-family false true h = refl
one-family false false h = absurd (true≢false h)

module _ (f : List ℕ) (z : (verdict_of f).number ≡ 0) where
  -- the number that it holds is allowed
  allowed : (i : ℕ) → i < length table → has_line f i ≡ true → 1 ≤ (line_at i).least → (line_at i).values (value_in f (line_at i).tag) ≡ true
  unfolding rule11 disallowed values_of
  allowed i l p one =
      let tag : ℕ = (line_at i).tag in
      let w : ℕ = size_of (find tag (view f).held).entry.typ in
      let k : ℕ = count_of tag (view f).held in
      let s = bytes_of tag (view f).held in
      let some : 0 < k = omega (arith, (present-count f z i l p).0) in
      let good = nand (has_line f i) _ (kept-all (disallowed (head_in f).big (view f).held) (λ (x : Line). x.tag) table no_line (rule11-kept f z) i l) p in
      let at : 0 < length (elems (head_in f).big w k s) = subst (λ (n : ℕ). 0 < n) (sym (length_elems (head_in f).big w k s)) some in
      subst (λ (v : ℕ). (line_at i).values v ≡ true) (get_or-elems (head_in f).big w k s 0 some ∙ present-number f z i 0 l p some)
      (all-at (line_at i).values (elems (head_in f).big w k s) 0 good 0 at)

  -- ---- the sizes are at least 1

  abbrev Tiled : Bool
  Tiled = tiled (view f).held

  width_some : 1 ≤ value_in f Tag.width
  unfolding table
  width_some = from-least 1 1000000 _ (allowed 0 (lit< tt) (needed f z 0 (lit< tt) refl) (lit< tt))

  length_some : 1 ≤ value_in f Tag.length
  unfolding table
  length_some = from-least 1 1000000 _ (allowed 1 (lit< tt) (needed f z 1 (lit< tt) refl) (lit< tt))

  rows-some : Tiled ≡ false → 0 < value_in f Tag.rows_per_strip
  unfolding table
  rows-some n = from-least 1 4294967295 _ (allowed 7 (lit< tt) (needed f z 7 (lit< tt) (ap not n)) (lit< tt))

  tile_width-some : Tiled ≡ true → 0 < value_in f Tag.tile_width
  unfolding table sixteens
  tile_width-some y = ltb-true 0 _ (and-eq (ltb 0 (value_in f Tag.tile_width)) _ (allowed 10 (lit< tt) (needed f z 10 (lit< tt) y) (lit< tt))).0

  tile_length-some : Tiled ≡ true → 0 < value_in f Tag.tile_length
  unfolding table sixteens
  tile_length-some y = ltb-true 0 _ (and-eq (ltb 0 (value_in f Tag.tile_length)) _ (allowed 11 (lit< tt) (needed f z 11 (lit< tt) y) (lit< tt))).0

  -- ---- the counts

  -- there are as many pieces as offsets
  as-offsets : pieces_in f ≡ tag_count f (offsets_tag (view f).held)
  unfolding pieces_of pieces places_of
  as-offsets = length-build (place_at _ _ _ _ _) 0 (tag_count f (offsets_tag (view f).held))

  counts : (tag_count f (offsets_tag (view f).held) ≡ piece_count (head_in f).big (view f).held)
      × (tag_count f (byte_counts_tag (view f).held) ≡ piece_count (head_in f).big (view f).held)
  unfolding rule12
  counts =
      let n : ℕ = piece_count (head_in f).big (view f).held in
      let a = breaks-kept (not (eqb (tag_count f (offsets_tag (view f).held)) n)) (offsets_tag (view f).held) (each-kept _ (rule12-kept f z) 2) in
      let b = breaks-kept (not (eqb (tag_count f (byte_counts_tag (view f).held)) n)) (byte_counts_tag (view f).held) (each-kept _ (rule12-kept f z) 3) in
      (eqb-true _ _ (not-false _ a), eqb-true _ _ (not-false _ b))

  -- the piece at k, as it was made
  piece-at : (k : ℕ) → k < pieces_in f
      → get_or (pieces_of (view f)) k no_piece
      ≡ place_at (head_in f).big
      (size_of (find (offsets_tag (view f).held) (view f).held).entry.typ)
      (bytes_of (offsets_tag (view f).held) (view f).held)
      (size_of (find (byte_counts_tag (view f).held) (view f).held).entry.typ)
      (bytes_of (byte_counts_tag (view f).held) (view f).held) k
  unfolding pieces_of pieces places_of view view_at
  piece-at k h =
      get_or-build (place_at _ _ _ _ _) no_piece 0 (tag_count f (offsets_tag (view f).held)) k (subst (λ (n : ℕ). k < n) as-offsets h)
      ∙ ap (place_at _ _ _ _ _) (zero-add k)

  -- by the two lines of the table that say where the pieces are
  piece-holds : (o b k : ℕ) → o < length table → b < length table → offsets_tag (view f).held ≡ (line_at o).tag → byte_counts_tag (view f).held ≡ (line_at b).tag
      → has_line f o ≡ true → has_line f b ≡ true → tag_count f (line_at o).tag ≡ pieces_in f → tag_count f (line_at b).tag ≡ pieces_in f
      → k < pieces_in f → PieceHolds f (line_at o).tag (line_at b).tag k
  unfolding place_at
  piece-holds o b k lo lb so sb ho hb co cb h =
      let is = piece-at k h in
      let start = present-number f z o k lo ho (subst (λ (n : ℕ). k < n) (sym co) h) in
      let len = present-number f z b k lb hb (subst (λ (n : ℕ). k < n) (sym cb) h) in
      record {
        index = ap (λ (p : Piece). p.index) is;
        start =
            ap (λ (p : Piece). p.place.start) is
            ∙ (λ d. let e : Held = find (so d) (view f).held in num (head_in f).big (size_of e.entry.typ) e.bytes (size_of e.entry.typ * k))
            ∙ start;
        len =
            ap (λ (p : Piece). p.place.len) is
            ∙ (λ d. let e : Held = find (sb d) (view f).held in num (head_in f).big (size_of e.entry.typ) e.bytes (size_of e.entry.typ * k))
            ∙ len;
      }

  length_is : value_of (head_in f).big Tag.length (view f).held ≡ value_in f Tag.length
  unfolding table
  length_is = present-value f z 1 (lit< tt) (needed f z 1 (lit< tt) refl) (lit< tt)

  in-strips : Tiled ≡ false → StripsHold f
  unfolding table piece_count among some
  in-strips n =
      let count : ℕ = rounded_up (value_in f Tag.length) (value_in f Tag.rows_per_strip) in
      let rows : value_of (head_in f).big Tag.rows_per_strip (view f).held ≡ value_in f Tag.rows_per_strip =
      present-value f z 7 (lit< tt) (needed f z 7 (lit< tt) (ap not n)) (lit< tt) in
      let is : piece_count (head_in f).big (view f).held ≡ count = rw n (ap₂ rounded_up length_is rows) in
      let offsets : tag_count f Tag.strip_offsets ≡ pieces_in f = rw n at (sym as-offsets) in
      let many : tag_count f Tag.strip_offsets ≡ count = rw n at (counts.0 ∙ is) in
      let also : tag_count f Tag.strip_byte_counts ≡ count = rw n at (counts.1 ∙ is) in
      let there : has_tag f Tag.strip_offsets ≡ true = needed f z 5 (lit< tt) (ap not n) in
      let byte_counts : tag_count f Tag.strip_byte_counts ≡ pieces_in f = also ∙ sym many ∙ offsets in
      record {
        strips = there;
        no_tiles = has-none tile_tags (view f).held Tag.tile_offsets n refl;
        many =
            subst (Rounded (value_in f Tag.length) (value_in f Tag.rows_per_strip)) (sym many ∙ offsets)
            (rounded (value_in f Tag.length) (value_in f Tag.rows_per_strip) (rows-some n));
        offsets = offsets;
        byte_counts = byte_counts;
        each = λ k h. piece-holds 5 8 k (lit< tt) (lit< tt) (rw n) (rw n) there (needed f z 8 (lit< tt) (ap not n)) offsets byte_counts h;
      }

  no-strip : Tiled ≡ true → has_some strip_tags (view f).held ≡ false
  unfolding rule27
  no-strip y = one-family (has_some strip_tags (view f).held) Tiled (breaks-kept _ 0 (rule27-kept f z)) ∙ ap not y

  in-tiles : Tiled ≡ true → TilesHold f
  unfolding table piece_count among some
  in-tiles y =
      let across : ℕ = rounded_up (value_in f Tag.width) (value_in f Tag.tile_width) in
      let down : ℕ = rounded_up (value_in f Tag.length) (value_in f Tag.tile_length) in
      let width_is : value_of (head_in f).big Tag.width (view f).held ≡ value_in f Tag.width =
      present-value f z 0 (lit< tt) (needed f z 0 (lit< tt) refl) (lit< tt) in
      let columns : value_of (head_in f).big Tag.tile_width (view f).held ≡ value_in f Tag.tile_width =
      present-value f z 10 (lit< tt) (needed f z 10 (lit< tt) y) (lit< tt) in
      let rows : value_of (head_in f).big Tag.tile_length (view f).held ≡ value_in f Tag.tile_length =
      present-value f z 11 (lit< tt) (needed f z 11 (lit< tt) y) (lit< tt) in
      let is : piece_count (head_in f).big (view f).held ≡ across * down =
      rw y (ap₂ (λ (a b : ℕ). a * b) (ap₂ rounded_up width_is columns) (ap₂ rounded_up length_is rows)) in
      let offsets : tag_count f Tag.tile_offsets ≡ pieces_in f = rw y at (sym as-offsets) in
      let many : tag_count f Tag.tile_offsets ≡ across * down = rw y at (counts.0 ∙ is) in
      let also : tag_count f Tag.tile_byte_counts ≡ across * down = rw y at (counts.1 ∙ is) in
      let there : has_tag f Tag.tile_offsets ≡ true = needed f z 12 (lit< tt) y in
      let byte_counts : tag_count f Tag.tile_byte_counts ≡ pieces_in f = also ∙ sym many ∙ offsets in
      record {
        tiles = there;
        no_strips = has-none strip_tags (view f).held Tag.strip_offsets (no-strip y) refl;
        across = across;
        down = down;
        many_across = rounded (value_in f Tag.width) (value_in f Tag.tile_width) (tile_width-some y);
        many_down = rounded (value_in f Tag.length) (value_in f Tag.tile_length) (tile_length-some y);
        many = sym offsets ∙ many;
        offsets = offsets;
        byte_counts = byte_counts;
        each = λ k h. piece-holds 12 13 k (lit< tt) (lit< tt) (rw y) (rw y) there (needed f z 13 (lit< tt) y) offsets byte_counts h;
      }

  pub pieces-hold : PiecesHold f
  pieces-hold = go Tiled refl
    where
      go : (b : Bool) → Tiled ≡ b → PiecesHold f
      go false p =
          let s = in-strips p in
          record { kind = inl s; some = rounded-some _ _ (pieces_in f) length_some s.many }
      go true p =
          let s = in-tiles p in
          let x : 0 < s.across = rounded-some _ _ s.across width_some s.many_across in
          let y : 0 < s.down = rounded-some _ _ s.down length_some s.many_down in
          record { kind = inr s; some = subst (λ (n : ℕ). 0 < n) (sym s.many) (mul-pos x y) }
