-- Rules 13 and 14 over what was found of a directory are those over the view: the entries' parts that may lie outside them are the full reading list, and the
-- runs that two slots name are the offsets and the byte counts of the pieces. Assumes nothing.
use Rattle.std.specs.Prelude.{Result, Option, Some, None}
use Prim.Native.Nat.{ℕ, zero, suc, ◌+◌, ◌*◌, ◌≤◌, ◌<◌, zero-le, suc-le-suc}
use mathlib.Core.Path.{◌≡◌, refl, sym, ap, ◌∙◌, subst}
use mathlib.Core.Bool.{Bool, true, false, cond, not, ◌||◌}
use mathlib.Core.List.{List, [], ◌∷◌, ◌++◌, map}
use native.Mathlib.Nat.{one-mul}
use native.Mathlib.Omega.{arith}
use lib.Dec.{eqb, leb, ltb, lit<}
use lib.ListN.{length}
use borrow.Author.Tests.{eqb-true, le-ltb, ltb-true, lt-ltb, lt-leb, not-true, not-false}
use Rattle.outcomes.specs.Ruled.{ruled}
use Rattle.paper.specs.Bytes.{run, num, build}
use Rattle.paper.specs.Tests.{all, some, keep}
use Rattle.paper.proofs.Laws.{and-eq, and_both, or_same, or-false}
use Rattle.paper.specs.Layout.{dir_len, size_of, start_of, entry_of}
use Rattle.paper.specs.Tags.{Line, Held, named, table, in_table, fits_the_line, has, tiled, offsets_tag, byte_counts_tag, piece_count, rule10}
use Rattle.paper.proofs.Bounds.{table-named}
use Rattle.paper.specs.Pieces.{part}
use Rattle.paper.specs.declared.Outcome.TheVariants.{Kept as kept}
use Rattle.paper.specs.declared.Part.{Part}
use Rattle.paper.specs.declared.Entry.{Entry}
use Rattle.paper.specs.declared.Verdict.{Verdict}
use Rattle.paper.specs.Judge.{View, pieces_of, full_of, piece_rules}
use Rattle.layout.specs.Columns.{firsts}
use Rattle.layout.specs.Parts.{value_part}
use Rattle.layout.specs.Repeats.{entries_from}
use Rattle.layout.specs.declared.Further.{Further}
use Rattle.tags.specs.Index
use Rattle.tags.specs.Slots.{line_at, tag_at, slot_of_offsets, slot_of_byte_counts}
use Rattle.lines.specs.Lined.{line_tags}
use Rattle.lines.specs.Ready.{entries_at, held_at, at_slot, Ready, Behind}
use Rattle.lines.proofs.Slots.{slot, found-long}
use Rattle.tags.specs.Tagging.{view_of}
use Rattle.tags.specs.declared.Pictured.{Pictured}
use Rattle.tags.proofs.Slots.{slot_at, later-fit}
use Rattle.tags.proofs.Answers.{later-holds}
use Rattle.tags.proofs.Rules.{Lined, lined}
use Rattle.tags.proofs.Fetched.{short-len}
use Rattle.tags.proofs.Accepted.{Told, told, Accepted, accepted, PieceColumn}
use Rattle.pieces.specs.Gaps.{addable, Addable, wide, parts_of, named_at, named_parts}
use Rattle.pieces.specs.Spans.{span_of, places_judged, placed_of}
use Rattle.pieces.specs.declared.Span.{Span}
use Rattle.image.specs.Naming.{named_pieces, Named}
use Rattle.image.specs.Stages.{Fits, pieces_judged, placed_in, outer_of}
use Rattle.image.proofs.Naming.{numbers-of, named as named_by}
use Rattle.image.proofs.Listed.{later_parts, keep_append, columns-judged}

-- a list of parts with those that are chosen alone: none of the others counts
kept-chosen : (ps : ℕ → Part) (chosen : ℕ → Bool) (ks : List ℕ) → all (λ k. chosen k || not (wide (ps k))) ks ≡ true
    → keep wide (map ps (keep chosen ks)) ≡ keep wide (map ps ks)
unfolding all keep
kept-chosen ps chosen [] h = refl
kept-chosen ps chosen (k ∷ ks) h =
    let b = and-eq (chosen k || not (wide (ps k))) _ h in
    go (chosen k) refl b.0 (kept-chosen ps chosen ks b.1)
  where
    go : (t : Bool) → chosen k ≡ t → chosen k || not (wide (ps k)) ≡ true → keep wide (map ps (keep chosen ks)) ≡ keep wide (map ps ks)
        → keep wide (map ps (keep chosen (k ∷ ks))) ≡ keep wide (map ps (k ∷ ks))
    go true e o r = rw e (ap (λ (zs : List Part). cond (wide (ps k)) (ps k ∷ zs) zs) r)
    go false e o r = let w : wide (ps k) ≡ false = not-true _ (rw e at o) in rw (e, w) r

-- the slots whose parts may lie outside an entry, with a and b for the pieces
chosen : ℕ → ℕ → ℕ → Bool
chosen a b k = eqb k Index.bits || (eqb k a || (eqb k b || leb Index.scale k))

-- parts of which each is low
addable-each : (es : List Entry) → ((k : ℕ) → k < length es → addable (value_part (at_slot es k)) ≡ true) → Addable (map value_part es)
unfolding all
addable-each [] h = refl
addable-each (e ∷ es) h = and_both _ _ (h 0 (suc-le-suc zero-le)) (addable-each es (λ k l. h (suc k) (suc-le-suc l)))

-- a part that lies in a file is
inside-addable : (n : ℕ) (p : Part) → p.start + p.len ≤ n → n ≤ 4294967295 → addable p ≡ true
inside-addable n p w s = and_both _ _ (lt-ltb p.start 68719476736 (omega arith)) (lt-ltb p.len 68719476736 (omega arith))

-- and so are those that the pass over the places is handed
outer-addable : (es : List Entry) (a b : ℕ) (dir : Part) → ((k : ℕ) → k < Index.many → addable (value_part (at_slot es k)) ≡ true)
    → a < Index.many → b < Index.many → addable dir ≡ true → Addable (outer_of es a b dir)
unfolding outer_of all
outer-addable es a b dir h la lb q =
    rw (
      h Index.bits (lit< tt),
      h a la,
      h b lb,
      h Index.scale (lit< tt),
      h Index.tiepoint (lit< tt),
      h Index.matrix (lit< tt),
      h Index.key_directory (lit< tt),
      h Index.doubles (lit< tt),
      h Index.characters (lit< tt),
      h Index.metadata (lit< tt),
      q,
    )

-- ---- the parts that entries of BYTEs name

-- one such entry: a value of more than 4 bytes starts at the offset
module _ (big : Bool) (start : ℕ) (s : List ℕ) where
  abbrev Read : ℕ → Entry
  Read j = entry_of big start s (12 * j)

  byte-part : (j : ℕ) (rest : List Part) → fits_the_line (line_at Index.metadata) (Read j) ≡ true
      → cond (wide (named_at big s j)) (named_at big s j ∷ rest) rest ≡ cond (wide (value_part (Read j))) (value_part (Read j) ∷ rest) rest
  unfolding wide named_at entry_of start_of fits_the_line line_at table size_of
  byte-part j rest fit =
      let t : num big 2 s (12 * j + 2) ≡ 1 = eqb-true _ _ (or_same _ (and-eq (eqb (num big 2 s (12 * j + 2)) 1 || eqb (num big 2 s (12 * j + 2)) 1) _ fit).0) in
      rw (t, one-mul (num big 4 s (12 * j + 4))) (go (ltb 4 (num big 4 s (12 * j + 4))) refl)
    where
      Count : ℕ
      Count = num big 4 s (12 * j + 4)

      Offset : ℕ
      Offset = num big 4 s (12 * j + 8)

      go : (b : Bool) → ltb 4 Count ≡ b
          → cond (ltb 4 Count) (part Offset Count ∷ rest) rest ≡ cond (ltb 4 Count) (part (cond (leb Count 4) (start + (12 * j + 8)) Offset) Count ∷ rest) rest
      go true e = rw (e, lt-leb Count 4 (ltb-true 4 Count e))
      go false e = rw e

  byte-parts : (i m : ℕ) → some (λ e. not (fits_the_line (line_at Index.metadata) e)) (build Read i m) ≡ false
      → keep wide (build (named_at big s) i m) ≡ keep wide (map value_part (build Read i m))
  unfolding build some keep
  byte-parts i zero h = refl
  byte-parts i (suc m) h =
      let o = or-false (not (fits_the_line (line_at Index.metadata) (Read i))) _ h in
      ap (λ (rest : List Part). cond (wide (named_at big s i)) (named_at big s i ∷ rest) rest) (byte-parts (suc i) m o.1)
      ∙ byte-part i (keep wide (map value_part (build Read (suc i) m))) (not-false _ o.0)

named-are : (big : Bool) (start many : ℕ) (s : List ℕ) {es : List Entry} → entries_from big start s many ≡ es
    → some (λ e. not (fits_the_line (line_at Index.metadata) e)) es ≡ false → named_parts big s many ≡ keep wide (map value_part es)
unfolding entries_from named_parts
named-are big start many s is h =
    byte-parts big start s 0 many (ap (some (λ e. not (fits_the_line (line_at Index.metadata) e))) is ∙ h) ∙ ap (λ (xs : List Entry). keep wide (map value_part xs)) is

-- the further entries of 50909 are BYTEs, so that the parts which they name are those of their values
pub later-named : {f : List ℕ} {big : Bool} {at c : ℕ} {found : List Entry} {r : Further} → Ready table f big at c found
    → Behind f big at c r → rule10 table (held_at table f big at c) ≡ kept
    → named_parts big (run f r.start (12 * r.many)) r.many ≡ keep wide (later_parts (entries_at f big at c))
unfolding later_parts entries_at
later-named {f} {big} {at} {c} {r = r} k w ten =
    let h = later-holds k w in
    named-are big r.start r.many (run f r.start (12 * r.many)) h.are (later-fit f big at c ten)

-- the values of the entries lie in the file
pub parts-addable : {tb : List Line} {f : List ℕ} {big : Bool} {at c : ℕ} {found : List Entry} → Ready tb f big at c found → all named tb ≡ true
    → Addable (map value_part found)
unfolding line_tags
parts-addable {tb} {f} {big} {at} {c} {found} k names = addable-each found low
  where
    low : (j : ℕ) → j < length found → addable (value_part (at_slot found j)) ≡ true
    low j h = inside-addable (length f) _ (slot k names j (subst (λ (n : ℕ). j < n) (found-long k) h)).within k.size

module _ {f : List ℕ} {big : Bool} {at c : ℕ} {t : Pictured} {found : List Entry} {r : Further} (p : Fits f big at c t found r) where
  abbrev Looked : View
  Looked = view_of table f big at c

  -- the entry of slot k
  abbrev Of : ℕ → Entry
  Of k = at_slot found k

  picture : Told f big at c t
  picture = told f big at c t p.pictured

  known : Accepted f big at c found
  known = accepted f big at c found p.passed.ready picture.zero

  pub slot-within : (k : ℕ) → k < Index.many → (at_slot found k).start + (at_slot found k).len ≤ length f
  slot-within k h = (slot_at p.passed.ready k h).within

  -- a tag with one SHORT or LONG has its value in its entry
  short-slot : (k : ℕ) → k < Index.many → size_of (line_at k).type ≤ 4 → size_of (line_at k).other ≤ 4 → (line_at k).most ≡ 1 → (Of k).len ≤ 4
  unfolding line_at tag_at table
  short-slot k h a b m = short-len (slot_at p.passed.ready k h) one a b
    where
      Upto : ℕ → Type 0
      Upto n = Lined (held_at table f big at c) (tag_at k) (line_at k).type (line_at k).other (line_at k).least n

      one : has (tag_at k) (held_at table f big at c) ≡ true → Upto 1
      one q = subst (λ (n : ℕ). Upto n) m (lined table table-named (held_at table f big at c) known.ten k h q)

  -- so the parts that count are among the outer ones
  abbrev Reach : ℕ → Part
  Reach k = value_part (at_slot found k)

  short-part : (k : ℕ) → (Of k).len ≤ 4 → wide (Reach k) ≡ false
  unfolding wide
  short-part k h = le-ltb 4 (Of k).len h

  short : (k : ℕ) → k < Index.many → size_of (line_at k).type ≤ 4 → size_of (line_at k).other ≤ 4 → (line_at k).most ≡ 1 → wide (Reach k) ≡ false
  short k h a b m = short-part k (short-slot k h a b m)

  -- and a tag of the family that is absent has no bytes
  none-part : (k : ℕ) → (Of k).len ≡ 0 → wide (Reach k) ≡ false
  none-part k z = short-part k (omega arith)

  -- the parts of the head and of the directory
  abbrev Ends : List Part
  Ends = part 0 8 ∷ part at (dir_len c) ∷ []

  parts_at : (v : Bool) → v ≡ tiled (held_at table f big at c)
      → parts_of (outer_of found (slot_of_offsets v) (slot_of_byte_counts v) (part at (dir_len c)))
      ≡ parts_of (map Reach (build (λ k. k) 0 Index.many)) ++ keep wide Ends
  unfolding parts_of build outer_of line_at tag_at table size_of slot_of_offsets slot_of_byte_counts all keep chosen
  parts_at v e = go v e known.no_offsets known.no_byte_counts
    where
      short0 : wide (Reach Index.width) ≡ false
      short0 = short Index.width (lit< tt) (omega arith) (omega arith) refl

      short1 : wide (Reach Index.length) ≡ false
      short1 = short Index.length (lit< tt) (omega arith) (omega arith) refl

      short3 : wide (Reach Index.compression) ≡ false
      short3 = short Index.compression (lit< tt) (omega arith) (omega arith) refl

      short4 : wide (Reach Index.photometric) ≡ false
      short4 = short Index.photometric (lit< tt) (omega arith) (omega arith) refl

      short6 : wide (Reach Index.samples) ≡ false
      short6 = short Index.samples (lit< tt) (omega arith) (omega arith) refl

      short7 : wide (Reach Index.rows_per_strip) ≡ false
      short7 = short Index.rows_per_strip (lit< tt) (omega arith) (omega arith) refl

      short9 : wide (Reach Index.planar) ≡ false
      short9 = short Index.planar (lit< tt) (omega arith) (omega arith) refl

      short10 : wide (Reach Index.tile_width) ≡ false
      short10 = short Index.tile_width (lit< tt) (omega arith) (omega arith) refl

      short11 : wide (Reach Index.tile_length) ≡ false
      short11 = short Index.tile_length (lit< tt) (omega arith) (omega arith) refl

      -- those of the chosen slots, with the ends behind them
      joined : (ks : List ℕ) → keep wide (map Reach ks) ≡ keep wide (map Reach (build (λ k. k) 0 Index.many))
          → keep wide (map Reach ks ++ Ends) ≡ keep wide (map Reach (build (λ k. k) 0 Index.many)) ++ keep wide Ends
      joined ks same = keep_append wide (map Reach ks) Ends ∙ ap (λ (ps : List Part). ps ++ keep wide Ends) same

      go : (v : Bool) → v ≡ tiled (held_at table f big at c) → (Of (slot_of_offsets (not (tiled (held_at table f big at c))))).len ≡ 0
          → (Of (slot_of_byte_counts (not (tiled (held_at table f big at c))))).len ≡ 0
          → parts_of (outer_of found (slot_of_offsets v) (slot_of_byte_counts v) (part at (dir_len c)))
          ≡ parts_of (map Reach (build (λ k. k) 0 Index.many)) ++ keep wide Ends
      go true e x y =
          joined (keep (chosen Index.tile_offsets Index.tile_byte_counts) (build (λ k. k) 0 Index.many))
          (kept-chosen Reach (chosen Index.tile_offsets Index.tile_byte_counts) (build (λ k. k) 0 Index.many)
          (rw (short0, short1, short3, short4, none-part Index.strip_offsets (rw (← e) at x), short6, short7, none-part Index.strip_byte_counts (rw (← e) at y), short9, short10, short11)))
      go false e x y =
          joined (keep (chosen Index.strip_offsets Index.strip_byte_counts) (build (λ k. k) 0 Index.many))
          (kept-chosen Reach (chosen Index.strip_offsets Index.strip_byte_counts) (build (λ k. k) 0 Index.many)
          (rw (short0, short1, short3, short4, short6, short7, short9, short10, short11, none-part Index.tile_offsets (rw (← e) at x), none-part Index.tile_byte_counts (rw (← e) at y))))

  low : (k : ℕ) → k < Index.many → addable (value_part (at_slot found k)) ≡ true
  low k h = inside-addable (length f) _ (slot-within k h) p.passed.ready.size

  -- the parts of all slots
  all-parts : map Reach (build (λ k. k) 0 Index.many) ≡ map value_part (firsts (line_tags table) (entries_at f big at c))
  unfolding build firsts line_tags table
  all-parts = ap (λ (es : List Entry). map (λ k. value_part (at_slot es k)) (build (λ k. k) 0 Index.many)) p.passed.ready.found_are

  abbrev Front : List Part
  Front = keep wide (later_parts (entries_at f big at c))

  -- the pieces, whose offsets have slot x and byte counts slot y
  module _ {x y : ℕ} (is_x : x ≡ slot_of_offsets t.tiled) (is_y : y ≡ slot_of_byte_counts t.tiled) where
    abbrev Hs : List Held
    Hs = held_at table f big at c

    abbrev Column : ℕ → ℕ → Type 0
    Column u k = PieceColumn f Hs found (piece_count big Hs) u k

    offsets : Column (offsets_tag Hs) x
    offsets = subst (Column (offsets_tag Hs)) (sym (is_x ∙ ap slot_of_offsets picture.tiled_is)) known.offsets

    byte_counts : Column (byte_counts_tag Hs) y
    byte_counts = subst (Column (byte_counts_tag Hs)) (sym (is_y ∙ ap slot_of_byte_counts picture.tiled_is)) known.byte_counts

    pub pieces-named : Named table f big at c (at_slot found x) (at_slot found y)
    pieces-named = named_by table big at c p.passed.ready.size (numbers-of offsets) (numbers-of byte_counts)

    outer-parts : parts_of (outer_of found x y (part at (dir_len c))) ≡ parts_of (map value_part (firsts (line_tags table) (entries_at f big at c))) ++ keep wide Ends
    outer-parts =
        (λ i. parts_of (outer_of found ((is_x ∙ ap slot_of_offsets picture.tiled_is) i) ((is_y ∙ ap slot_of_byte_counts picture.tiled_is) i) (part at (dir_len c))))
        ∙ parts_at (tiled Hs) refl
        ∙ ap (λ (ps : List Part). parts_of ps ++ keep wide Ends) all-parts

    pub outer-low : x < Index.many → y < Index.many → (directory : Part) → directory.start + directory.len ≤ length f → Addable (outer_of found x y directory)
    outer-low lx ly directory w = outer-addable found x y directory low lx ly (inside-addable (length f) directory w p.passed.ready.size)

    -- what the pass over the places answers, of the view
    module _ {fs : List ℕ} (is_f : fs ≡ run f r.start (12 * r.many)) {ps : List Part} (is-ps : ps ≡ outer_of found x y (part at (dir_len c))) where
      verdict-seen : places_judged (length f) (named_parts big fs r.many ++ parts_of ps) (named_pieces f big (at_slot found x) (at_slot found y)) ≡ pieces_judged Looked
      unfolding pieces_judged piece_rules full_of view_of entries_at held_at line_tags table in_table some
      verdict-seen =
          let texts : named_parts big fs r.many ≡ Front =
          ap (λ (s : List ℕ). named_parts big s r.many) is_f ∙ later-named p.passed.ready p.passed.behind known.ten in
          (λ i. places_judged (length f) (texts i ++ (ap parts_of is-ps ∙ outer-parts) i) (pieces-named.places i))
          ∙ columns-judged table refl f big at c (run f at (dir_len c)) p.passed.behind.six (length f) (pieces_of Looked)

      pub pieces-seen : (spanned : Bool) {w : Result (Option Span) Verdict}
          → w ≡ placed_of spanned (length f) (named_parts big fs r.many ++ parts_of ps) (named_pieces f big (at_slot found x) (at_slot found y))
          → w ≡ placed_in spanned Looked
      unfolding placed_of placed_in
      pieces-seen spanned e = e ∙ (λ i. ruled (verdict-seen i) (cond spanned (Some (span_of (pieces-named.places i))) None))
