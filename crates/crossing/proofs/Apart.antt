-- Which pictures share a byte with which lists: what was found of the two directories with their ends is both reading lists, and rules 13 and 14 of a mask
-- by the three tests that are left. Assumes nothing.
use Rattle.std.proofs.Common.{◌≡◌, ℕ, ◌*◌, ◌<◌, Bool, true, false, cond, ◌||◌, List, [], ◌∷◌, ◌++◌, map, length, Ok, Err, refl, sym, ap, ap₂, ◌∙◌, take, arith, lt-ltb}
use Rattle.std.proofs.lemmas.List.{take-map}
use mathlib.Core.Bool.{or-false, or-true}
use Rattle.outcomes.proofs.Ruled.{found-ruled, broken-ruled}
use Rattle.paper.specs.Bytes.{run}
use Rattle.paper.specs.Tests.{all, some, keep}
use Rattle.paper.specs.Outcome.{first, ◌▸◌}
use Rattle.paper.specs.Layout.{dir_len}
use Rattle.paper.specs.Tags.{Line, table, mask_table, in_table, named}
use Rattle.paper.specs.Pieces.{part, Piece, shares, full_list, touches, rule13, rule14}
use Rattle.paper.specs.Judge.{View, pieces_of, directory_of, full_of}
use Rattle.paper.specs.declared.Entry.{Entry}
use Rattle.paper.specs.declared.Outcome.{Outcome}
use Rattle.paper.specs.declared.Outcome.TheVariants.{Kept as kept, Broken as broken}
use Rattle.paper.specs.declared.Part.{Part}
use Rattle.paper.specs.declared.Verdict.{Verdict}
use Rattle.paper.proofs.Laws.{some-append, and-eq, and_both}
use Rattle.paper.proofs.Bounds.{table-named}
use Rattle.layout.specs.Parts.{value_part}
use Rattle.layout.specs.declared.Further.{Further}
use Rattle.lines.specs.Lined.{line_tags}
use Rattle.lines.specs.Ready.{entries_at, held_at, Ready}
use Rattle.lines.proofs.Slots.{found-long}
use Rattle.tags.specs.Index
use Rattle.tags.specs.Tagging.{view_of}
use Rattle.tags.specs.declared.Size.{Size}
use Rattle.tags.proofs.Answers.{later-holds}
use Rattle.pieces.specs.Gaps.{addable, Addable, wide, parts_of, named_parts}
use Rattle.pieces.specs.Spans.{span_of, within_of}
use Rattle.pieces.specs.declared.Span.{Span}
use Rattle.pieces.proofs.Listed.{low-cut}
use Rattle.pieces.proofs.Passing.{fourteen-is}
use Rattle.mask.specs.Masking.{numbered}
use Rattle.image.proofs.Listed.{some_or, keep_append, list-with, list-without}
use Rattle.image.proofs.Placing.{later-named, parts-addable}
use Rattle.crossing.specs.declared.Picture.{Picture}
use Rattle.crossing.specs.Pictures.{mask_many, shown, directory_part, places_in, Image, Mask, pictures_of, Spanned, Listed, Inside, mask_list, both_lists}

-- ---- lists in two parts

-- lists that say the same of each place say the same of all
touched-same : (ps qs : List Part) → ((a : Part) → some (shares a) ps ≡ some (shares a) qs) → (ss : List Piece) → some (touches ps) ss ≡ some (touches qs) ss
unfolding touches
touched-same ps qs h ss = λ i. some (λ (s : Piece). h s.place i) ss

touched-append : (ps qs : List Part) (ss : List Piece) → some (touches (ps ++ qs)) ss ≡ some (touches ps) ss || some (touches qs) ss
unfolding touches
touched-append ps qs ss = (λ i. some (λ (s : Piece). some-append (shares s.place) ps qs i) ss) ∙ some_or (touches ps) (touches qs) ss

-- ---- the lists, as the test of the places is handed them

low-append : (ps qs : List Part) → Addable ps → Addable qs → Addable (ps ++ qs)
unfolding all
low-append [] qs h k = k
low-append (p ∷ ps) qs h k =
    let b = and-eq (addable p) _ h in
    and_both (addable p) _ b.0 (low-append ps qs b.1 k)

low-cons : (p : Part) (ps : List Part) → p.start < 68719476736 → p.len < 68719476736 → Addable ps → Addable (p ∷ ps)
unfolding all
low-cons p ps a b h = and_both (addable p) _ (and_both _ _ (lt-ltb p.start 68719476736 a) (lt-ltb p.len 68719476736 b)) h

-- so are the first of what was found
pub low-taken : (es : List Entry) (k : ℕ) → Addable (map value_part es) → Addable (map value_part (take k es))
low-taken es k h = rw take-map at (low-cut (map value_part es) k h)

module _ {m : ℕ} {p : Picture} (l : Listed m p) where
  end-low : Addable (directory_part p.directory ∷ [])
  unfolding all
  end-low =
      let h = l.low in
      let k = l.few in
      low-cons (directory_part p.directory) [] (omega arith) (omega arith) refl

  pub own-low : Addable (map value_part p.found.now ++ directory_part p.directory ∷ [])
  own-low = low-append (map value_part p.found.now) _ l.addable end-low

  -- both, where what was found of either table's tags is any parts that are low
  pub both-low : {n : ℕ} {i : Picture} → Listed n i → (xs ys : List Part) → Addable xs → Addable ys
      → Addable (xs ++ (ys ++ part 0 8 ∷ directory_part i.directory ∷ directory_part p.directory ∷ []))
  both-low {i = i} o xs ys a b =
      let h = o.low in
      let k = o.few in
      low-append xs _ a
      (low-append ys _ b
      (low-cons (part 0 8) _ (omega arith) (omega arith) (low-cons (directory_part i.directory) _ (omega arith) (omega arith) end-low)))

-- ---- what each step is handed

mask-named : (w l : ℕ) → all named (mask_table w l) ≡ true
unfolding all named mask_table
mask-named w l = refl

listing : {tb : List Line} {f : List ℕ} {p : Picture} → Ready tb f p.directory.big p.directory.at p.directory.count p.found.now
    → all named tb ≡ true → Listed (length tb) p
listing r names =
    let w = r.whole in
    let n = r.size in
    record { low = omega arith; few = r.few; long = found-long r; addable = parts-addable r names }

-- ---- the two directories

module _ {f : List ℕ} {p : Picture} {z : Size} (k : Mask f p z) where
  abbrev Masked : View
  Masked = shown (mask_table z.width z.length) f p

  abbrev Own : List Part
  Own = parts_of (map value_part p.found.now)

  abbrev End : Part
  End = directory_part p.directory

  pub mask-listing : Listed mask_many p
  unfolding mask_table
  mask-listing = listing k.ready (mask-named z.width z.length)

  -- what may be read of the mask's directory, in two
  mask-own : (a : Part) → some (shares a) (directory_of Masked) ≡ some (shares a) Own || shares a End
  unfolding directory_of view_of held_at entries_at line_tags mask_table in_table some
  mask-own a =
      list-without (mask_table z.width z.length) f p.directory.big p.directory.at p.directory.count (run f p.directory.at (dir_len p.directory.count)) k.six a refl
      ∙ (λ i. some (shares a) (parts_of (map value_part (sym k.ready.found_are i))) || shares a End)

  own-kept : mask_list p ≡ Own ++ End ∷ []
  unfolding mask_list keep wide parts_of
  own-kept = keep_append wide (map value_part p.found.now) _ ∙ rw (lt-ltb 4 (dir_len p.directory.count) (omega arith))

  mask-list : (a : Part) → some (shares a) (mask_list p) ≡ some (shares a) (directory_of Masked)
  unfolding some
  mask-list a =
      ap (some (shares a)) own-kept
      ∙ some-append (shares a) Own (End ∷ [])
      ∙ ap (λ (b : Bool). some (shares a) Own || b) (or-false (shares a End))
      ∙ sym (mask-own a)

  module _ {i : Picture} {r : Further} {span : Span} (o : Image f i r span) where
    abbrev Shown : View
    Shown = shown table f i

    abbrev Front : Part
    Front = directory_part i.directory

    abbrev Named : List Part
    Named = named_parts i.directory.big (run f r.start (12 * r.many)) r.many

    abbrev Found : List Part
    Found = parts_of (map value_part i.found.now)

    pub image-listing : Listed Index.many i
    unfolding table
    image-listing = listing o.ready table-named

    pub image-inside : Inside f r
    image-inside = let h = later-holds o.ready o.behind in (h.room, h.few)

    pub image-spanned : Spanned (length f) (places_in f i) span
    image-spanned = (ap (rule13 (length f)) o.named.places ∙ o.thirteen, o.span_is ∙ ap span_of (sym o.named.places))

    -- what may be read of the image's file, in three
    image-own : (a : Part) → some (shares a) (full_of Shown) ≡ shares a (part 0 8) || (some (shares a) (Named ++ Found) || shares a Front)
    unfolding full_of full_list view_of held_at entries_at line_tags table in_table some
    image-own a =
        ap (λ (b : Bool). shares a (part 0 8) || b)
        (list-with table f i.directory.big i.directory.at i.directory.count (run f i.directory.at (dir_len i.directory.count)) o.behind.six a refl
        ∙ (λ j. some (shares a) (sym (later-named o.ready o.behind o.ten) j ++ parts_of (map value_part (sym o.ready.found_are j))) || shares a Front))

    abbrev Ends : List Part
    Ends = part 0 8 ∷ Front ∷ End ∷ []

    both-kept : both_lists f i r p ≡ Named ++ (Found ++ (Own ++ Ends))
    unfolding both_lists parts_of keep wide
    both-kept =
        ap (λ (ps : List Part). Named ++ ps)
        (keep_append wide (map value_part i.found.now) _ ∙ ap (λ (ps : List Part). Found ++ ps) (keep_append wide (map value_part p.found.now) _))
        ∙ rw (lt-ltb 4 (dir_len i.directory.count) (omega arith), lt-ltb 4 (dir_len p.directory.count) (omega arith))

    both-list : (a : Part) → some (shares a) (both_lists f i r p) ≡ some (shares a) (full_of Shown ++ directory_of Masked)
    unfolding some
    both-list a =
        ap (some (shares a)) both-kept
        ∙ some-append (shares a) Named (Found ++ (Own ++ Ends))
        ∙ ap (λ (b : Bool). some (shares a) Named || b)
        (some-append (shares a) Found (Own ++ Ends) ∙ ap (λ (b : Bool). some (shares a) Found || b) (some-append (shares a) Own Ends))
        ∙ regroup (some (shares a) Named) (some (shares a) Found) (some (shares a) Own) (shares a (part 0 8)) (shares a Front) (shares a End)
        ∙ sym (some-append (shares a) (full_of Shown) (directory_of Masked)
        ∙ ap₂ (λ (x y : Bool). x || y) (image-own a ∙ ap (λ (b : Bool). shares a (part 0 8) || (b || shares a Front)) (some-append (shares a) Named Found)) (mask-own a))
      where
        regroup : (x y m h d e : Bool) → x || (y || (m || (h || (d || (e || false))))) ≡ (h || ((x || y) || d)) || (m || e)
        regroup true y m true d e = refl
        regroup true y m false d e = refl
        regroup false true m true d e = refl
        regroup false true m false d e = refl
        regroup false false true true d e = refl
        regroup false false true false true e = refl
        regroup false false true false false e = refl
        regroup false false false true d e = refl
        regroup false false false false true e = refl
        regroup false false false false false e = or-false e

    -- the image's own picture is clear of the image's own list
    own-clear : some (touches (full_of Shown)) (pieces_of Shown) ≡ false
    unfolding first
    own-clear =
        none (some (touches (full_of Shown)) (pieces_of Shown))
        (sym (fourteen-is (full_of Shown) (pieces_of Shown)) ∙ ap (λ (x : Outcome). (first (14 ▸ x ∷ [])).number) o.fourteen)
      where
        none : (t : Bool) → cond {A = ℕ} t 14 0 ≡ 0 → t ≡ false
        none true h = absurd (omega arith)
        none false h = refl

    -- ---- rules 13 and 14 by the tests

    abbrev Judged : Verdict
    Judged = pictures_of f Shown Masked

    pub thirteen-broken : (v : Verdict) → Err v ≡ within_of (length f) (places_in f p) → Err v.number ≡ numbered Judged (tt {0})
    unfolding within_of numbered first
    thirteen-broken v h =
        let b = broken-ruled _ _ v (h ∙ ap (within_of (length f)) k.named.places) in
        ap (λ (x : Verdict). Err x.number) b.1 ∙ go (rule13 (length f) (pieces_of Masked)) b.0
      where
        go : (x : Outcome) → ((first (13 ▸ x ∷ [])).number ≡ 0 → ⊥)
            → Err (first (13 ▸ x ∷ [])).number ≡ numbered (first (13 ▸ x ∷ 14 ▸ rule14 (full_of Shown ++ directory_of Masked) (pieces_of Shown ++ pieces_of Masked) ∷ [])) (tt {0})
        go kept n = absurd (n refl)
        go (broken j) n = refl

    module _ (s : Span) (good : Ok s ≡ within_of (length f) (places_in f p)) where
      thirteen-kept : (rule13 (length f) (places_in f p) ≡ kept) × (s ≡ span_of (places_in f p))
      unfolding within_of first
      thirteen-kept = let b = found-ruled _ _ s good in (go (rule13 (length f) (places_in f p)) b.0, b.1)
        where
          go : (x : Outcome) → (first (13 ▸ x ∷ [])).number ≡ 0 → x ≡ kept
          go kept n = refl
          go (broken j) n = absurd (omega arith)

      pub mask-spanned : Spanned (length f) (places_in f p) s
      mask-spanned = thirteen-kept

      -- what the two tests say together
      module _ (x : Bool) (is_x : x ≡ some (touches (both_lists f i r p)) (places_in f p)) where
        abbrev Both : List Part
        Both = full_of Shown ++ directory_of Masked

        mask_is : x ≡ some (touches Both) (pieces_of Masked)
        mask_is = is_x ∙ touched-same (both_lists f i r p) Both both-list _ ∙ ap (some (touches Both)) k.named.places

        fourteen-by : Judged.number ≡ cond (some (touches Both) (pieces_of Shown) || x) 14 0
        unfolding first
        fourteen-by =
            ap (λ (y : Outcome). (first (13 ▸ y ∷ 14 ▸ rule14 Both (pieces_of Shown ++ pieces_of Masked) ∷ [])).number)
            (sym (ap (rule13 (length f)) k.named.places) ∙ thirteen-kept.0)
            ∙ fourteen-is Both (pieces_of Shown ++ pieces_of Masked)
            ∙ ap (λ (b : Bool). cond b 14 0) (some-append (touches Both) (pieces_of Shown) (pieces_of Masked) ∙ ap (λ (b : Bool). some (touches Both) (pieces_of Shown) || b) (sym mask_is))

        -- as the number is answered
        met : {b : Bool} → Judged.number ≡ cond b 14 0 → b ≡ true → Err 14 ≡ numbered Judged (tt {0})
        unfolding numbered
        met e t = let n : Judged.number ≡ 14 = e ∙ ap (λ (c : Bool). cond c 14 0) t in rw n

        clear : {b : Bool} → Judged.number ≡ cond b 14 0 → b ≡ false → Ok (tt {0}) ≡ numbered Judged (tt {0})
        unfolding numbered
        clear e t = let n : Judged.number ≡ 0 = e ∙ ap (λ (c : Bool). cond c 14 0) t in rw n

        pub mask-meets : x ≡ true → Err 14 ≡ numbered Judged (tt {0})
        mask-meets t = met fourteen-by (ap (λ (b : Bool). some (touches Both) (pieces_of Shown) || b) t ∙ or-true (some (touches Both) (pieces_of Shown)))

        module _ (free : x ≡ false) (y : Bool) (is_y : y ≡ some (touches (mask_list p)) (places_in f i)) where
          image-is : y ≡ some (touches Both) (pieces_of Shown)
          image-is =
              is_y
              ∙ touched-same (mask_list p) (directory_of Masked) mask-list _
              ∙ ap (some (touches (directory_of Masked))) o.named.places
              ∙ sym (touched-append (full_of Shown) (directory_of Masked) (pieces_of Shown) ∙ ap (λ (b : Bool). b || some (touches (directory_of Masked)) (pieces_of Shown)) own-clear)

          either : some (touches Both) (pieces_of Shown) || x ≡ y
          either = ap₂ (λ (u v : Bool). u || v) (sym image-is) free ∙ or-false y

          pub image-meets : y ≡ true → Err 14 ≡ numbered Judged (tt {0})
          image-meets t = met fourteen-by (either ∙ t)

          pub both-clear : y ≡ false → Ok (tt {0}) ≡ numbered Judged (tt {0})
          both-clear t = clear fourteen-by (either ∙ t)
