-- The picture never shows: two files of one length that agree on the reading list of the first have the same verdict and place, and where
-- it is 0 the same view, of which every other answer is a function. Assumes nothing.
use Prim.Native.Nat.{ℕ, ◌+◌, ◌≤◌, ◌<◌, min}
use mathlib.Core.Path.{◌≡◌, refl, sym, ap, ap₂, ◌∙◌, subst}
use mathlib.Core.Bool.{Bool, true, false, cond, not, ◌||◌, ◌&&◌}
use mathlib.Core.List.{List, [], ◌∷◌, ◌++◌, map}
use native.Mathlib.Omega.{arith}
use lib.Dec.{T, eqb, leb, ltb, le→leb, lt→ltb}
use lib.ListN.{length}
use Rattle.paper.specs.Bytes.{run, num}
use Rattle.paper.specs.Outcome.{breaks, ◌▸◌, first, ◌▷◌}
use Rattle.paper.specs.Layout.{dir_len, entries, next_offset}
use Rattle.paper.specs.Tests.{some, keep}
use Rattle.paper.specs.Tag
use Rattle.paper.specs.Tags.{Line, table, mask_table, Held, hold, listed, value_of}
use Rattle.paper.specs.Pieces.{Part, part, value_parts, rule13, rule14}
use Rattle.paper.specs.Judge.{Head, View, head_of, head_run, head_in, count_run, count_in, dir_run, entries_in, next_in, view_at, view, verdict_of}
use Rattle.paper.specs.Judge.{head_rules, count_rules, entry_rules, next_rules, table_rules, where_kept, directory_parts, reading_list, pieces_of, directory_of, full_of}
use Rattle.paper.specs.Judge.{head_stage, offset_stage, count_stage, entry_stage, directory_stage, next_stage, picture_stage, survey_stage, image_stage, file_stage, mask_stage}
use Rattle.paper.specs.Judge.{has_mask, mask_head, mask_lines, mask_view, both_parts, both_pieces, mask_picture_rules, mask_verdict, rule28}
use Rattle.paper.specs.Asked.{in_part, on_list, Agree}
use Rattle.paper.proofs.Laws.{run-same, some-append}
use Rattle.paper.proofs.First.{chain, chain-both}
use Rattle.paper.specs.Calls.{accepts, answer, judged_of, rows_of, left_rows, cited_of, text_of}
use Rattle.paper.specs.Block.{block_of, block_left}
use borrow.Author.Tests.{eq-eqb, eqb-true}
use Rattle.paper.specs.declared.Row.{Row}
use Rattle.paper.specs.declared.Verdict.{Verdict}
use Rattle.paper.specs.declared.Entry.{Entry}

-- ---- agreement on a list, taken apart

or_left : (a b : Bool) → T a → T (a || b)
or_left true b t = tt
or_left false b t = absurd t

or_right : (a b : Bool) → T b → T (a || b)
or_right true b t = tt
or_right false b t = t

and_both : (a b : Bool) → T a → T b → T (a && b)
and_both true b s t = t
and_both false b s t = s

pub in-part : (i : ℕ) (p : Part) → p.start ≤ i → i < p.start + p.len → T (in_part i p)
in-part i p a b = and_both (leb p.start i) (ltb i (p.start + p.len)) (le→leb _ _ a) (lt→ltb _ _ b)

pub agree-head : (f g : List ℕ) (p : Part) (ps : List Part) → length f ≡ length g → Agree f g (p ∷ ps)
    → run f p.start p.len ≡ run g p.start p.len
unfolding on_list some
agree-head f g p ps n h = run-same f g p.start p.len n (λ i a b c. h i (or_left (in_part i p) _ (in-part i p a b)))

pub agree-tail : (f g : List ℕ) (p : Part) (ps : List Part) → Agree f g (p ∷ ps) → Agree f g ps
unfolding on_list some
agree-tail f g p ps h i t = h i (or_right (in_part i p) _ t)

-- agreement on one of two lists
agree_left : (f g : List ℕ) (ps qs : List Part) → Agree f g (ps ++ qs) → Agree f g ps
unfolding on_list
agree_left f g ps qs h i t = h i (subst T (sym (some-append (in_part i) ps qs)) (or_left (some (in_part i) ps) _ t))

agree_right : (f g : List ℕ) (ps qs : List Part) → Agree f g (ps ++ qs) → Agree f g qs
unfolding on_list
agree_right f g ps qs h i t = h i (subst T (sym (some-append (in_part i) ps qs)) (or_right (some (in_part i) ps) _ t))

-- ---- the value bytes

hold-same : (tb : List Line) (f g : List ℕ) (e : Entry) → (listed tb e ≡ true → run f e.start e.len ≡ run g e.start e.len)
    → hold tb f e ≡ hold tb g e
unfolding hold
hold-same tb f g e h = go (listed tb e) refl
  where
    go : (b : Bool) → listed tb e ≡ b → hold tb f e ≡ hold tb g e
    go true p = let r : run f e.start e.len ≡ run g e.start e.len = h p in rw (p, r)
    go false p = rw p

pub held_same : (tb : List Line) (f g : List ℕ) (es : List Entry) → length f ≡ length g → Agree f g (value_parts tb (map (hold tb f) es))
    → map (hold tb f) es ≡ map (hold tb g) es
unfolding value_parts keep hold
held_same tb f g [] n h = refl
held_same tb f g (e ∷ es) n h =
    ap₂ (λ (x : Held) (xs : List Held). x ∷ xs) (hold-same tb f g e (λ p. agree-head f g _ _ n (rw p at h))) (held_same tb f g es n (rest (listed tb e) refl))
  where
    rest : (b : Bool) → listed tb e ≡ b → Agree f g (value_parts tb (map (hold tb f) es))
    rest true p = agree-tail f g (part e.start e.len) _ (rw p at h)
    rest false p = rw p at h

-- ---- a directory with a table, at a place that both files name, whichever directory it is: they agree on what its stages let be read

-- what is read where a stage is kept
agree-kept : (f g : List ℕ) (v : Verdict) (ps : List Part) → v.number ≡ 0 → Agree f g (where_kept v ps) → Agree f g ps
agree-kept f g v ps z h = rw (eq-eqb v.number 0 z) at h

module _ (f g : List ℕ) (n : length f ≡ length g) (tb : List Line) (h : Head) (agree : Agree f g (directory_parts tb f h)) where
  -- the parts behind the count
  abbrev Directory : List Part
  Directory = part h.at (dir_len (count_in f h)) ∷ where_kept (entry_stage f h) (value_parts tb (view_at tb f h).held)

  module _ (four : (offset_stage h).number ≡ 0) where
    count-read : Agree f g (part h.at 2 ∷ where_kept (count_stage f h) Directory)
    unfolding directory_parts
    count-read = agree-kept f g (offset_stage h) _ four agree

    count-here : count_in f h ≡ count_in g h
    unfolding count_in count_run
    count-here = ap (λ (r : List ℕ). num h.big 2 r 0) (agree-head f g (part h.at 2) _ n count-read)

    count_stage-here : count_stage f h ≡ count_stage g h
    unfolding count_stage
    count_stage-here = ap (λ (c : ℕ). first (count_rules h c)) count-here

    module _ (five : (count_stage f h).number ≡ 0) where
      dir-read : Agree f g Directory
      dir-read = agree-kept f g (count_stage f h) _ five (agree-tail f g (part h.at 2) _ count-read)

      dir-here : dir_run f h ≡ dir_run g h
      unfolding dir_run
      dir-here = agree-head f g (part h.at (dir_len (count_in f h))) _ n dir-read ∙ ap (λ (k : ℕ). run g h.at (dir_len k)) count-here

      entries-here : entries_in f h ≡ entries_in g h
      unfolding entries_in
      entries-here = ap₂ (λ (k : ℕ) (r : List ℕ). entries h.big h.at k r) count-here dir-here

      entry_stage-here : entry_stage f h ≡ entry_stage g h
      unfolding entry_stage
      entry_stage-here = ap (λ (es : List Entry). first (entry_rules h es)) entries-here

      values-read : (entry_stage f h).number ≡ 0 → Agree f g (value_parts tb (view_at tb f h).held)
      values-read seven = agree-kept f g (entry_stage f h) _ seven (agree-tail f g (part h.at (dir_len (count_in f h))) _ dir-read)

  -- rules 4 to 7
  pub directory-here : directory_stage f h ≡ directory_stage g h
  unfolding directory_stage
  directory-here =
      chain (offset_stage h) (offset_stage h) _ _ refl (λ z. chain (count_stage f h) (count_stage g h) _ _ (count_stage-here z) (entry_stage-here z))

  module _ (kept : (directory_stage f h).number ≡ 0) where
    four-here : (offset_stage h).number ≡ 0
    unfolding directory_stage
    four-here = (chain-both (offset_stage h) (count_stage f h ▷ entry_stage f h) kept).0

    rest-here : ((count_stage f h).number ≡ 0) × ((entry_stage f h).number ≡ 0)
    unfolding directory_stage
    rest-here = chain-both (count_stage f h) (entry_stage f h) (chain-both (offset_stage h) (count_stage f h ▷ entry_stage f h) kept).1

    pub next_here : next_in f h ≡ next_in g h
    unfolding next_in
    next_here = ap₂ (λ (c : ℕ) (r : List ℕ). next_offset h.big c r) (count-here four-here) (dir-here four-here rest-here.0)

    pub view-here : view_at tb f h ≡ view_at tb g h
    unfolding view_at
    view-here =
        let c : count_in f h ≡ count_in g h = count-here four-here in
        let e : entries_in f h ≡ entries_in g h = entries-here four-here rest-here.0 in
        let d : map (hold tb f) (entries_in f h) ≡ map (hold tb g) (entries_in g h) =
        held_same tb f g (entries_in f h) n (values-read four-here rest-here.0 rest-here.1) ∙ ap (map (hold tb g)) e in
        λ i. record { table = tb; head = h; count = c i; held = d i }

-- ---- a file

module _ (f g : List ℕ) (n : length f ≡ length g) (h : Agree f g (reading_list f)) where
  head-same : head_run f ≡ head_run g
  unfolding head_run reading_list on_list some
  head-same =
      run-same f g 0 8 n (λ i a b c. h i (or_left (in_part i (part 0 (min 8 (length f)))) _ (in-part i (part 0 (min 8 (length f))) a (omega arith))))

  head_in-same : head_in f ≡ head_in g
  unfolding head_in
  head_in-same = ap₂ head_of n head-same

  head_stage-same : head_stage f ≡ head_stage g
  unfolding head_stage
  head_stage-same = ap₂ (λ (k : ℕ) (r : List ℕ). first (head_rules k r)) n head-same

  -- what may be read of the mask
  abbrev Masked : List Part
  Masked = cond (has_mask f) (directory_parts (mask_lines f) f (mask_head f)) []

  behind-head : Agree f g (where_kept (head_stage f) (directory_parts table f (head_in f)) ++ where_kept (file_stage f) Masked)
  unfolding reading_list
  behind-head = agree-tail f g (part 0 (min 8 (length f))) _ h

  module _ (three : (head_stage f).number ≡ 0) where
    directory-read : Agree f g (directory_parts table f (head_in f))
    directory-read = agree-kept f g (head_stage f) _ three (agree_left f g (where_kept (head_stage f) (directory_parts table f (head_in f))) (where_kept (file_stage f) Masked) behind-head)

    directory-same : directory_stage f (head_in f) ≡ directory_stage g (head_in g)
    directory-same = directory-here f g n table (head_in f) directory-read ∙ ap (directory_stage g) head_in-same

    module _ (seven : (directory_stage f (head_in f)).number ≡ 0) where
      next-same : next_in f (head_in f) ≡ next_in g (head_in g)
      next-same = next_here f g n table (head_in f) directory-read seven ∙ ap (next_in g) head_in-same

      view-same : view f ≡ view g
      unfolding view
      view-same = view-here f g n table (head_in f) directory-read seven ∙ ap (view_at table g) head_in-same

  image-same : image_stage f ≡ image_stage g
  unfolding image_stage
  image-same =
      chain (head_stage f) (head_stage g) _ _ head_stage-same
      (λ x. chain (directory_stage f (head_in f)) (directory_stage g (head_in g)) _ _ (directory-same x) (λ y. ap picture_stage (view-same x y)))

  -- where rules 1 to 14 and 27 are kept, and so where all are
  image-kept : (image_stage f).number ≡ 0 → ((head_stage f).number ≡ 0) × ((directory_stage f (head_in f)).number ≡ 0)
  unfolding image_stage
  image-kept z =
      let a = chain-both (head_stage f) (directory_stage f (head_in f) ▷ picture_stage (view f)) z in
      (a.0, (chain-both (directory_stage f (head_in f)) (picture_stage (view f)) a.1).0)

  image-view : (image_stage f).number ≡ 0 → view f ≡ view g
  image-view z = let a = image-kept z in view-same a.0 a.1

  file-same : file_stage f ≡ file_stage g
  unfolding file_stage
  file-same = chain (image_stage f) (image_stage g) _ _ image-same (λ z. ap survey_stage (image-view z))

  -- ---- its mask, where rules 1 to 22 and 27 are kept

  module _ (own : (file_stage f).number ≡ 0) where
    image-zero : (image_stage f).number ≡ 0
    unfolding file_stage
    image-zero = (chain-both (image_stage f) (survey_stage (view f)) own).0

    file-view : view f ≡ view g
    file-view = image-view image-zero

    offset-same : next_in f (head_in f) ≡ next_in g (head_in g)
    offset-same = let a = image-kept image-zero in next-same a.0 a.1

    there-same : has_mask f ≡ has_mask g
    unfolding has_mask
    there-same = ap (λ (k : ℕ). not (eqb k 0)) offset-same

    mask_head-same : mask_head f ≡ mask_head g
    unfolding mask_head
    mask_head-same = λ i. record { size = n i; big = (head_in-same i).big; at = offset-same i }

    mask_lines-same : mask_lines f ≡ mask_lines g
    unfolding mask_lines
    mask_lines-same = λ i. mask_table (value_of (head_in-same i).big Tag.width (file-view i).held) (value_of (head_in-same i).big Tag.length (file-view i).held)

    module _ (there : has_mask f ≡ true) where
      mask-read : Agree f g (directory_parts (mask_lines f) f (mask_head f))
      mask-read =
          let m = agree-kept f g (file_stage f) Masked own (agree_right f g (where_kept (head_stage f) (directory_parts table f (head_in f))) (where_kept (file_stage f) Masked) behind-head) in
          rw there at m

      mask-directory : directory_stage f (mask_head f) ≡ directory_stage g (mask_head g)
      mask-directory = directory-here f g n (mask_lines f) (mask_head f) mask-read ∙ ap (directory_stage g) mask_head-same

      module _ (seven : (directory_stage f (mask_head f)).number ≡ 0) where
        mask_next : next_stage f (mask_head f) ≡ next_stage g (mask_head g)
        unfolding next_stage
        mask_next = ap (λ (k : ℕ). first (next_rules k)) (next_here f g n (mask_lines f) (mask_head f) mask-read seven ∙ ap (next_in g) mask_head-same)

        mask_view-same : mask_view f ≡ mask_view g
        unfolding mask_view
        mask_view-same = view-here f g n (mask_lines f) (mask_head f) mask-read seven ∙ (λ i. view_at (mask_lines-same i) g (mask_head-same i))

        mask-picture : first (mask_picture_rules f) ≡ first (mask_picture_rules g)
        unfolding mask_picture_rules both_parts both_pieces
        mask-picture =
            λ i. first
            (table_rules (mask_view-same i)
            ++ (13 ▸ rule13 (n i) (pieces_of (mask_view-same i))
            ∷ 14 ▸ rule14 (full_of (file-view i) ++ directory_of (mask_view-same i)) (pieces_of (file-view i) ++ pieces_of (mask_view-same i))
            ∷ []))

      mask_verdict-same : mask_verdict f ≡ mask_verdict g
      unfolding mask_verdict
      mask_verdict-same =
          chain (directory_stage f (mask_head f)) (directory_stage g (mask_head g)) _ _ mask-directory
          (λ y. chain (next_stage f (mask_head f)) (next_stage g (mask_head g)) _ _ (mask_next y) (λ z. mask-picture y))

    mask_stage-same : mask_stage f ≡ mask_stage g
    unfolding mask_stage rule28
    mask_stage-same = go (has_mask f) refl
      where
        go : (b : Bool) → has_mask f ≡ b → mask_stage f ≡ mask_stage g
        go true e =
            λ i. first
            (28 ▸ breaks (there-same i && not (eqb (mask_verdict-same e i).number 0)) (mask_verdict-same e i).number ∷ [])
        go false e = let d : has_mask g ≡ false = sym there-same ∙ e in rw (e, d)

  pub accepted-view : (verdict_of f).number ≡ 0 → view f ≡ view g
  unfolding verdict_of
  accepted-view z = file-view (chain-both (file_stage f) (mask_stage f) z).0

  -- Demand 3: verdict and place
  pub verdict-same : verdict_of f ≡ verdict_of g
  unfolding verdict_of
  verdict-same = chain (file_stage f) (file_stage g) _ _ file-same mask_stage-same

  -- Demand 3: every answer of every call, whatever it makes of the view
  pub answer-same : {A : Type 0} (good : View → A) (bad : Verdict → A) → answer f good bad ≡ answer g good bad
  unfolding answer
  answer-same {A} good bad = go (accepts (verdict_of f)) refl ∙ ap (λ (v : Verdict). cond (accepts v) (good (view g)) (bad v)) verdict-same
    where
      go : (b : Bool) → accepts (verdict_of f) ≡ b
          → cond (accepts (verdict_of f)) (good (view f)) (bad (verdict_of f)) ≡ cond (accepts (verdict_of f)) (good (view g)) (bad (verdict_of f))
      go true e = rw e (ap good (accepted-view (eqb-true _ _ e)))
      go false e = rw e

  pub judged-same : judged_of f ≡ judged_of g
  unfolding judged_of
  judged-same = answer-same _ _

  pub rows_same : (m : ℕ) → rows_of f m ≡ rows_of g m
  unfolding rows_of
  rows_same m = answer-same _ _

  pub left_rows-same : (lent : List Row) → left_rows f lent ≡ left_rows g lent
  unfolding left_rows
  left_rows-same lent = answer-same _ _

  pub cited-same : (k : ℕ) → cited_of f k ≡ cited_of g k
  unfolding cited_of
  cited-same k = answer-same _ _

  pub text_same : (k m : ℕ) → text_of f k m ≡ text_of g k m
  unfolding text_of
  text_same k m = answer-same _ _

  pub block_same : (m : ℕ) → block_of f m ≡ block_of g m
  unfolding block_of
  block_same m = answer-same _ _

  pub block_left-same : (out : List ℕ) → block_left f out ≡ block_left g out
  unfolding block_left
  block_left-same out = answer-same _ _
