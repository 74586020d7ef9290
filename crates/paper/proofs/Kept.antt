-- The judgement without C-11: no rule 27, rules 9 to 14 without tiles, every other rule the verdict's own; and that a file of strips, one with some
-- strip tag and no tile tag, has the same verdict and place from both. Assumes nothing.
use Prim.Native.Nat.{ℕ}
use mathlib.Core.Path.{◌≡◌, refl, sym, ap, ap₂, ◌∙◌}
use mathlib.Core.Bool.{Bool, true, false, cond, not, ◌&&◌, ◌||◌, or-true, false≢true}
use mathlib.Core.List.{List, [], ◌∷◌, map}
use lib.Dec.{eqb}
use borrow.Author.Tests.{eqb-true, not-true}
use Rattle.paper.specs.Outcome.{Outcome, kept, broken, breaks, first_of, first_bad, Rule, ◌▸◌, first, ◌▷◌}
use Rattle.paper.specs.Tests.{all, some, keep}
use Rattle.paper.specs.Layout.{size_of, typed, dir_len}
use Rattle.paper.specs.Tag
use Rattle.paper.specs.Tags.{Line, line, table, in_table, Held, listed, hold, find, has, bytes_of, count_of, values_of, value_of}
use Rattle.paper.specs.Tags.{strip_tags, tile_tags, has_some, rule27, rounded_up, piece_count, lacks, rule9, fits_the_line, misfits, rule10, disallowed, rule11, rule12}
use Rattle.paper.specs.Pieces.{Part, part, value_parts, full_list, Piece, places_of, pieces, rule13, rule14}
use Rattle.paper.specs.Judge.{Head, View, runs_of, survey_of, pieces_of, full_of, head_in, count_in, entries_in, view_at, view}
use Rattle.paper.specs.Judge.{table_rules, piece_rules, picture_rules, survey_rules, head_stage, directory_stage, picture_stage, survey_stage, image_stage, mask_stage, verdict_of}
use Rattle.paper.proofs.Laws.{or-false, and-eq}
use Rattle.paper.proofs.First.{verdict-turned}
use Rattle.paper.proofs.Several.{none-bad}
use Rattle.paper.specs.declared.Verdict.{Verdict}
use Rattle.paper.specs.declared.Entry.{Entry}

-- ---- the judgement without C-11

-- the tag is one of these
unfoldable pub among : List ℕ → ℕ → Bool
among ts t = some (eqb t) ts

-- a line as a picture of strips has it, whichever tags are present
unfoldable pub always : Line → Line
always l = line l.tag (λ tiled. l.needed false) l.type l.other l.least l.most l.values

-- a table without the lines of the tiles
unfoldable pub before : List Line → List Line
before tb = map always (keep (λ l. not (among tile_tags l.tag)) tb)

abbrev pub table_before : List Line
table_before = before table

-- it is document 01's: these are its tags, and these the needed ones
pub tags-before : map (λ l. l.tag) table_before
    ≡ 256 ∷ 257 ∷ 258 ∷ 259 ∷ 262 ∷ 273 ∷ 277 ∷ 278 ∷ 279 ∷ 284 ∷ 33550 ∷ 33922 ∷ 34264 ∷ 34735 ∷ 34736 ∷ 34737 ∷ 50909 ∷ []
unfolding before always among table keep some
tags-before = refl

pub needed-before : map (λ l. l.tag) (keep (λ l. l.needed true && l.needed false) table_before)
    ≡ 256 ∷ 257 ∷ 258 ∷ 259 ∷ 262 ∷ 273 ∷ 277 ∷ 278 ∷ 279 ∷ 34735 ∷ []
unfolding before always among table keep some
needed-before = refl

-- rule 12 over 273, 278 and 279
unfoldable pub rule12_before : Bool → List Held → Outcome
rule12_before big hs =
    let bits : ℕ = value_of big Tag.bits hs in
    let samples : ℕ = value_of big Tag.samples hs in
    let coding : ℕ = value_of big Tag.compression hs in
    let count : ℕ = rounded_up (value_of big Tag.length hs) (value_of big Tag.rows_per_strip hs) in
    first_of
    (breaks (not (eqb (count_of Tag.bits hs) samples) || not (all (eqb bits) (values_of big Tag.bits hs))) Tag.bits
    ∷ breaks ((eqb coding 2 || eqb coding 32773) && (not (eqb bits 1) || not (eqb samples 1))) Tag.compression
    ∷ breaks (not (eqb (count_of Tag.strip_offsets hs) count)) Tag.strip_offsets
    ∷ breaks (not (eqb (count_of Tag.strip_byte_counts hs) count)) Tag.strip_byte_counts
    ∷ [])

-- the strips, for rules 13 and 14
unfoldable pub strips : Bool → List Held → List Piece
strips big hs =
    places_of big
    (size_of (find Tag.strip_offsets hs).entry.typ)
    (bytes_of Tag.strip_offsets hs)
    (size_of (find Tag.strip_byte_counts hs).entry.typ)
    (bytes_of Tag.strip_byte_counts hs)
    (count_of Tag.strip_offsets hs)

-- rules 9 to 14, with no 27
unfoldable pub rules_before : View → List Rule
rules_before v =
    9 ▸ rule9 v.table v.held
    ∷ 10 ▸ rule10 v.table v.held
    ∷ 11 ▸ rule11 v.table v.head.big v.held
    ∷ 12 ▸ rule12_before v.head.big v.held
    ∷ 13 ▸ rule13 v.head.size (strips v.head.big v.held)
    ∷ 14 ▸ rule14 (full_of v) (strips v.head.big v.held)
    ∷ []

unfoldable pub verdict_before : List ℕ → Verdict
verdict_before f =
    let v : View = view_at table_before f (head_in f) in
    (head_stage f ▷ (directory_stage f (head_in f) ▷ first (rules_before v))) ▷ (survey_stage v ▷ mask_stage f)

-- some entry has one of the tags
unfoldable pub carries : List ℕ → List Entry → Bool
carries ts es = some (λ e. among ts e.tag) es

-- ---- the tags of the entries, with their bytes or without

or_turn : (a b c d : Bool) → (a || b) || (c || d) ≡ (a || c) || (b || d)
or_turn true b c d = refl
or_turn false b true d = or-true b
or_turn false b false d = refl

has-step : (t : ℕ) (h : Held) (hs : List Held) → has t (h ∷ hs) ≡ eqb h.entry.tag t || has t hs
unfolding has find
has-step t h hs = go (eqb h.entry.tag t) refl
  where
    go : (b : Bool) → eqb h.entry.tag t ≡ b → has t (h ∷ hs) ≡ eqb h.entry.tag t || has t hs
    go true e = rw e e
    go false e = rw e

some-step : (ts : List ℕ) (h : Held) (hs : List Held) → has_some ts (h ∷ hs) ≡ among ts h.entry.tag || has_some ts hs
unfolding has_some among some
some-step [] h hs = refl
some-step (t ∷ ts) h hs =
    ap₂ (λ (a b : Bool). a || b) (has-step t h hs) (some-step ts h hs) ∙ or_turn (eqb h.entry.tag t) (has t hs) _ _

-- tag 0 stands for an absent entry, so it is not asked for
has-carried : (ts : List ℕ) (tb : List Line) (f : List ℕ) (es : List Entry) → among ts 0 ≡ false → has_some ts (map (hold tb f) es) ≡ carries ts es
unfolding hold carries some has_some among has find
has-carried ts tb f [] z = z
has-carried ts tb f (e ∷ es) z = some-step ts (hold tb f e) (map (hold tb f) es) ∙ ap (λ (b : Bool). among ts e.tag || b) (has-carried ts tb f es z)

-- ---- the two tables

-- it is no line of the tiles, or it is not needed in a picture of strips
unfoldable spares : Line → Bool
spares l = not (among tile_tags l.tag && l.needed false)

tiles-spared : all spares table ≡ true
unfolding all spares among some table
tiles-spared = refl

-- where no tag of a family is present, each of them is absent
pub has-none : (ts : List ℕ) (hs : List Held) (t : ℕ) → has_some ts hs ≡ false → among ts t ≡ true → has t hs ≡ false
unfolding has_some among some
has-none [] hs t n m = absurd (false≢true m)
has-none (s ∷ ts) hs t n m = go (eqb t s) refl (has-none ts hs t (or-false (has s hs) _ n).1)
  where
    go : (b : Bool) → eqb t s ≡ b → (among ts t ≡ true → has t hs ≡ false) → has t hs ≡ false
    go true e r = ap (λ (k : ℕ). has k hs) (eqb-true t s e) ∙ (or-false (has s hs) _ n).0
    go false e r = r (rw e at m)

-- a test that sees a line as a picture of strips has it, and passes over the lines of the tiles, finds the same in both tables
module _ (bad : Line → Bool) (alike : (l : Line) → bad l ≡ bad (always l))
    (spared : (l : Line) → among tile_tags l.tag ≡ true → l.needed false ≡ false → bad l ≡ false) where
  lines_same : (tb : List Line) → all spares tb ≡ true → first_bad bad (λ l. l.tag) tb ≡ first_bad bad (λ l. l.tag) (before tb)
  unfolding first_bad before always all spares keep
  lines_same [] h = refl
  lines_same (l ∷ tb) h =
      let n = and-eq (not (among tile_tags l.tag && l.needed false)) _ h in
      go (among tile_tags l.tag) refl (not-true _ n.0) (lines_same tb n.1)
    where
      go : (b : Bool) → among tile_tags l.tag ≡ b → among tile_tags l.tag && l.needed false ≡ false
          → first_bad bad (λ l. l.tag) tb ≡ first_bad bad (λ l. l.tag) (before tb)
          → first_bad bad (λ l. l.tag) (l ∷ tb) ≡ first_bad bad (λ l. l.tag) (before (l ∷ tb))
      go true e n r = let z : bad l ≡ false = spared l e (rw e at n) in rw (e, z) r
      go false e n r = rw e (ap₂ (λ (b : Bool) (o : Outcome). cond b (broken l.tag) o) (alike l) r)

module _ (hs : List Held) (none : has_some tile_tags hs ≡ false) where
  unheld : (l : Line) → among tile_tags l.tag ≡ true → has l.tag hs ≡ false
  unheld l m = has-none tile_tags hs l.tag none m

  rule9-same : rule9 table hs ≡ rule9 table_before hs
  unfolding rule9 lacks always
  rule9-same = lines_same (lacks hs) (λ l. rw none) (λ l m n. rw (none, n)) table tiles-spared

  rule10-same : rule10 table hs ≡ rule10 table_before hs
  unfolding rule10 misfits fits_the_line always
  rule10-same = lines_same (misfits hs) (λ l. refl) (λ l m n. none-bad l.tag (λ h. not (fits_the_line l h.entry)) hs (unheld l m)) table tiles-spared

  rule11-same : (big : Bool) → rule11 table big hs ≡ rule11 table_before big hs
  unfolding rule11 disallowed always
  rule11-same big = lines_same (disallowed big hs) (λ l. refl) (λ l m n. rw (unheld l m)) table tiles-spared

-- ---- the view by the two tables

-- a tag that is none of the tiles' is in both or in neither
table_same : (t : ℕ) → among tile_tags t ≡ false → (tb : List Line) → in_table tb t ≡ in_table (before tb) t
unfolding in_table before always keep some
table_same t n [] = refl
table_same t n (l ∷ tb) = go (among tile_tags l.tag) refl (eqb l.tag t) refl (table_same t n tb)
  where
    go : (a : Bool) → among tile_tags l.tag ≡ a → (b : Bool) → eqb l.tag t ≡ b → in_table tb t ≡ in_table (before tb) t
        → in_table (l ∷ tb) t ≡ in_table (before (l ∷ tb)) t
    go true e true d r = absurd (false≢true (sym n ∙ ap (among tile_tags) (sym (eqb-true _ _ d)) ∙ e))
    go true e false d r = rw (e, d) r
    go false e b d r = rw e (ap (λ (x : Bool). eqb l.tag t || x) r)

listed_same : (e : Entry) → among tile_tags e.tag ≡ false → listed table e ≡ listed table_before e
unfolding listed
listed_same e n = ap (λ (b : Bool). b && typed e) (table_same e.tag n table)

module _ (f : List ℕ) where
  held_same : (es : List Entry) → carries tile_tags es ≡ false → map (hold table f) es ≡ map (hold table_before f) es
  unfolding hold carries some
  held_same [] n = refl
  held_same (e ∷ es) n =
      let m = or-false (among tile_tags e.tag) _ n in
      rw (listed_same e m.0, held_same es m.1)

  parts_same : (es : List Entry) → carries tile_tags es ≡ false
      → value_parts table (map (hold table f) es) ≡ value_parts table_before (map (hold table f) es)
  unfolding value_parts keep hold carries some
  parts_same [] n = refl
  parts_same (e ∷ es) n =
      let m = or-false (among tile_tags e.tag) _ n in
      go (listed table_before e) (listed_same e m.0) refl (parts_same es m.1)
    where
      go : (b : Bool) → listed table e ≡ b → listed table_before e ≡ b
          → value_parts table (map (hold table f) es) ≡ value_parts table_before (map (hold table f) es)
          → value_parts table (map (hold table f) (e ∷ es)) ≡ value_parts table_before (map (hold table f) (e ∷ es))
      go true p q r = rw (p, q) (ap (λ (ps : List Part). part e.start e.len ∷ ps) r)
      go false p q r = rw (p, q) r

-- ---- and so the verdict

module _ (f : List ℕ) (no_tile : carries tile_tags (entries_in f (head_in f)) ≡ false) (strip : carries strip_tags (entries_in f (head_in f)) ≡ true) where
  held : List Held
  held = map (hold table f) (entries_in f (head_in f))

  untiled : has_some tile_tags held ≡ false
  unfolding held among some
  untiled = has-carried tile_tags table f (entries_in f (head_in f)) refl ∙ no_tile

  rule27-kept : rule27 held ≡ kept
  unfolding held rule27 among some
  rule27-kept =
      let s : has_some strip_tags (map (hold table f) (entries_in f (head_in f))) ≡ true = has-carried strip_tags table f (entries_in f (head_in f)) refl ∙ strip in
      rw (untiled, s)

  rule12-same : (big : Bool) → rule12 big held ≡ rule12_before big held
  unfolding rule12 rule12_before piece_count
  rule12-same big = rw untiled

  strips-same : (big : Bool) → pieces big held ≡ strips big held
  unfolding pieces strips
  strips-same big = rw untiled

  -- the same entries with the same bytes, under document 01's table
  viewed : List Held → View
  viewed hs = record { table = table_before; head = head_in f; count = count_in f (head_in f); held = hs }

  rules-same : picture_stage (view f) ≡ first (rules_before (viewed held))
  unfolding picture_stage view view_at viewed held picture_rules table_rules piece_rules rules_before pieces_of full_of full_list first
  rules-same =
      let h : Head = head_in f in
      let full : List Part → List Part = (λ ps. part 0 8 ∷ part h.at 2 ∷ part h.at (dir_len (count_in f h)) ∷ ps) in
      λ i. first
      (27 ▸ rule27-kept i
      ∷ 9 ▸ rule9-same held untiled i
      ∷ 10 ▸ rule10-same held untiled i
      ∷ 11 ▸ rule11-same held untiled h.big i
      ∷ 12 ▸ rule12-same h.big i
      ∷ 13 ▸ rule13 h.size (strips-same h.big i)
      ∷ 14 ▸ rule14 (full (parts_same f (entries_in f h) no_tile i)) (strips-same h.big i)
      ∷ [])

  survey-same : survey_stage (view f) ≡ survey_stage (viewed held)
  unfolding survey_stage survey_rules runs_of survey_of view view_at viewed held
  survey-same = refl

  pub verdict-kept : verdict_of f ≡ verdict_before f
  unfolding image_stage verdict_before view_at viewed held
  verdict-kept =
      verdict-turned f
      ∙ (λ i. (head_stage f ▷ (directory_stage f (head_in f) ▷ rules-same i)) ▷ (survey-same i ▷ mask_stage f))
      ∙ ap (λ (hs : List Held). (head_stage f ▷ (directory_stage f (head_in f) ▷ first (rules_before (viewed hs)))) ▷ (survey_stage (viewed hs) ▷ mask_stage f))
      (held_same f (entries_in f (head_in f)) no_tile)
