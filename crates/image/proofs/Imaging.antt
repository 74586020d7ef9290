-- The image of a file, stage by stage: where a stage refuses, its verdict is the image's; where none does, the entries that were found say what the view
-- says. Assumes nothing.
use Rattle.std.specs.Prelude.{Option, Some, None, option_map, Ok, Err}
use Prim.Native.Nat.{ℕ}
use mathlib.Core.Path.{◌≡◌, refl, sym, ap, ◌∙◌}
use mathlib.Core.Bool.{Bool, true, false, cond, not}
use mathlib.Core.List.{List}
use lib.Dec.{eqb}
use lib.ListN.{length}
use borrow.Author.Tests.{ne_eqb}
use Rattle.outcomes.specs.Ruled.{ruled}
use Rattle.outcomes.proofs.Ruled.{first-refuses, first-kept, found-ruled, kept-ruled, other-refuses}
use Rattle.paper.specs.Bytes.{run}
use Rattle.paper.specs.Outcome.{first, ◌▷◌}
use Rattle.paper.specs.Tests.{all}
use Rattle.paper.specs.Layout.{dir_len, entries, next_offset}
use Rattle.paper.specs.Tags.{table}
use Rattle.paper.specs.Judge.{View, view, view_at, head_in, dir_run, next_in, pieces_of, full_of}
use Rattle.paper.specs.Judge.{table_rules, piece_rules, picture_rules, picture_stage, image_stage}
use Rattle.paper.proofs.First.{first-append}
use Rattle.paper.proofs.Several.{entries-held}
use Rattle.paper.specs.declared.Entry.{Entry}
use Rattle.paper.specs.declared.Verdict.{Verdict}
use Rattle.paper.specs.Tag
use Rattle.layout.specs.Columns.{firsts}
use Rattle.layout.specs.Opening.{headed_of, opened_of, scanned_of, LaidAt}
use Rattle.layout.specs.Parts.{value_part}
use Rattle.layout.specs.Repeats.{further_of}
use Rattle.layout.specs.declared.Further.{Further}
use Rattle.layout.specs.declared.Head.{Head}
use Rattle.layout.specs.declared.Scanned.{Scanned}
use Rattle.layout.proofs.Stages.{head-is, lay, head-refuses, open-refuses, scan-refuses, scan-keeps}
use Rattle.lines.specs.Lined.{line_tags}
use Rattle.lines.specs.Ready.{entries_at, held_at, at_slot}
use Rattle.lines.proofs.Laid.{behind, ready}
use Rattle.lines.proofs.Slots.{Slot}
use Rattle.tags.specs.Index
use Rattle.tags.specs.Tagging.{view_of, tagged_of}
use Rattle.tags.specs.declared.Pictured.{Pictured}
use Rattle.tags.proofs.Accepted.{view_is, Told, told, Accepted, accepted}
use Rattle.image.specs.Imaging.{tag_part, text_part, next_of, lasting_in, image_in, image_of}
use Rattle.image.specs.declared.Next.{Next}
use Rattle.image.specs.Stages.{present_part, Passed, pieces_judged, placed_in}
use Rattle.pieces.specs.Spans.{span_of}
use Rattle.pieces.specs.declared.Span.{Span}

-- where an offset leads, with a span
abbrev pub next_at : ℕ → Span → Next
next_at n s = record { offset = n; span = s }

-- ---- a view: rules 27 and 9 to 12, then 13 and 14

module _ (v : View) (next : ℕ) where
  stage_is : picture_stage v ≡ first (table_rules v) ▷ pieces_judged v
  unfolding picture_stage picture_rules table_rules pieces_judged all
  stage_is = first-append (table_rules v) (piece_rules (full_of v) v) refl

  pub table-refuses : (e : Verdict) → Err e ≡ tagged_of v → Err e ≡ ruled (picture_stage v) (image_in v next)
  unfolding tagged_of
  table-refuses e h =
      first-refuses (first (table_rules v)) (pieces_judged v) _ (image_in v next) e h ∙ ap (λ (w : Verdict). ruled w (image_in v next)) (sym stage_is)

  module _ {p : Pictured} (is : Ok p ≡ tagged_of v) where
    to-pieces : ruled (picture_stage v) (image_in v next) ≡ ruled (pieces_judged v) (image_in v next)
    unfolding tagged_of
    to-pieces =
        ap (λ (w : Verdict). ruled w (image_in v next)) stage_is ∙ first-kept (first (table_rules v)) (pieces_judged v) _ p (image_in v next) is

    pub pieces-refuse : (spanned : Bool) (e : Verdict) → Err e ≡ placed_in spanned v → Err e ≡ ruled (picture_stage v) (image_in v next)
    unfolding placed_in
    pieces-refuse spanned e h = other-refuses (pieces_judged v) _ (image_in v next) e h ∙ sym to-pieces

    module _ (spanned : Bool) {span : Option Span} (so : Ok span ≡ placed_in spanned v) where
      placed : ((pieces_judged v).number ≡ 0) × (span ≡ cond spanned (Some (span_of (pieces_of v))) None)
      unfolding placed_in
      placed = found-ruled (pieces_judged v) _ span so

      found-all : Ok (image_in v next) ≡ ruled (picture_stage v) (image_in v next)
      found-all = sym (to-pieces ∙ kept-ruled (pieces_judged v) (image_in v next) placed.0)

      -- the span, which is asked for where the next offset is not 0
      next-told : spanned ≡ not (eqb next 0) → option_map (λ (s : Span). next_at next s) span ≡ next_of v next
      unfolding next_of
      next-told asked = rw (placed.1, asked) (go (eqb next 0))
        where
          go : (b : Bool) → option_map (λ (s : Span). next_at next s) (cond (not b) (Some (span_of (pieces_of v))) None)
              ≡ cond b None (Some (record { offset = next; span = span_of (pieces_of v) }))
          go true = refl
          go false = refl

-- ---- the entries of a directory whose rules 1 to 7 are kept

module _ {f : List ℕ} {big : Bool} {at c : ℕ} {found : List Entry} {r : Further} (p : Passed f big at c found r)
    {t : Pictured} (is : Ok t ≡ tagged_of (view_of table f big at c)) where
  picture : Told f big at c t
  picture = told f big at c t is

  known : Accepted f big at c found
  known = accepted f big at c found p.ready picture.zero

  part-is : (u k : ℕ) → Slot f (held_at table f big at c) found u k → value_part (at_slot found k) ≡ tag_part u (held_at table f big at c)
  unfolding tag_part
  part-is u k s = ap value_part (sym s.entry)

  text-is : (u k : ℕ) → Slot f (held_at table f big at c) found u k → present_part (at_slot found k) ≡ text_part u (held_at table f big at c)
  unfolding text_part
  text-is u k s = (λ i. cond (sym s.present i) (Some (part-is u k s i)) None)

  pub image-good : (next : ℕ) (spanned : Bool) {span : Option Span} → Ok span ≡ placed_in spanned (view_of table f big at c)
      → spanned ≡ not (eqb next 0)
      → Ok (record {
        image = record {
          big = big;
          size = t.size;
          at = at;
          next = option_map (λ (s : Span). next_at next s) span;
          directory = value_part (at_slot found Index.key_directory);
          doubles = value_part (at_slot found Index.doubles);
          characters = value_part (at_slot found Index.characters);
          metadata = present_part (at_slot found Index.metadata);
          further = r;
        };
        scale = value_part (at_slot found Index.scale);
        tiepoint = value_part (at_slot found Index.tiepoint);
        matrix = value_part (at_slot found Index.matrix);
      })
      ≡ ruled (picture_stage (view_of table f big at c)) (image_in (view_of table f big at c) next)
  unfolding image_in lasting_in view_of held_at
  image-good next spanned {span} so asked =
      let nx = next-told (view_of table f big at c) next is spanned so asked in
      let d = part-is Tag.key_directory Index.key_directory known.directory in
      let x = part-is Tag.doubles Index.doubles known.doubles in
      let ch = part-is Tag.characters Index.characters known.characters in
      let sc = part-is Tag.scale Index.scale known.scale.slot in
      let ti = part-is Tag.tiepoint Index.tiepoint known.tiepoint.slot in
      let m = part-is Tag.matrix Index.matrix known.matrix.slot in
      let me = text-is Tag.metadata Index.metadata known.metadata in
      let fu = p.behind.is ∙ ap (further_of at) (sym (entries-held table f (entries_at f big at c))) in
      (λ i. Ok (record {
        image = record {
          big = big;
          size = record { width = picture.width_is i; length = picture.length_is i };
          at = at;
          next = nx i;
          directory = d i;
          doubles = x i;
          characters = ch i;
          metadata = me i;
          further = fu i;
        };
        scale = sc i;
        tiepoint = ti i;
        matrix = m i;
      }))
      ∙ found-all (view_of table f big at c) next is spanned so

-- ---- a file

-- its image has verdict w
refused-whole : (f : List ℕ) (w : Verdict) → image_stage f ≡ w → (w.number ≡ 0 → ⊥) → Err w ≡ image_of f
unfolding image_of ruled
refused-whole f w e n = rw (e, ne_eqb w.number 0 n)

-- rules 1 to 3 refuse
pub headed-bad : (f : List ℕ) (e : Verdict) → Err e ≡ headed_of f → Err e ≡ image_of f
unfolding image_stage
headed-bad f e h = let r = head-refuses f (picture_stage (view f)) h in refused-whole f e r.is r.some

-- rules 4 and 5 refuse
pub opened-bad : (f : List ℕ) {h : Head} → Ok h ≡ headed_of f → (e : Verdict) → Err e ≡ opened_of f (record { size = length f; big = h.big; at = h.at }) → Err e ≡ image_of f
unfolding image_stage
opened-bad f good e h = let r = open-refuses f (picture_stage (view f)) good h in refused-whole f e r.is r.some

module _ {f : List ℕ} {big : Bool} {at c : ℕ} (o : LaidAt f big at c) where
  abbrev Bytes : List ℕ
  Bytes = run f at (dir_len c)

  seen : view f ≡ view_of table f big at c
  unfolding view
  seen = ap (view_at table f) (head-is o) ∙ sym (view_is f big at c (lay o).count)

  next_is : next_in f (head_in f) ≡ next_offset big c Bytes
  unfolding next_in dir_run
  next_is = ap (next_in f) (head-is o) ∙ ap (λ (k : ℕ). next_offset big k (run f at (dir_len k))) (sym (lay o).count)

  -- what the pass over the directory answered
  module _ {s : Scanned} (so : s ≡ scanned_of (record { size = length f; big = big; at = at }) c (run f at (dir_len c))) where
    next-found : s.next ≡ next_in f (head_in f)
    unfolding scanned_of
    next-found = ap (λ (x : Scanned). x.next) so ∙ sym next_is

    pub scan-bad : (e : Verdict) → s.judged ≡ Err e → Err e ≡ image_of f
    unfolding image_stage
    scan-bad e h = let r = scan-refuses o so (picture_stage (view f)) h in refused-whole f e r.is r.some

    module _ {x : Unit {0}} (good : s.judged ≡ Ok x) where
      pub scan_good : ruled (picture_stage (view_of table f big at c)) (image_in (view_of table f big at c) s.next) ≡ image_of f
      unfolding image_of image_stage
      scan_good =
          let w : image_stage f ≡ picture_stage (view f) = scan-keeps o so (picture_stage (view f)) good in
          sym (rw (w, seen, next-found))

      pub scan-passed : {ts : List ℕ} {found : List Entry} → ts ≡ line_tags table → found ≡ firsts ts (entries big at c (run f at (dir_len c)))
          → Passed f big at c found s.further
      scan-passed is k = record { ready = ready o so good is k; behind = behind o so good }
