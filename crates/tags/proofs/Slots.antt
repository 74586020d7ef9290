-- What the entries that a picture's directory has of its table's tags say of each tag, and of the two families; and what the image's table must satisfy.
-- Assumes nothing.
use Prim.Native.Nat.{ℕ, ◌<◌}
use mathlib.Core.Path.{◌≡◌, refl, sym, ap₂, ◌∙◌}
use mathlib.Core.Bool.{Bool, true, false, not, ◌&&◌, ◌||◌}
use mathlib.Core.List.{List}
use native.Mathlib.Omega.{arith}
use lib.Dec.{eqb, lit<}
use lib.ListN.{length, get_or}
use Rattle.paper.specs.Outcome.{breaks}
use Rattle.paper.specs.Tests.{all, some}
use Rattle.paper.specs.Tags.{Line, Values, picture_lines, table, named, Held, find, has, strip_tags, has_some, tiled, fits_the_line, misfits, rule27, rule10}
use Rattle.paper.specs.declared.Entry.{Entry}
use Rattle.paper.specs.declared.Outcome.TheVariants.{Kept as kept}
use Rattle.paper.specs.Tag
use Rattle.paper.proofs.Laws.{or-false, kept-all}
use Rattle.paper.proofs.Several.{first-or-later, later-held}
use Rattle.paper.proofs.Bounds.{no_line, table-named}
use Rattle.layout.specs.Repeats.{later_texts}
use Rattle.lines.specs.Rows.{needed_by}
use Rattle.lines.specs.Lined.{says, all_say, text_last, Lined}
use Rattle.tags.specs.declared.table.TheConstants.{LINES}
use Rattle.lines.specs.Ready.{entries_at, held_at, at_slot, Ready}
use Rattle.lines.proofs.Slots.{Slot, slot}
use Rattle.tags.specs.Index
use Rattle.tags.specs.Slots.{line_at, tag_at, strip_slots, tile_slots, some_at}
use Rattle.tags.specs.Tagging.{mixed_at}

-- the rows of the code say what the lines of the paper's table say, which is all that rules 9 and 10 ask
said : all_say LINES table ≡ true
unfolding all_say says needed_by table
said = refl

pub lined : Lined LINES table
unfolding table text_last
lined = record { say = said; tags = table-named; text = refl }

-- where rule 10 is kept, the entries of 50909 behind the first fit its line
pub later-fit : (f : List ℕ) (big : Bool) (at c : ℕ) → rule10 table (held_at table f big at c) ≡ kept
    → some (λ e. not (fits_the_line (line_at Index.metadata) e)) (later_texts (entries_at f big at c)) ≡ false
unfolding rule10 line_at table held_at misfits
later-fit f big at c ten =
    let hs = held_at table f big at c in
    let bad : Entry → Bool = (λ e. not (fits_the_line (line_at Index.metadata) e)) in
    sym (later-held table f Tag.metadata bad (entries_at f big at c))
    ∙ (or-false (has Tag.metadata hs && bad (find Tag.metadata hs).entry) _
    (sym (first-or-later Tag.metadata refl (λ h. bad h.entry) hs) ∙ kept-all (misfits hs) _ table no_line ten Index.metadata (lit< tt))).1

-- ---- the image's table

-- line k
pub slot_at : {f : List ℕ} {big : Bool} {at c : ℕ} {found : List Entry} → Ready table f big at c found → (k : ℕ) → k < Index.many
    → Slot f (held_at table f big at c) found (tag_at k) k
unfolding tag_at line_at table
slot_at r k h = slot r table-named k h

-- the slots of a picture's tags are among them
pub in_image : {k : ℕ} → k < Index.pictured → k < Index.many
in_image h = omega arith

-- ---- any table of a picture

-- the lines of a picture's tags stand in front
pub in-front : (v : Values) (others : List Line) (k : ℕ) → k < Index.pictured → k < length (picture_lines v others)
in-front v others k h = omega arith

module _ (v : Values) {others : List Line} (names : all named (picture_lines v others) ≡ true) {f : List ℕ} {big : Bool} {at c : ℕ} {found : List Entry}
    (r : Ready (picture_lines v others) f big at c found) where
  abbrev Hs : List Held
  Hs = held_at (picture_lines v others) f big at c

  present-at : (k : ℕ) → k < Index.pictured → has (get_or (picture_lines v others) k no_line).tag Hs ≡ not (eqb (at_slot found k).start 0)
  present-at k h = (slot r names k (in-front v others k h)).present

  -- the families
  strips-are : some_at strip_slots found ≡ has_some strip_tags Hs
  unfolding some_at has_some some
  strips-are = rw (present-at Index.strip_offsets (lit< tt), present-at Index.rows_per_strip (lit< tt), present-at Index.strip_byte_counts (lit< tt))

  pub tiles-are : some_at tile_slots found ≡ tiled (held_at (picture_lines v others) f big at c)
  unfolding some_at has_some some
  tiles-are = rw (present-at Index.tile_width (lit< tt), present-at Index.tile_length (lit< tt), present-at Index.tile_offsets (lit< tt), present-at Index.tile_byte_counts (lit< tt))

  -- and rule 27 of them
  pub mixed-is : rule27 (held_at (picture_lines v others) f big at c) ≡ breaks (mixed_at found) 0
  unfolding rule27
  mixed-is = sym (ap₂ (λ (x y : Bool). breaks ((x && y) || (not x && not y)) 0) strips-are tiles-are)
