-- A file whose image is accepted: its directory is ready for the rules of its table, whatever its entries are found by; the value of each tag of the table
-- is a run that lies in the file; and rules 13 and 14 are kept. Assumes nothing.
use Prim.Native.Nat.{ℕ, ◌+◌, ◌-◌, ◌≤◌, ◌<◌}
use mathlib.Core.Path.{◌≡◌, refl, sym, ap, ◌∙◌, subst}
use mathlib.Core.List.{List}
use lib.ListN.{length, get_or}
use Rattle.paper.specs.Bytes.{run}
use Rattle.paper.specs.Tests.{all}
use Rattle.paper.specs.Outcome.{first, ◌▷◌}
use Rattle.paper.specs.Layout.{rule6}
use Rattle.paper.specs.Tags.{table, Held, find, bytes_of}
use Rattle.paper.specs.Judge.{view, view_at, head_run, head_of, head_in, count_in, dir_run, entries_in, pieces_of, full_of}
use Rattle.paper.specs.Judge.{head_rules, offset_rules, count_rules, entry_rules, table_rules, piece_rules, picture_rules}
use Rattle.paper.specs.Judge.{head_stage, offset_stage, count_stage, entry_stage, directory_stage, picture_stage, image_stage}
use Rattle.paper.proofs.First.{kept-first, first-append, chain-both}
use Rattle.paper.proofs.Bounds.{rule4-gives, rule5-gives}
use Rattle.paper.specs.declared.Outcome.TheVariants.{Kept as kept}
use Rattle.paper.specs.declared.Entry.{Entry}
use Rattle.paper.specs.declared.Verdict.{Verdict}
use Rattle.layout.specs.Columns.{firsts}
use Rattle.layout.specs.Repeats.{text_count, further_of, later_texts}
use Rattle.layout.proofs.Opening.{size-gives}
use Rattle.layout.proofs.Repeats.{FurtherHolds, further-holds, later-within}
use Rattle.tags.specs.Index
use Rattle.tags.specs.Slots.{tag_at}
use Rattle.lines.specs.Lined.{line_tags}
use Rattle.lines.specs.Ready.{entries_at, held_at, Ready}
use Rattle.tags.specs.Tagging.{view_of}
use Rattle.tags.proofs.Slots.{slot_at}
use Rattle.tags.proofs.Accepted.{view_is, Accepted, accepted as tags-accepted}
use Rattle.paper.specs.Pieces.{rule13, rule14}

-- the value of tag t lies in the file, and its bytes are those
pub record Stands (f : List ℕ) (hs : List Held) (t : ℕ) : Type 0 where
  pub bytes : run f (find t hs).entry.start (find t hs).entry.len ≡ bytes_of t hs
  pub within : (find t hs).entry.start + (find t hs).entry.len ≤ length f

-- ---- rules 1 to 14 and 27 are kept

module _ (f : List ℕ) (zero : (image_stage f).number ≡ 0) where
  head-zero : ((head_stage f).number ≡ 0) × ((directory_stage f (head_in f) ▷ picture_stage (view f)).number ≡ 0)
  unfolding image_stage
  head-zero = chain-both (head_stage f) (directory_stage f (head_in f) ▷ picture_stage (view f)) zero

  directory-zero : ((directory_stage f (head_in f)).number ≡ 0) × ((picture_stage (view f)).number ≡ 0)
  directory-zero = chain-both (directory_stage f (head_in f)) (picture_stage (view f)) head-zero.1

  pub picture-zero : (picture_stage (view f)).number ≡ 0
  picture-zero = directory-zero.1

  offset_zero : ((offset_stage (head_in f)).number ≡ 0) × ((count_stage f (head_in f) ▷ entry_stage f (head_in f)).number ≡ 0)
  unfolding directory_stage
  offset_zero = chain-both (offset_stage (head_in f)) (count_stage f (head_in f) ▷ entry_stage f (head_in f)) directory-zero.0

  count_zero : ((count_stage f (head_in f)).number ≡ 0) × ((entry_stage f (head_in f)).number ≡ 0)
  count_zero = chain-both (count_stage f (head_in f)) (entry_stage f (head_in f)) offset_zero.1

  pub file-size : length f ≤ 4294967295
  unfolding head_stage head_rules all
  file-size = size-gives (length f) (kept-first (head_rules (length f) (head_run f)) refl head-zero.0 0)

  -- its entries
  abbrev pub Entries : List Entry
  Entries = entries_at f (head_in f).big (head_in f).at (count_in f (head_in f))

  abbrev pub Helds : List Held
  Helds = held_at table f (head_in f).big (head_in f).at (count_in f (head_in f))

  -- the first of each tag of the table
  abbrev pub Firsts : List Entry
  Firsts = firsts (line_tags table) (entries_at f (head_in f).big (head_in f).at (count_in f (head_in f)))

  pub ready_with : {found : List Entry} → found ≡ firsts (line_tags table) (entries_at f (head_in f).big (head_in f).at (count_in f (head_in f)))
      → Ready table f (head_in f).big (head_in f).at (count_in f (head_in f)) found
  unfolding offset_stage offset_rules count_stage count_rules entry_stage entry_rules head_in head_of entries_in dir_run entries_at all
  ready_with k =
      let four = rule4-gives (length f) (head_in f).at (kept-first (offset_rules (head_in f)) refl offset_zero.0 0) in
      let five =
      rule5-gives (length f) (head_in f).at (count_in f (head_in f)) (kept-first (count_rules (head_in f) (count_in f (head_in f))) refl count_zero.0 0) in
      record {
        size = file-size;
        low = four.low;
        some = five.some;
        few = five.few;
        whole = five.whole;
        found_are = k;
        seven = kept-first (entry_rules (head_in f) (entries_in f (head_in f))) refl count_zero.1 1;
      }

  ready : Ready table f (head_in f).big (head_in f).at (count_in f (head_in f)) Firsts
  ready = ready_with refl

  pub six-kept : rule6 Entries ≡ kept
  unfolding entry_stage entry_rules entries_in dir_run entries_at all
  six-kept = kept-first (entry_rules (head_in f) (entries_in f (head_in f))) refl count_zero.1 0

  -- the further entries of 50909, and each of these
  pub later-stands : FurtherHolds f (head_in f).big (head_in f).at (count_in f (head_in f)) (further_of (head_in f).at (entries_in f (head_in f)))
  unfolding entries_in dir_run entries_at
  later-stands = further-holds f (head_in f).big (head_in f).at (count_in f (head_in f)) ready.whole ready.few six-kept refl

  pub later-inside : (d : Entry) (j : ℕ) → j < text_count (entries_in f (head_in f)) - 1
      → (get_or (later_texts (entries_in f (head_in f))) j d).start + (get_or (later_texts (entries_in f (head_in f))) j d).len ≤ length f
  unfolding entries_in dir_run entries_at
  later-inside = later-within f (head_in f).big (head_in f).at (count_in f (head_in f)) ready.whole ready.few six-kept ready.low ready.seven

  pub held-is : (view f).held ≡ Helds
  unfolding view view_at entries_in dir_run held_at entries_at
  held-is = refl

  pub view-seen : view f ≡ view_of table f (head_in f).big (head_in f).at (count_in f (head_in f))
  unfolding view head_in head_of
  view-seen = sym (view_is f (head_in f).big (head_in f).at (count_in f (head_in f)) refl)

  pub table-zero : (first (table_rules (view f))).number ≡ 0
  unfolding picture_stage picture_rules table_rules all
  table-zero =
      (chain-both (first (table_rules (view f))) _
      (ap (λ (v : Verdict). v.number) (sym (first-append (table_rules (view f)) (piece_rules (full_of (view f)) (view f)) refl)) ∙ picture-zero)).0

  pub known : Accepted f (head_in f).big (head_in f).at (count_in f (head_in f)) Firsts
  known = tags-accepted f _ _ _ _ ready (rw view-seen at table-zero)

  -- tag k of the table
  pub image-stands : (k : ℕ) → k < Index.many → Stands f (view f).held (tag_at k)
  image-stands k h =
      let s = slot_at ready k h in
      let w : (find (tag_at k) Helds).entry.start + (find (tag_at k) Helds).entry.len ≤ length f =
      subst (λ (e : Entry). e.start + e.len ≤ length f) (sym s.entry) s.within in
      let b : run f (find (tag_at k) Helds).entry.start (find (tag_at k) Helds).entry.len ≡ bytes_of (tag_at k) Helds =
      ap (λ (e : Entry). run f e.start e.len) s.entry ∙ sym s.bytes in
      subst (λ (hs : List Held). Stands f hs (tag_at k)) (sym held-is) (record { bytes = b; within = w })

  -- the picture
  pieces-zero : (first (piece_rules (full_of (view f)) (view f))).number ≡ 0
  unfolding picture_stage picture_rules table_rules all
  pieces-zero =
      (chain-both (first (table_rules (view f))) _
      (ap (λ (v : Verdict). v.number) (sym (first-append (table_rules (view f)) (piece_rules (full_of (view f)) (view f)) refl)) ∙ picture-zero)).1

  pub thirteen-kept : rule13 (length f) (pieces_of (view f)) ≡ kept
  unfolding piece_rules all view view_at head_in head_of
  thirteen-kept = kept-first (piece_rules (full_of (view f)) (view f)) refl pieces-zero 0

  pub fourteen-kept : rule14 (full_of (view f)) (pieces_of (view f)) ≡ kept
  unfolding piece_rules all
  fourteen-kept = kept-first (piece_rules (full_of (view f)) (view f)) refl pieces-zero 1
