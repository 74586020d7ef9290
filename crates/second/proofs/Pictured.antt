-- Both pictures, for rules 13 and 14 of the mask: what the entries of each directory say of its pieces, and what is known of the image, whose entries are
-- gathered anew. Assumes nothing.
use Prim.Native.Nat.{ℕ, ◌+◌, ◌≤◌, ◌<◌}
use mathlib.Core.Path.{◌≡◌, refl, sym, ap, ◌∙◌, subst}
use mathlib.Core.Bool.{Bool}
use mathlib.Core.List.{List}
use native.Mathlib.Omega.{arith}
use lib.ListN.{length}
use Rattle.paper.specs.Bytes.{run, num}
use Rattle.paper.specs.Layout.{dir_len, entries, rule6}
use Rattle.paper.specs.Tags.{table, mask_table, image_values, tiled, offsets_tag, byte_counts_tag, piece_count, rule10}
use Rattle.paper.specs.Pieces.{rule13, rule14}
use Rattle.paper.specs.Judge.{View, head_in, count_in, count_run, view, pieces_of, full_of, table_rules, mask_view}
use Rattle.paper.specs.declared.Entry.{Entry}
use Rattle.paper.specs.declared.Outcome.{Outcome}
use Rattle.paper.specs.declared.Outcome.TheVariants.{Kept as kept}
use Rattle.paper.proofs.Laws.{run-length-in}
use Rattle.paper.proofs.Bounds.{table-named}
use Rattle.layout.specs.Columns.{firsts}
use Rattle.layout.specs.Opening.{scanned_of, scanned_at, further_by}
use Rattle.layout.specs.declared.Directory.{Directory}
use Rattle.layout.specs.declared.Further.{Further}
use Rattle.layout.specs.declared.Scanned.{Scanned}
use Rattle.lines.specs.Lined.{line_tags}
use Rattle.lines.specs.Ready.{entries_at, held_at, at_slot, Ready, Behind}
use Rattle.tags.specs.Slots.{tile_slots, some_at, slot_of_offsets, slot_of_byte_counts}
use Rattle.tags.specs.Tagging.{view_of}
use Rattle.tags.proofs.Slots.{tiles-are}
use Rattle.tags.proofs.Accepted.{PieceColumn, Accepted, accepted}
use Rattle.paper.specs.Outcome.{first}
use Rattle.pieces.specs.Spans.{span_of}
use Rattle.image.proofs.Seen as Seen
use Rattle.image.specs.Naming.{Named}
use Rattle.image.specs.declared.Image.{Image}
use Rattle.image.specs.declared.Next.{Next}
use Rattle.image.proofs.Naming.{numbers-of, named}
use Rattle.crossing.specs.Pictures.{pictures_of}
use Rattle.mask.proofs.Masked.{masked}
use Rattle.second.specs.Before.{Before, Third, crossed}
use Rattle.second.proofs.Staged.{image-zero}

-- ---- the mask

module _ {f : List ℕ} {i : Image} {n : Next} {d : Directory} {t : Bool} {found : List Entry} (p : Third f i n d t found) where
  pub mask-named : {a b : ℕ} → a ≡ slot_of_offsets t → b ≡ slot_of_byte_counts t
      → Named (mask_table i.size.width i.size.length) f d.big d.at d.count (at_slot found a) (at_slot found b)
  mask-named {a} {b} is-a is_b =
      let k = masked i.size.width i.size.length f d.big d.at d.count found p.known.ready p.tagged in
      let h = held_at (mask_table i.size.width i.size.length) f d.big d.at d.count in
      named (mask_table i.size.width i.size.length) d.big d.at d.count p.known.ready.size
      (numbers-of (subst (PieceColumn f h found (piece_count d.big h) (offsets_tag h)) (sym is-a) k.offsets))
      (numbers-of (subst (PieceColumn f h found (piece_count d.big h) (byte_counts_tag h)) (sym is_b) k.byte_counts))

-- ---- the image

-- its directory, whatever its entries are found by
record Own (f : List ℕ) (big : Bool) (at c : ℕ) : Type 0 where
  pub few : c ≤ 1024
  pub whole : at + dir_len c ≤ length f
  pub ready_with : {found : List Entry} → found ≡ firsts (line_tags table) (entries_at f big at c) → Ready table f big at c found
  pub six : rule6 (entries_at f big at c) ≡ kept
  pub view_is : view f ≡ view_of table f big at c
  pub zero : (first (table_rules (view_of table f big at c))).number ≡ 0

-- what the rules over both pictures ask of it, where slots a and b are those of its pieces
pub record Shown (f : List ℕ) (i : Image) (n : Next) (c a b : ℕ) (found : List Entry) (r : Further) : Type 0 where
  pub ready : Ready table f i.big i.at c found
  pub behind : Behind f i.big i.at c r
  pub ten : rule10 table (held_at table f i.big i.at c) ≡ kept
  pub named : Named table f i.big i.at c (at_slot found a) (at_slot found b)
  pub thirteen : rule13 (length f) (pieces_of (view_of table f i.big i.at c)) ≡ kept
  pub fourteen : rule14 (full_of (view_of table f i.big i.at c)) (pieces_of (view_of table f i.big i.at c)) ≡ kept
  pub span_is : n.span ≡ span_of (pieces_of (view_of table f i.big i.at c))

module _ {f : List ℕ} {i : Image} {n : Next} (b : Before f i n) where
  abbrev Small : length f ≤ 4294967295
  Small = Seen.file-size f (image-zero b)

  own-there : Own f (head_in f).big (head_in f).at (count_in f (head_in f))
  own-there =
      let z = (image-zero b) in
      let r = Seen.ready_with f z refl in
      record {
        few = r.few;
        whole = r.whole;
        ready_with = λ k. Seen.ready_with f z k;
        six = Seen.six-kept f z;
        view_is = Seen.view-seen f z;
        zero = rw (Seen.view-seen f z) at (Seen.table-zero f z);
      }

  -- the count, where the directory stands
  pub count-asked : i.at + 2 ≤ length f
  count-asked = let k = own-there.whole in let e = b.at_is in omega arith

  pub count_room : {part : List ℕ} → part ≡ run f i.at 2 → 0 + 2 ≤ length part
  count_room e = let m = ap length e ∙ run-length-in f i.at 2 count-asked in omega arith

  module _ {part : List ℕ} (is-part : part ≡ run f i.at 2) {c : ℕ} (is_c : c ≡ num i.big 2 part 0) where
    count-is : c ≡ count_in f (head_in f)
    unfolding count_in count_run
    count-is = is_c ∙ (λ j. num (b.big_is j) 2 ((is-part ∙ ap (λ (x : ℕ). run f x 2) b.at_is) j) 0)

    own : Own f i.big i.at c
    own =
        subst (λ (x : Bool). Own f x i.at c) (sym b.big_is)
        (subst (λ (x : ℕ). Own f (head_in f).big x c) (sym b.at_is) (subst (λ (x : ℕ). Own f (head_in f).big (head_in f).at x) (sym count-is) own-there))

    -- what is asked for its entries
    pub entries-asked : (i.at + dir_len c ≤ length f) × (c ≤ 1024) × (i.at < 4294967296)
    entries-asked = (own.whole, own.few, omega (arith, own.whole, Small))

    -- what the pass over it answered
    module _ {s : Scanned} (so : s ≡ scanned_at (length f) (record { big = i.big; at = i.at; count = c }) (run f i.at (dir_len c))) where
      behind : Behind f i.big i.at c s.further
      unfolding scanned_of entries_at
      behind =
          record {
            six = own.six;
            is = ap (λ (x : Scanned). x.further) so ∙ ap (λ (x : Outcome). further_by x i.at (entries i.big i.at c (run f i.at (dir_len c)))) own.six;
          }

      module _ {ts : List ℕ} {found : List Entry} (is-ts : ts ≡ line_tags table) (found_are : found ≡ firsts ts (entries i.big i.at c (run f i.at (dir_len c))))
          {t : Bool} (is-t : t ≡ some_at tile_slots found) where
        ready : Ready table f i.big i.at c found
        unfolding entries_at
        ready = own.ready_with (found_are ∙ (λ j. firsts (is-ts j) (entries i.big i.at c (run f i.at (dir_len c)))))

        known : Accepted f i.big i.at c found
        known = accepted f i.big i.at c found ready own.zero

        tiled_is : t ≡ tiled (held_at table f i.big i.at c)
        unfolding table
        tiled_is = is-t ∙ tiles-are image_values table-named ready

        pub image-shown : {x y : ℕ} → x ≡ slot_of_offsets t → y ≡ slot_of_byte_counts t → Shown f i n c x y found s.further
        image-shown {x} {y} is_x is_y =
            let h = held_at table f i.big i.at c in
            let q = ap pieces_of own.view_is in
            record {
              ready = ready;
              behind = behind;
              ten = known.ten;
              named = named table i.big i.at c Small
                  (numbers-of (subst (PieceColumn f h found (piece_count i.big h) (offsets_tag h)) (sym (is_x ∙ ap slot_of_offsets tiled_is)) known.offsets))
                  (numbers-of (subst (PieceColumn f h found (piece_count i.big h) (byte_counts_tag h)) (sym (is_y ∙ ap slot_of_byte_counts tiled_is)) known.byte_counts));
              thirteen = ap (rule13 (length f)) (sym q) ∙ Seen.thirteen-kept f (image-zero b);
              fourteen = (λ j. rule14 (full_of (sym own.view_is j)) (pieces_of (sym own.view_is j))) ∙ Seen.fourteen-kept f (image-zero b);
              span_is = b.span_is ∙ ap span_of q;
            }

    -- what the rules over both pictures say
    pub crossed-is : {v : View} → mask_view f ≡ v → pictures_of f (view_of table f i.big i.at c) v ≡ crossed f
    unfolding crossed
    crossed-is e = λ j. pictures_of f (sym own.view_is j) (sym e j)
