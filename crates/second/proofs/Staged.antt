-- A mask stage by stage: where one refuses, its number is that of the mask's verdict; where none does, the entries that were gathered are ready for the rules of its table,
-- and then for those of its picture. Assumes nothing.
use Rattle.std.specs.Prelude.{Ok, Err}
use Prim.Native.Nat.{ℕ, ◌+◌, ◌≤◌, ◌<◌}
use mathlib.Core.Path.{◌≡◌, refl, sym, ap, ◌∙◌, subst}
use mathlib.Core.Bool.{Bool}
use mathlib.Core.List.{List}
use native.Mathlib.Omega.{arith}
use lib.Dec.{eqb}
use lib.ListN.{length}
use borrow.Author.Tests.{ne_eqb}
use Rattle.paper.specs.Bytes.{run}
use Rattle.paper.specs.Tests.{all}
use Rattle.paper.specs.Outcome.{first, ◌▷◌, verdict}
use Rattle.paper.specs.Layout.{dir_len, entries, next_offset, rule8}
use Rattle.paper.specs.Tag
use Rattle.paper.specs.Tags.{Held, table, mask_table, value_of}
use Rattle.paper.specs.Judge.{Head, View, head_in, next_in, count_in, entries_in, dir_run, view, view_at, entry_rules, next_rules, table_rules}
use Rattle.paper.specs.Judge.{offset_stage, count_stage, entry_stage, directory_stage, next_stage, image_stage, survey_stage, file_stage}
use Rattle.paper.specs.Judge.{mask_head, mask_lines, mask_view, mask_picture_rules, mask_verdict, both_parts, both_pieces}
use Rattle.paper.specs.declared.Entry.{Entry}
use Rattle.paper.specs.declared.Verdict.{Verdict}
use Rattle.paper.proofs.First.{kept-first, first-append, chain-zero, chain-stop, chain-turn, chain-both}
use Rattle.layout.specs.Columns.{firsts}
use Rattle.layout.specs.Opening.{opened_of, scanned_of, scanned_at}
use Rattle.layout.specs.declared.Directory.{Directory}
use Rattle.layout.specs.declared.Scanned.{Scanned}
use Rattle.layout.proofs.Opening.{Laying, laid, laid-place}
use Rattle.lines.specs.Lined.{line_tags}
use Rattle.lines.specs.Ready.{entries_at, held_at, Ready}
use Rattle.tags.specs.Tagging.{view_of}
use Rattle.image.specs.declared.Image.{Image}
use Rattle.image.specs.declared.Next.{Next}
use Rattle.image.proofs.Seen.{file-size, known, held-is}
use Rattle.mask.specs.Masking.{numbered, tagged_of}
use Rattle.mask.proofs.Numbered.{refused, first-refuses, first-kept}
use Rattle.outcomes.specs.Ruled.{ruled}
use Rattle.outcomes.proofs.Ruled.{found-ruled, broken-ruled}
use Rattle.second.specs.Before.{Before, Second, Found, crossed}

module _ {f : List ℕ} {i : Image} {n : Next} (b : Before f i n) where
  abbrev Place : Head
  Place = record { size = length f; big = i.big; at = n.offset }

  head-is : mask_head f ≡ record { size = length f; big = i.big; at = n.offset }
  unfolding mask_head
  head-is = λ j. record { size = length f; big = sym b.big_is j; at = sym b.next_is j }

  lines_are : mask_lines f ≡ mask_table i.size.width i.size.length
  unfolding mask_lines
  lines_are = λ j. mask_table (sym b.width_is j) (sym b.length_is j)

  pub image-zero : (image_stage f).number ≡ 0
  unfolding file_stage
  image-zero = (chain-both (image_stage f) (survey_stage (view f)) b.own).0

  pub size : length f ≤ 4294967295
  size = file-size f image-zero

  -- the mask's rules, where it stands
  staged : {h : Head} → mask_head f ≡ h → mask_verdict f ≡ directory_stage f h ▷ (next_stage f h ▷ first (mask_picture_rules f))
  unfolding mask_verdict
  staged e = ap (λ (h : Head). directory_stage f h ▷ (next_stage f h ▷ first (mask_picture_rules f))) e

  -- rules 4 and 5 refuse
  pub open-bad : (e : Verdict) → Err e ≡ opened_of f (record { size = length f; big = i.big; at = n.offset }) → Err e.number ≡ numbered (mask_verdict f) (tt {0})
  unfolding directory_stage opened_of
  open-bad e h =
      let x = offset_stage Place ▷ count_stage f Place in
      let r = broken-ruled x _ e h in
      let whole : mask_verdict f ≡ x =
      staged head-is
      ∙ ap (λ (v : Verdict). v ▷ (next_stage f Place ▷ first (mask_picture_rules f))) (sym (chain-turn (offset_stage Place) (count_stage f Place) (entry_stage f Place)))
      ∙ chain-turn x (entry_stage f Place) _
      ∙ chain-stop x _ r.0 in
      ap (λ (v : Verdict). Err v.number) r.1 ∙ refused x (tt {0}) r.0 ∙ ap (λ (v : Verdict). numbered v (tt {0})) (sym whole)

module _ {f : List ℕ} {i : Image} {n : Next} {d : Directory} (o : Second f i n d) where
  abbrev Here : Head
  Here = record { size = length f; big = d.big; at = d.at }

  abbrev Bytes : List ℕ
  Bytes = run f d.at (dir_len d.count)

  place-is : (d.big ≡ i.big) × (d.at ≡ n.offset)
  place-is = laid-place f _ d o.laid

  here-is : mask_head f ≡ record { size = length f; big = d.big; at = d.at }
  here-is = head-is o.before ∙ (λ j. record { size = length f; big = sym place-is.0 j; at = sym place-is.1 j })

  lay : Laying f (record { size = length f; big = d.big; at = d.at }) d.count
  lay = subst (λ (h : Head). Laying f h d.count) (sym (head-is o.before) ∙ here-is) (laid f _ d o.laid)

  -- what is asked for its entries
  pub entries-asked : (d.at + dir_len d.count ≤ length f) × (d.count ≤ 1024) × (d.at < 4294967296)
  entries-asked = (lay.whole, lay.few, omega (arith, lay.whole, size o.before))

  entries-are : entry_stage f Here ≡ first (entry_rules Here (entries d.big d.at d.count Bytes))
  unfolding entry_stage entries_in dir_run
  entries-are = ap (λ (k : ℕ). first (entry_rules Here (entries d.big d.at k (run f d.at (dir_len k))))) (sym lay.count)

  next_is : next_in f Here ≡ next_offset d.big d.count Bytes
  unfolding next_in dir_run
  next_is = ap (λ (k : ℕ). next_offset d.big k (run f d.at (dir_len k))) (sym lay.count)

  -- what the pass over it answered
  module _ {s : Scanned} (so : s ≡ scanned_at (length f) d (run f d.at (dir_len d.count))) where
    abbrev Six_seven : Verdict
    Six_seven = first (entry_rules Here (entries d.big d.at d.count Bytes))

    judged-is : s.judged ≡ ruled Six_seven (tt {0})
    unfolding scanned_of
    judged-is = ap (λ (x : Scanned). x.judged) so

    next-found : s.next ≡ next_in f Here
    unfolding scanned_of
    next-found = ap (λ (x : Scanned). x.next) so ∙ sym next_is

    after-scan : mask_verdict f ≡ Six_seven ▷ (next_stage f Here ▷ first (mask_picture_rules f))
    unfolding directory_stage
    after-scan =
        staged o.before here-is
        ∙ ap (λ (x : Verdict). x ▷ (next_stage f Here ▷ first (mask_picture_rules f)))
        (chain-zero (offset_stage Here) _ lay.offset_zero ∙ chain-zero (count_stage f Here) _ lay.count_zero ∙ entries-are)

    -- rules 6 and 7 refuse
    pub scan-bad : (e : Verdict) → s.judged ≡ Err e → Err e.number ≡ numbered (mask_verdict f) (tt {0})
    scan-bad e h =
        let b = broken-ruled Six_seven (tt {0}) e (sym h ∙ judged-is) in
        ap (λ (v : Verdict). Err v.number) b.1 ∙ refused Six_seven (tt {0}) b.0 ∙ ap (λ (v : Verdict). numbered v (tt {0})) (sym (after-scan ∙ chain-stop Six_seven _ b.0))

    module _ {x : Unit {0}} (good : s.judged ≡ Ok x) where
      rules-zero : Six_seven.number ≡ 0
      rules-zero = (found-ruled Six_seven (tt {0}) x (sym good ∙ judged-is)).0

      after-seven : mask_verdict f ≡ next_stage f Here ▷ first (mask_picture_rules f)
      after-seven = after-scan ∙ chain-zero Six_seven _ rules-zero

      -- rule 8
      pub next-bad : (s.next ≡ 0 → ⊥) → Err 8 ≡ numbered (mask_verdict f) (tt {0})
      unfolding next_stage next_rules rule8 first numbered
      next-bad n =
          let e : eqb (next_in f Here) 0 ≡ eqb 1 0 = ap (λ (k : ℕ). eqb k 0) (sym next-found) ∙ ne_eqb s.next 0 n in
          let v : mask_verdict f ≡ verdict 8 0 = after-seven ∙ rw e in
          ap (λ (x : Verdict). numbered x (tt {0})) (sym v)

      pub ready_with : {ts : List ℕ} {found : List Entry} → ts ≡ line_tags (mask_table i.size.width i.size.length) → found ≡ firsts ts (entries d.big d.at d.count (run f d.at (dir_len d.count)))
          → Ready (mask_table i.size.width i.size.length) f d.big d.at d.count found
      unfolding entries_at entry_rules all
      ready_with e k =
          record {
            size = size o.before;
            low = lay.low;
            some = lay.some;
            few = lay.few;
            whole = lay.whole;
            found_are = k ∙ (λ j. firsts (e j) (entries d.big d.at d.count Bytes));
            seven = kept-first (entry_rules Here (entries d.big d.at d.count Bytes)) refl rules-zero 1;
          }

      module _ (none : s.next ≡ 0) where
        view_is : mask_view f ≡ view_of (mask_table i.size.width i.size.length) f d.big d.at d.count
        unfolding mask_view view_at view_of held_at entries_at entries_in dir_run
        view_is = (λ j. view_at (lines_are o.before j) f (here-is j)) ∙ rw (sym lay.count)

        after-eight : mask_verdict f ≡ first (mask_picture_rules f)
        unfolding next_stage next_rules rule8 first
        after-eight =
            let e : eqb (next_in f Here) 0 ≡ eqb 0 0 = ap (λ (k : ℕ). eqb k 0) (sym next-found ∙ none) in
            after-seven ∙ rw e

        parted : mask_verdict f ≡ first (table_rules (mask_view f)) ▷ crossed f
        unfolding mask_picture_rules table_rules crossed both_parts both_pieces all
        parted = after-eight ∙ first-append (table_rules (mask_view f)) _ refl

        pub gathered : {ts : List ℕ} {found : List Entry} → ts ≡ line_tags (mask_table i.size.width i.size.length) → found ≡ firsts ts (entries d.big d.at d.count (run f d.at (dir_len d.count)))
            → Found f i n d found
        unfolding entries_at entry_rules all
        gathered e k =
            record {
              second = o;
              ready = ready_with e k;
              six = kept-first (entry_rules Here (entries d.big d.at d.count Bytes)) refl rules-zero 0;
              view_is = view_is;
              left = parted;
            }

-- rules 27 and 9 to 12
module _ {f : List ℕ} {i : Image} {n : Next} {d : Directory} {found : List Entry} (p : Found f i n d found) where
  parted-seen : mask_verdict f ≡ first (table_rules (view_of (mask_table i.size.width i.size.length) f d.big d.at d.count)) ▷ crossed f
  parted-seen = p.left ∙ ap (λ (v : View). first (table_rules v) ▷ crossed f) p.view_is

  pub tags-bad : (k : ℕ) → Err k ≡ tagged_of (view_of (mask_table i.size.width i.size.length) f d.big d.at d.count) → Err k ≡ numbered (mask_verdict f) (tt {0})
  unfolding tagged_of
  tags-bad k h = first-refuses _ (crossed f) _ (tt {0}) k h ∙ ap (λ (v : Verdict). numbered v (tt {0})) (sym parted-seen)

  pub tags-good : {t : Bool} → Ok t ≡ tagged_of (view_of (mask_table i.size.width i.size.length) f d.big d.at d.count) → numbered (crossed f) (tt {0}) ≡ numbered (mask_verdict f) (tt {0})
  unfolding tagged_of
  tags-good {t} h = sym (ap (λ (v : Verdict). numbered v (tt {0})) parted-seen ∙ first-kept _ (crossed f) _ t (tt {0}) h)

-- what the table asks of the image's size
module _ {f : List ℕ} {i : Image} {n : Next} (b : Before f i n) where
  -- the entries of the image's directory, with their values
  abbrev Tags : List Held
  Tags = held_at table f (head_in f).big (head_in f).at (count_in f (head_in f))

  pub sides-low : (i.size.width ≤ 1000000) × (i.size.length ≤ 1000000)
  sides-low =
      let k = known f (image-zero b) in
      let h = held-is f (image-zero b) in
      let x : i.size.width ≡ value_of (head_in f).big Tag.width Tags = b.width_is ∙ ap (value_of (head_in f).big Tag.width) h in
      let y : i.size.length ≡ value_of (head_in f).big Tag.length Tags = b.length_is ∙ ap (value_of (head_in f).big Tag.length) h in
      (omega (arith, x, k.width_high), omega (arith, y, k.length_high))
