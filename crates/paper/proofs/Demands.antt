-- The demands, as theorems about the definitions of `specs/`. A file is a list of bytes. This page states; the proofs are in the files that it
-- names. The words are in specs/: `Asked` (AllKept, FirstBroken, Agree, SameAnswers, Repainted, SameKeys), `Lent` for demand 1, `Places` for the first
-- place, `Shown` for rows, georeference, corners, pieces and metadata texts, `Laid` for the key block, `Listed` for the reading list. Assumes nothing.
use Prim.Native.Nat.{ℕ, ◌≤◌, ◌<◌, min}
use mathlib.Core.Path.{◌≡◌, refl, sym, ◌∙◌}
use mathlib.Core.Bool.{true, false, ◌&&◌}
use mathlib.Core.List.{List, [], ◌∷◌, map}
use lib.Dec.{eqb}
use lib.ListN.{length, get_or}
use Rattle.paper.specs.Outcome.{Rule, verdict, first}
use Rattle.paper.specs.Tests.{keep}
use Rattle.paper.specs.Tags.{table, mask_table, strip_tags, tile_tags}
use Rattle.paper.specs.Pieces.{part}
use Rattle.paper.specs.Keys.{Runs, minor_revision, key_count, keys, key_rules}
use Rattle.paper.specs.Judge.{head_in, entries_in, next_in, view, runs_of, full_of, both_parts, all_pieces, has_mask, mask_rules, file_stage, verdict_of, rules, reading_list}
use Rattle.paper.specs.Calls.{answer, judged_of, left_rows, text_of, read_runs}
use Rattle.paper.specs.Block.{block_of, block_left}
use Rattle.paper.specs.Asked.{AllKept, FirstBroken, Agree, on_list, SameAnswers, no_piece, Within, InPiece, Repainted, Bytes, SameKeys, lent_runs}
use Rattle.paper.specs.Listed.{directory_by, list_by}
use Rattle.paper.specs.Lent.{Guarded, Reads}
use Rattle.paper.specs.Places.{Places}
use Rattle.paper.specs.Shown.{Shows}
use Rattle.paper.specs.Laid.{LaidOut, BlockRefusals}
use Rattle.paper.proofs.Lent.{guarded, reads}
use Rattle.paper.proofs.First.{first-kept, first-broken, broken-first, verdict-rules, all-kept, ruled, mask-ruled}
use Rattle.paper.proofs.Keeps.{mask-all-kept, mask-refused}
use Rattle.paper.proofs.Called.{judged-verdict}
use Rattle.paper.proofs.Places.{places}
use Rattle.paper.proofs.Shown.{shows}
use Rattle.paper.proofs.Laid.{laid_out, block-refusals}
use Rattle.paper.proofs.Settled.{laid-once}
use Rattle.paper.proofs.Listed.{list-is, full_is, both_is}
use Rattle.paper.proofs.Unseen.{verdict-same, judged-same, rows_same, left_rows-same, cited-same, text_same, block_same, block_left-same}
use Rattle.paper.proofs.Citation.{citation-same}
use Rattle.paper.proofs.Metadata.{metadata-same}
use Rattle.paper.proofs.Picture.{pieces-within, pieces-unread, repainted-agree}
use Rattle.paper.proofs.Kept.{carries, table_before, tags-before, needed-before, verdict_before, verdict-kept}
use Rattle.paper.proofs.Once.{repeats, verdict_once, verdict-once, verdict-else, no_second, text_before, text-once}
use Rattle.paper.proofs.Minor.{key_rules_zero, verdict_zero, verdict-zero, verdict-fifteen, read-zero, Twins, count_same, keys-same, rules-same}
use Rattle.paper.proofs.Alone.{verdict_alone, verdict-alone, verdict-eight}
use Rattle.paper.proofs.Four.{four, fours_left, rows_four}
use Rattle.paper.proofs.Trip.{read-accepted, read_same}
use Rattle.paper.specs.declared.Block.{Block}
use Rattle.paper.specs.declared.Row.{Row}

-- DEMAND 1. Every call takes any bytes, whatever is lent or asked: the definitions are total, and no contract of a public call asks anything. A call on
-- a file gives the number and the place of the file's first broken rule, one of 1 to 7, 9 to 22, 27 and 28; where none is broken, 0 with place 0 or a number
-- of its own: 23 for rows, 26 for a citation, 29 for a metadata text, 24 before 25 for the key block (`numbers`). 23 and 25 name the room that is
-- needed, 26 the key asked, 29 the number of the text asked (`named`). A refusal has nothing beside its verdict: other numbers are 0, doubles +0, parts
-- empty, and every lent row and byte is as it was (`refusals`). An accepting call writes K rows, or the block's bytes, in front; what is behind keeps
-- its content (`writes`).
pub lent : (f : List ℕ) → Guarded f
lent f = guarded f

-- The call that reads three runs back, without a file, gives 0 or 15 to 19, and with any number but 0 no K and no minor revision.
pub read_back : (r : Runs) → Reads r
read_back r = reads r

module _ (f : List ℕ) where
  -- The rules stand in the order of their numbers, 1 to 7 and 9 to 22, with 27 directly after 7; then 28, that of the mask. Rule 8 is a mask's alone.
  pub in_order : map (λ (r : Rule). r.number) (rules f)
      ≡ 1 ∷ 2 ∷ 3 ∷ 4 ∷ 5 ∷ 6 ∷ 7 ∷ 27 ∷ 9 ∷ 10 ∷ 11 ∷ 12 ∷ 13 ∷ 14 ∷ 15 ∷ 16 ∷ 17 ∷ 18 ∷ 19 ∷ 20 ∷ 21 ∷ 22 ∷ 28 ∷ []
  unfolding ruled
  in_order = refl

  -- These are the rules that a mask keeps for itself, with its own table.
  pub mask-in-order : map (λ (r : Rule). r.number) (mask_rules f) ≡ 4 ∷ 5 ∷ 6 ∷ 7 ∷ 8 ∷ 27 ∷ 9 ∷ 10 ∷ 11 ∷ 12 ∷ 13 ∷ 14 ∷ []
  unfolding mask-ruled
  mask-in-order = refl

  -- DEMAND 2. A file is accepted, verdict 0 with place 0, exactly where no rule is broken.
  pub accepted : AllKept (rules f) → verdict_of f ≡ verdict 0 0
  accepted h = verdict-rules f ∙ first-kept (rules f) h

  pub accepted-only : (verdict_of f).number ≡ 0 → AllKept (rules f)
  accepted-only z = all-kept f z

  -- Otherwise the verdict is the number of the first broken rule, with that rule's place; and it is no other number.
  pub refused : (k p : ℕ) → FirstBroken (rules f) k p → verdict_of f ≡ verdict k p
  refused k p h = verdict-rules f ∙ first-broken (rules f) k p h

  pub refused-only : (k p : ℕ) → verdict_of f ≡ verdict k p → (k ≡ 0 → ⊥) → FirstBroken (rules f) k p
  refused-only k p h n = broken-first (rules f) k p (sym (verdict-rules f) ∙ h) n

  -- A file with a mask, one whose next offset is not 0, is accepted only where the mask breaks no rule; and where the file keeps 1 to 22 and 27 and its mask
  -- breaks a rule, the verdict is 28 and its place the number of the first one. That it is 28 only then is `placed.at28`.
  pub mask-accepted : (verdict_of f).number ≡ 0 → has_mask f ≡ true → AllKept (mask_rules f)
  mask-accepted z there = mask-all-kept f z there

  pub mask-refuses : (p q : ℕ) → (file_stage f).number ≡ 0 → has_mask f ≡ true → FirstBroken (mask_rules f) p q → verdict_of f ≡ verdict 28 p
  mask-refuses p q z there b = mask-refused f p q z there b

  -- That place is the rule's first: of its first fault or of the lowest, as document 01 words it for each rule, and 0 where it gives none.
  pub placed : Places f
  placed = places f

  -- The whole judgement gives this verdict.
  pub judged : (judged_of f).verdict ≡ verdict_of f
  judged = judged-verdict f

-- What an accepted file shows is what the document defines, over the bytes as they stand in the file. `keys`: the minor revision, 0 or 1, as the key
-- header has it, K and the entries. `rows`: key, kind, the part of the file that holds the key's value, and the place of the key's entry, whose eight bytes
-- lie in the file there and whose first number is the row's key; later rows keep their content. `ground`: the
-- georeference from tiepoint and scale or from the matrix, the two corners written out, all finite. `pieces`: as many as the size asks for, one or more,
-- and where each lies. `texts`: number k, counted from 0, is the value of entry k of tag 50909; with no such tag number 0 is the outside text; any other
-- number is refused by 29.
pub shown : (f : List ℕ) → (verdict_of f).number ≡ 0 → Shows f
shown f accepts = shows f accepts

-- The written key block reads back: where the call accepts, the three runs in the lent output, cut by the three lengths that it gave, keep rules 15
-- to 19, give the same K and the same minor revision, and hold the same keys in the same order with the same values, doubles by their 64 bits.
module _ (f out : List ℕ) (bytes : Bytes f) (accepts : (block_of f (length out)).verdict.number ≡ 0) where
  pub block-accepted : read_runs (lent_runs (block_left f out) (block_of f (length out)))
      ≡ record { verdict = verdict 0 0; keys = key_count (runs_of (view f)); minor = minor_revision (runs_of (view f)) }
  block-accepted = read-accepted f out bytes accepts

  pub block-keys : SameKeys (runs_of (view f)) (lent_runs (block_left f out) (block_of f (length out)))
  block-keys = read_same f out bytes accepts

  -- It is laid out as document 01 says: header, entries and values in key order without gaps or sharing, each start index the base plus the counts
  -- before it, the three lengths in bytes as sums, little-endian, and the bytes after the block stay.
  pub block-laid : LaidOut (runs_of (view f)) (block_of f (length out)) out (block_left f out)
  block-laid = laid_out f out bytes accepts

-- That layout leaves no byte of the output open.
pub layout-settles : (r : Runs) (b c : Block) (out x y : List ℕ) → LaidOut r b out x → LaidOut r c out y → x ≡ y
layout-settles = laid-once

-- Of an accepted file the block is refused by 24 exactly at the first key whose value would start past 65,535, and else by 25 exactly where the
-- lent bytes are fewer than it needs, with those as place.
pub block_refused : (f : List ℕ) (m : ℕ) → (verdict_of f).number ≡ 0 → BlockRefusals (runs_of (view f)) m (block_of f m).verdict
block_refused = block-refusals

-- DEMAND 3. Two files of equal length that agree on every byte of the first file's reading list get the same answers from every call, whatever is
-- lent or asked: verdict, place, K, minor revision, georeference, corners, rows, citation (place and bytes), metadata text (place and bytes), key block and its lengths.
-- What is lent and asked is equal for both files: the outside text, the key of a citation, the number of a metadata text.
pub unseen : (f g : List ℕ) → length f ≡ length g → Agree f g (reading_list f) → SameAnswers f g
unseen f g n h =
    record {
      verdict = verdict-same f g n h;
      judged = judged-same f g n h;
      counted = rows_same f g n h;
      rows = left_rows-same f g n h;
      cited = cited-same f g n h;
      citations = citation-same f g n h;
      texts = text_same f g n h;
      metadatas = metadata-same f g n h;
      lengths = block_same f g n h;
      blocks = block_left-same f g n h;
    }

-- That list is the documents', by the verdict: the first 8 bytes, or all of a shorter file, and with 1 to 4 nothing else; with 5 also the count's
-- 2 bytes; with 6 and 7 the whole directory; with 0, with 9 to 22, with 27 and with 28 also the value bytes of every entry whose tag is in the table and
-- whose type is 1 to 12. With 0 it holds the same of a mask in full; with 28 as much of the mask as the number of the rule that it breaks, the place, gives;
-- with any other number nothing of it.
pub list : (f : List ℕ) → reading_list f ≡ list_by (verdict_of f) f
list = list-is

-- The list that rule 14 tests is the full one, that of verdict 0: for the image what its own directory gives, for the mask that of both. Where it is tried
-- rule 1 is kept, and so there are 8 bytes.
pub list_full : (f : List ℕ) → 8 ≤ length f → full_of (view f) ≡ part 0 (min 8 (length f)) ∷ directory_by 0 table f (head_in f)
list_full = full_is

pub list-both : (f : List ℕ) → 8 ≤ length f → has_mask f ≡ true → both_parts f ≡ list_by (verdict 0 0) f
list-both = both_is

module _ (f : List ℕ) (accepts : (verdict_of f).number ≡ 0) where
  -- In an accepted file every strip or tile, of the image and of the mask, lies within the file, behind its head,
  pub pieces-inside : (k : ℕ) → k < length (all_pieces f) → Within (length f) (get_or (all_pieces f) k no_piece).place
  pieces-inside = pieces-within f accepts

  -- no byte of one is on the reading list,
  pub pieces-closed : (k : ℕ) → k < length (all_pieces f) → (i : ℕ) → InPiece f k i → on_list i (reading_list f) ≡ false
  pieces-closed = pieces-unread f accepts

  -- and so repainting the two pictures changes no answer.
  pub picture : (g : List ℕ) → Repainted f g → SameAnswers f g
  picture g r = unseen f g r.long (repainted-agree f g accepts r)

-- STRIPS STAY. C-11 changed nothing for files of strips: one with some strip tag (273, 278, 279) and no tile tag (322 to 325) has the verdict and the place
-- of `verdict_before`, the judgement without C-11, which is written out in `Kept`. That has no rule 27, and its rules 9 to 14 go by a table without
-- the tiles' lines and read 273, 278 and 279 alone; every other rule it shares with the verdict: rules 6 and 10 as C-12, rule 15 as C-13 leaves it, and C-14's
-- mask. So this fixes what C-11 did and no more: where a request moves rule 6, 15 or 28, `verdict_before` moves with it.
pub strips-kept : (f : List ℕ) → carries strip_tags (entries_in f (head_in f)) ≡ true → carries tile_tags (entries_in f (head_in f)) ≡ false
    → verdict_of f ≡ verdict_before f
strips-kept f some none = verdict-kept f none some

-- Its table has the tags of document 01's, and needs the same.
pub strips-tags : map (λ l. l.tag) table_before
    ≡ 256 ∷ 257 ∷ 258 ∷ 259 ∷ 262 ∷ 273 ∷ 277 ∷ 278 ∷ 279 ∷ 284 ∷ 33550 ∷ 33922 ∷ 34264 ∷ 34735 ∷ 34736 ∷ 34737 ∷ 50909 ∷ []
strips-tags = tags-before

pub strips-needed : map (λ l. l.tag) (keep (λ l. l.needed true && l.needed false) table_before)
    ≡ 256 ∷ 257 ∷ 258 ∷ 259 ∷ 262 ∷ 273 ∷ 277 ∷ 278 ∷ 279 ∷ 34735 ∷ []
strips-needed = needed-before

-- ONE TAG STAYS. C-12 changed nothing for files in which no 50909 stands directly behind another: they have the verdict and the place of `verdict_once`,
-- the judgement without C-12, which is written out in `Once`. There each tag is greater than the one before (rule 6), and of each tag the first entry
-- alone is tested by rule 10. Every other rule it shares with the verdict, so that it has C-11's tiles, C-13's minor revision and C-14's mask.
pub once-kept : (f : List ℕ) → repeats (entries_in f (head_in f)) ≡ false → verdict_of f ≡ verdict_once f
once-kept = verdict-once

-- And whatever its tags are: only a file that was refused by 6 with place 50909 may have another verdict now.
pub once-else : (f : List ℕ) → (verdict_once f ≡ verdict 6 50909 → ⊥) → verdict_of f ≡ verdict_once f
once-else = verdict-else

-- Of any tag but 50909 an accepted file has one entry at most.
pub others-once : (f : List ℕ) → (verdict_of f).number ≡ 0 → (t : ℕ) → (t ≡ 50909 → ⊥) → length (keep (λ e. eqb e.tag t) (entries_in f (head_in f))) ≤ 1
others-once = no_second

-- Number 0 of the metadata texts is what the call without a number gave, in every file, also where the tag is repeated: by `text_before` the value of the
-- tag's first entry, and with no such tag the outside text; a refused file gives its verdict alone.
pub text-kept : (f : List ℕ) (m : ℕ) → text_of f 0 m ≡ answer f (text_before m) (λ v. record { verdict = v; from = 0; start = 0; len = 0 })
text-kept = text-once

-- REVISION 0 STAYS. C-13 changed nothing for files whose key header has another minor revision than 1: they have the verdict and the place of
-- `verdict_zero`, the judgement without C-13, which is written out in `Minor`. There rule 15 wants 0; every other rule it shares with the verdict.
pub zero-kept : (f : List ℕ) → (minor_revision (runs_of (view f)) ≡ 1 → ⊥) → verdict_of f ≡ verdict_zero f
zero-kept = verdict-zero

-- And whatever its header is: only a file that was refused by 15 may have another verdict now.
pub zero-else : (f : List ℕ) → (verdict_zero f ≡ verdict 15 0 → ⊥) → verdict_of f ≡ verdict_zero f
zero-else = verdict-fifteen

-- The same of three runs that are read back.
pub read_kept : (r : Runs) → (minor_revision r ≡ 1 → ⊥) → (read_runs r).verdict ≡ first (key_rules_zero r)
read_kept = read-zero

-- The minor revision decides nothing else: runs that differ in it alone, and have 0 or 1 there, give the same for each of the rules 15 to 19, have the
-- same K and the same entries.
module _ (r s : Runs) (twins : Twins r s) where
  pub minor-alone : minor_revision r ≤ 1 → minor_revision s ≤ 1 → key_rules r ≡ key_rules s
  minor-alone = rules-same r s twins

  pub minor-keys : (key_count r ≡ key_count s) × (keys r ≡ keys s)
  minor-keys = (count_same r s twins, keys-same r s twins)

-- ONE DIRECTORY STAYS. C-14 changed nothing for files whose next offset is 0: they have the verdict and the place of `verdict_alone`, the judgement without
-- C-14, which is written out in `Alone`. There rule 8 wants that 0, directly behind rule 7; every other rule it shares with the verdict.
pub alone-kept : (f : List ℕ) → next_in f (head_in f) ≡ 0 → verdict_of f ≡ verdict_alone f
alone-kept = verdict-alone

-- And whatever it leads to: only a file that was refused by 8 may have another verdict now.
pub alone-else : (f : List ℕ) → (verdict_alone f ≡ verdict 8 0 → ⊥) → verdict_of f ≡ verdict_alone f
alone-else = verdict-eight

-- The table of a mask has the tags of a picture, and 254.
pub mask-tags : (w l : ℕ) → map (λ l. l.tag) (mask_table w l)
    ≡ 256 ∷ 257 ∷ 258 ∷ 259 ∷ 262 ∷ 273 ∷ 277 ∷ 278 ∷ 279 ∷ 284 ∷ 322 ∷ 323 ∷ 324 ∷ 325 ∷ 254 ∷ []
unfolding mask_table
mask-tags w l = refl

-- FOUR NUMBERS STAY. C-15 gave each key row a fifth number and changed no other: with the places of the entries taken off, the lent rows of every file
-- hold what `fours_left` says, the rows without C-15, which are written out in `Four`.
pub four-kept : (f : List ℕ) (lent : List Row) → map four (left_rows f lent) ≡ fours_left f (map four lent)
four-kept = rows_four

-- The marked examples are in `Marked` (`marked`, one table), with the whole reading list of a file of each stage (`allowed`); those of tiles are in
-- `Tiled`, those with tag 50909 more than once in `Repeated`, those of minor revision 1 in `Revised`, those with a mask in `Masked`; accepted files of either byte order with their place on
-- the ground in `Placed`; every call on one file in either order, byte for byte, in `FileC`; files with two faults in `Faults`; both sides of the
-- documents' numbers in `Boundaries`, `TagBoundaries` and `KeyBoundaries`; the 45 kinds in `Tables`.
