-- The judgement: rules 1 to 22 and 27 over a file, then 28, the rules of its mask, as request C-14 has them. The file is looked at only through runs,
-- stage by stage; and the reading list.
-- Assumes nothing.
use Rattle.std.specs.Prelude.{ℕ, min, Bool, cond, not, ◌&&◌, List, [], ◌∷◌, ◌++◌, map, eqb, length}
use Rattle.paper.specs.Bytes.{run, num}
use Rattle.paper.specs.Outcome.{Outcome, breaks, Rule, ◌▸◌, first, ◌▷◌}
use Rattle.paper.specs.Layout.{is_big, dir_at, dir_len, entries, next_offset, rule1, rule2, rule3, rule4, rule5, rule6, rule7, rule8}
use Rattle.paper.specs.Tag
use Rattle.paper.specs.Tags.{Line, table, mask_table, Held, hold, bytes_of, value_of, rule27, rule9, rule10, rule11, rule12}
use Rattle.paper.specs.Pieces.{pieces, Piece, Part, part, directory_list, full_list, value_parts, rule13, rule14}
use Rattle.paper.specs.Key
use Rattle.paper.specs.Keys.{Runs, keys, key_value, key_rules}
use Rattle.paper.specs.Ground.{Survey, corners, rule20, rule21, rule22}
use Rattle.paper.specs.declared.Verdict.{Verdict}
use Rattle.paper.specs.declared.Entry.{Entry}

-- ---- what is known after each stage

-- what the head says: the file's length, the byte order, the directory's offset
pub record Head : Type 0 where
  pub size : ℕ
  pub big : Bool
  pub at : ℕ

unfoldable pub head_of : ℕ → List ℕ → Head
head_of n head = record { size = n; big = is_big head; at = dir_at head }

-- what the whole reading list says: the entries, those of the table with their bytes
pub record View : Type 0 where
  pub table : List Line
  pub head : Head
  pub count : ℕ
  pub held : List Held

unfoldable pub runs_of : View → Runs
runs_of v =
    record
    { big = v.head.big; directory = bytes_of Tag.key_directory v.held; doubles = bytes_of Tag.doubles v.held; characters = bytes_of Tag.characters v.held }

unfoldable pub survey_of : View → Survey
survey_of v =
    record {
      big = v.head.big;
      scale = bytes_of Tag.scale v.held;
      tiepoint = bytes_of Tag.tiepoint v.held;
      matrix = bytes_of Tag.matrix v.held;
      width = value_of v.head.big Tag.width v.held;
      length = value_of v.head.big Tag.length v.held;
      point = eqb (key_value Key.raster_type (keys (runs_of v))) 2;
    }

unfoldable pub pieces_of : View → List Piece
pieces_of v = pieces v.head.big v.held

unfoldable pub directory_of : View → List Part
directory_of v = directory_list v.table v.head.at v.count v.held

unfoldable pub full_of : View → List Part
full_of v = full_list v.table v.head.at v.count v.held

-- ---- the rules, by stage

unfoldable pub head_rules : ℕ → List ℕ → List Rule
head_rules n head = 1 ▸ rule1 n ∷ 2 ▸ rule2 head ∷ 3 ▸ rule3 head ∷ []

-- of a directory, at the place that h names: where it stands, its count, its entries, the next offset
unfoldable pub offset_rules : Head → List Rule
offset_rules h = 4 ▸ rule4 h.size h.at ∷ []

unfoldable pub count_rules : Head → ℕ → List Rule
count_rules h c = 5 ▸ rule5 h.size h.at c ∷ []

unfoldable pub entry_rules : Head → List Entry → List Rule
entry_rules h es = 6 ▸ rule6 es ∷ 7 ▸ rule7 h.size es ∷ []

unfoldable pub next_rules : ℕ → List Rule
next_rules next = 8 ▸ rule8 next ∷ []

-- of its values, by its table
unfoldable pub table_rules : View → List Rule
table_rules v =
    27 ▸ rule27 v.held
    ∷ 9 ▸ rule9 v.table v.held
    ∷ 10 ▸ rule10 v.table v.held
    ∷ 11 ▸ rule11 v.table v.head.big v.held
    ∷ 12 ▸ rule12 v.head.big v.held
    ∷ []

-- of its picture, which may touch none of the parts
unfoldable pub piece_rules : List Part → View → List Rule
piece_rules parts v = 13 ▸ rule13 v.head.size (pieces_of v) ∷ 14 ▸ rule14 parts (pieces_of v) ∷ []

-- of the ground
unfoldable pub ground_rules : Survey → List Rule
ground_rules s = 20 ▸ rule20 s ∷ 21 ▸ rule21 s ∷ 22 ▸ rule22 (corners s) ∷ []

-- rules 27 and 9 to 14
unfoldable pub picture_rules : View → List Rule
picture_rules v = table_rules v ++ piece_rules (full_of v) v

-- rules 15 to 22: they see the runs of the keys and of the ground, and the size
unfoldable pub survey_rules : View → List Rule
survey_rules v = key_rules (runs_of v) ++ ground_rules (survey_of v)

-- ---- a directory of a file, at the place that h names, with a table

unfoldable pub count_run : List ℕ → Head → List ℕ
count_run f h = run f h.at 2

unfoldable pub count_in : List ℕ → Head → ℕ
count_in f h = num h.big 2 (count_run f h) 0

unfoldable pub dir_run : List ℕ → Head → List ℕ
dir_run f h = run f h.at (dir_len (count_in f h))

unfoldable pub entries_in : List ℕ → Head → List Entry
entries_in f h = entries h.big h.at (count_in f h) (dir_run f h)

unfoldable pub next_in : List ℕ → Head → ℕ
next_in f h = next_offset h.big (count_in f h) (dir_run f h)

unfoldable pub view_at : List Line → List ℕ → Head → View
view_at tb f h = record { table = tb; head = h; count = count_in f h; held = map (hold tb f) (entries_in f h) }

unfoldable pub offset_stage : Head → Verdict
offset_stage h = first (offset_rules h)

unfoldable pub count_stage : List ℕ → Head → Verdict
count_stage f h = first (count_rules h (count_in f h))

unfoldable pub entry_stage : List ℕ → Head → Verdict
entry_stage f h = first (entry_rules h (entries_in f h))

-- rules 4 to 7: a stage is opened only where the one before is kept
unfoldable pub directory_stage : List ℕ → Head → Verdict
directory_stage f h = offset_stage h ▷ (count_stage f h ▷ entry_stage f h)

unfoldable pub directory_rules : List ℕ → Head → List Rule
directory_rules f h = offset_rules h ++ (count_rules h (count_in f h) ++ entry_rules h (entries_in f h))

-- these parts, where a stage is kept
abbrev pub where_kept : Verdict → List Part → List Part
where_kept v ps = cond (eqb v.number 0) ps []

-- What may be read of it, as far as its own stages went: its count where rule 4 is kept, all of it where rule 5 is, and the values of the table's tags
-- where rules 6 and 7 are.
unfoldable pub directory_parts : List Line → List ℕ → Head → List Part
directory_parts tb f h =
    where_kept (offset_stage h) (part h.at 2
    ∷ where_kept (count_stage f h) (part h.at (dir_len (count_in f h))
    ∷ where_kept (entry_stage f h) (value_parts tb (view_at tb f h).held)))

-- ---- a file

unfoldable pub head_run : List ℕ → List ℕ
head_run f = run f 0 8

unfoldable pub head_in : List ℕ → Head
head_in f = head_of (length f) (head_run f)

unfoldable pub view : List ℕ → View
view f = view_at table f (head_in f)

unfoldable pub head_stage : List ℕ → Verdict
head_stage f = first (head_rules (length f) (head_run f))

unfoldable pub picture_stage : View → Verdict
picture_stage v = first (picture_rules v)

unfoldable pub survey_stage : View → Verdict
survey_stage v = first (survey_rules v)

-- the verdict of rules 1 to 14 and 27, and with the survey of 1 to 22 and 27
unfoldable pub image_stage : List ℕ → Verdict
image_stage f = head_stage f ▷ (directory_stage f (head_in f) ▷ picture_stage (view f))

unfoldable pub file_stage : List ℕ → Verdict
file_stage f = image_stage f ▷ survey_stage (view f)

-- ---- the mask of a file: a second directory, which a next offset other than 0 leads to

unfoldable pub has_mask : List ℕ → Bool
has_mask f = not (eqb (next_in f (head_in f)) 0)

unfoldable pub mask_head : List ℕ → Head
mask_head f = record { size = length f; big = (head_in f).big; at = next_in f (head_in f) }

-- its table has the image's width and length
unfoldable pub mask_lines : List ℕ → List Line
mask_lines f = mask_table (value_of (head_in f).big Tag.width (view f).held) (value_of (head_in f).big Tag.length (view f).held)

unfoldable pub mask_view : List ℕ → View
mask_view f = view_at (mask_lines f) f (mask_head f)

-- the full list is that of both directories, and the picture is the image's and the mask's
unfoldable pub both_parts : List ℕ → List Part
both_parts f = full_of (view f) ++ directory_of (mask_view f)

unfoldable pub both_pieces : List ℕ → List Piece
both_pieces f = pieces_of (view f) ++ pieces_of (mask_view f)

-- rules 27 and 9 to 14 of the mask: neither picture may touch the list
unfoldable pub mask_picture_rules : List ℕ → List Rule
mask_picture_rules f =
    table_rules (mask_view f) ++ (13 ▸ rule13 (length f) (pieces_of (mask_view f)) ∷ 14 ▸ rule14 (both_parts f) (both_pieces f) ∷ [])

-- the rules that the mask keeps for itself, 4 to 14 and 27
unfoldable pub mask_rules : List ℕ → List Rule
mask_rules f = directory_rules f (mask_head f) ++ (next_rules (next_in f (mask_head f)) ++ mask_picture_rules f)

unfoldable pub next_stage : List ℕ → Head → Verdict
next_stage f h = first (next_rules (next_in f h))

unfoldable pub mask_verdict : List ℕ → Verdict
mask_verdict f = directory_stage f (mask_head f) ▷ (next_stage f (mask_head f) ▷ first (mask_picture_rules f))

-- the mask breaks a rule. Place: the number of that rule
unfoldable pub rule28 : List ℕ → Outcome
rule28 f = breaks (has_mask f && not (eqb (mask_verdict f).number 0)) (mask_verdict f).number

unfoldable pub mask_stage : List ℕ → Verdict
mask_stage f = first (28 ▸ rule28 f ∷ [])

-- ---- the verdict and the reading list

unfoldable pub verdict_of : List ℕ → Verdict
verdict_of f = file_stage f ▷ mask_stage f

-- the rules, in order: 27 stands after 7, and 28 after 22
unfoldable pub rules : List ℕ → List Rule
rules f =
    head_rules (length f) (head_run f)
    ++ (directory_rules f (head_in f)
    ++ (picture_rules (view f)
    ++ (survey_rules (view f)
    ++ (28 ▸ rule28 f ∷ []))))

-- every piece of a file, of the image and of the mask that it may have
unfoldable pub all_pieces : List ℕ → List Piece
all_pieces f = pieces_of (view f) ++ cond (has_mask f) (pieces_of (mask_view f)) []

-- the reading list: the head, and of the directory what its stages give; where the file's own rules are kept, and it has a mask, also what the stages
-- of the mask's directory give. `Listed` has it in the documents' words, by the verdict
unfoldable pub reading_list : List ℕ → List Part
reading_list f =
    part 0 (min 8 (length f))
    ∷ (where_kept (head_stage f) (directory_parts table f (head_in f))
    ++ where_kept (file_stage f) (cond (has_mask f) (directory_parts (mask_lines f) f (mask_head f)) []))
