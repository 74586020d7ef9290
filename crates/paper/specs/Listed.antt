-- Document 01, 'Reading list', in its own words, with request C-14's for a mask: by the verdict, whose number is 0 or one of rules 1 to 22, 27 and 28.
-- `Judge.reading_list` goes by the stages that a file keeps; `proofs/Listed` shows that the two are one list. Assumes nothing.
use Rattle.std.specs.Prelude.{ℕ, min, Bool, cond, ◌&&◌, ◌||◌, List, [], ◌∷◌, ◌++◌, map, eqb, leb, length}
use Rattle.paper.specs.Tests.{keep}
use Rattle.paper.specs.Layout.{typed, dir_len}
use Rattle.paper.specs.Tags.{Line, table, in_table}
use Rattle.paper.specs.Pieces.{Part, part}
use Rattle.paper.specs.Judge.{Head, head_in, count_in, entries_in, has_mask, mask_head, mask_lines}
use Rattle.paper.specs.declared.Verdict.{Verdict}

-- verdict v is 0 or at least k
unfoldable pub reaches : ℕ → ℕ → Bool
reaches k v = eqb v 0 || leb k v

-- these parts, with such a verdict alone
abbrev pub from_verdict : ℕ → ℕ → List Part → List Part
from_verdict k v ps = cond (reaches k v) ps []

-- of a directory with a table: with such a verdict 0 or at least 5 the count bytes, with 0 or at least 6 the whole directory, with 0 or at least 8 the
-- value bytes of every entry whose tag is in the table and whose type is 1 to 12. 27 is at least 8, and so it is treated as 8 is.
unfoldable pub directory_by : ℕ → List Line → List ℕ → Head → List Part
directory_by v tb f h =
    from_verdict 5 v (part h.at 2 ∷ [])
    ++ (from_verdict 6 v (part h.at (dir_len (count_in f h)) ∷ [])
    ++ from_verdict 8 v (map (λ e. part e.start e.len) (keep (λ e. in_table tb e.tag && typed e) (entries_in f h))))

-- the mask is on the list: with 28, and with 0 where there is one
unfoldable pub masked : Verdict → List ℕ → Bool
masked v f = eqb v.number 28 || (eqb v.number 0 && has_mask f)

-- The first 8 bytes (all n if fewer), and of the image's directory what the verdict's number gives. Of the mask's directory, with 28 what the number of the
-- rule that it breaks gives, which is the place; with 0, whose place is 0, all; with 1 to 22 and 27 nothing.
unfoldable pub list_by : Verdict → List ℕ → List Part
list_by v f =
    part 0 (min 8 (length f))
    ∷ (directory_by v.number table f (head_in f)
    ++ cond (masked v f) (directory_by v.place (mask_lines f) f (mask_head f)) [])
