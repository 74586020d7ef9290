-- What the rows of a table must satisfy, computed once for each table: row by row they say what the lines of the paper's table say, no tag is 0, and 50909,
-- which may stand more than once, is that of the last line or of none. Assumes nothing.
use Rattle.std.specs.Prelude.{ℕ, ◌≡◌, Bool, true, false, not, ◌&&◌, List, [], ◌∷◌, map, eqb}
use Rattle.paper.specs.Tests.{all}
use Rattle.paper.specs.Tag
use Rattle.paper.specs.Tags.{Line, named}
use Rattle.lines.specs.Rows.{needed_by}
use Rattle.lines.specs.declared.Line.{Line as Row}

-- the tags of a table, in order
unfoldable pub line_tags : List Line → List ℕ
line_tags tb = map (λ l. l.tag) tb

-- those of a table's rows
unfoldable pub row_tags : List Row → List ℕ
row_tags rows = map (λ r. r.tag) rows

-- two tests give the same
abbrev pub same : Bool → Bool → Bool
same true b = b
same false b = not b

-- a row says what a line says, but for its values
unfoldable pub says : Row → Line → Bool
says r l =
    eqb r.tag l.tag
    && (same (needed_by r.needed true) (l.needed true)
    && (same (needed_by r.needed false) (l.needed false)
    && (eqb r.typ l.type
    && (eqb r.other l.other
    && (eqb r.least l.least
    && eqb r.most l.most)))))

unfoldable pub all_say : List Row → List Line → Bool
all_say [] [] = true
all_say [] (l ∷ ls) = false
all_say (r ∷ rs) [] = false
all_say (r ∷ rs) (l ∷ ls) = says r l && all_say rs ls

-- no line but the last has tag 50909
unfoldable pub text_last : List Line → Bool
text_last [] = true
text_last (l ∷ []) = true
text_last (l ∷ m ∷ ls) = not (eqb l.tag Tag.metadata) && text_last (m ∷ ls)

pub record Lined (rows : List Row) (tb : List Line) : Type 0 where
  pub say : all_say rows tb ≡ true
  pub tags : all named tb ≡ true
  pub text : text_last tb ≡ true
