-- The lines that are printed of a file, as bytes. Each ends in a newline, and all numbers are in decimal. Assumes nothing.
use Rattle.std.specs.Prelude.{ℕ, List, [], ◌∷◌, ◌++◌, length, take, codes, decimal, ◌==◌, nat_lt, if◌then◌else◌}
use Rattle.std.specs.List.{flat_map}
use Rattle.paper.specs.declared.Verdict.{Verdict}
use Rattle.paper.specs.declared.Row.{Row}
use Rattle.rows.specs.Planning.{lent_of}
use Rattle.rows.specs.declared.Lent.{Lent}

abbrev pub newline : List ℕ
newline = 10 ∷ []

abbrev pub verdict_line : Verdict → List ℕ
verdict_line v = codes "verdict " ++ (decimal v.number ++ (codes " place " ++ (decimal v.place ++ newline)))

-- key, kind, first byte, length, place of the entry
abbrev pub row_line : Row → List ℕ
row_line r =
    decimal r.key
    ++ (codes " " ++ (decimal r.kind ++ (codes " " ++ (decimal r.first ++ (codes " " ++ (decimal r.len ++ (codes " " ++ (decimal r.entry ++ newline))))))))

-- K, and the first K of the rows
abbrev pub key_lines : ℕ → List Row → List ℕ
key_lines k rs = (codes "keys " ++ (decimal k ++ newline)) ++ flat_map row_line (take k rs)

-- the key rows are printed of an accepted file alone
abbrev pub lines : Lent → List ℕ
lines l = verdict_line l.counted.verdict ++ (if l.counted.verdict.number == 0 then key_lines l.counted.keys l.rows else [])

-- what the rows' call answers of the file, and the 256 rows that it writes to
abbrev pub lines_of : List ℕ → List ℕ
lines_of f = lines (lent_of f)

-- what the programs answer to an input, with what stands in front of the verdict
abbrev pub answer_of : List ℕ → List ℕ → List ℕ
answer_of front xs = if nat_lt 65536 (length xs) then codes "too long" ++ newline else (front ++ lines_of xs)
