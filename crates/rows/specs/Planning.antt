-- What the rows of a file are made of, what is asked to make them, and 256 rows that are lent. Assumes nothing.
use Rattle.std.specs.Prelude.{ℕ, ◌<◌, ◌≡◌, false, Result, Ok, Err, List, ◌++◌, drop, replicate}
use Rattle.paper.specs.Bytes.{build}
use Rattle.paper.specs.Keys.{key_count}
use Rattle.paper.specs.Judge.{view, runs_of, verdict_of}
use Rattle.paper.specs.Calls.{row_at, rows_of, left_rows}
use Rattle.paper.specs.declared.Row.{Row}
use Rattle.paper.specs.declared.Verdict.{Verdict}
use Rattle.judge.specs.Examining.{examined_of}
use Rattle.judge.specs.declared.Examined.{Examined}
use Rattle.rows.specs.declared.Plan.{Plan}
use Rattle.rows.specs.declared.Planned.{Planned}
use Rattle.rows.specs.declared.Lent.{Lent}

abbrev pub plan_by : Examined → Plan
plan_by e =
    record {
      big = e.image.big;
      len = e.image.directory.len;
      starts =
          record { directory = e.image.directory.start; doubles = e.image.doubles.start; characters = e.image.characters.start };
    }

-- all of them are 0 where a rule of the file refuses
abbrev pub plan_told : Result Examined Verdict → Plan
plan_told (Ok e) = plan_by e
plan_told (Err v) = record { big = false; len = 0; starts = record { directory = 0; doubles = 0; characters = 0 } }

unfoldable pub plan_of : List ℕ → Plan
plan_of f = plan_told (examined_of f)

-- m rows lent
abbrev pub planned_of : List ℕ → ℕ → Planned
planned_of f m = record { counted = rows_of f m; plan = plan_of f }

-- row i can be made: the file is accepted, this is its plan, and i is below K
pub record Asks (f : List ℕ) (p : Plan) (i : ℕ) : Type 0 where
  pub accepted : (verdict_of f).number ≡ 0
  pub planned : p ≡ plan_of f
  pub below : i < key_count (runs_of (view f))

-- the first k rows can be made
pub record Fits (f : List ℕ) (p : Plan) (k : ℕ) : Type 0 where
  pub row : (i : ℕ) → i < k → Asks f p i

-- a row before anything is written, and 256 of them
abbrev pub no_row : Row
no_row = record { key = 0; kind = 0; first = 0; len = 0; entry = 0 }

unfoldable pub blank : List Row
blank = replicate 256 no_row

-- what ys hold when the first k rows of the file are written to them
abbrev pub written : List ℕ → ℕ → List Row → List Row
written f k ys = build (row_at (view f)) 0 k ++ drop k ys

abbrev pub lent_of : List ℕ → Lent
lent_of f = record { counted = rows_of f 256; rows = left_rows f blank }
