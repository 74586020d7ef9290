-- What rules 27 and 9 to 12 answer for a mask's directory that keeps rules 4 to 8: whether the mask is in tiles, or the number of the first broken rule.
-- Assumes nothing.
use Rattle.std.specs.Prelude.{ℕ, Bool, cond, eqb, Result, Ok, Err}
use Rattle.paper.specs.Outcome.{first}
use Rattle.paper.specs.Tags.{tiled}
use Rattle.paper.specs.Judge.{View, table_rules}
use Rattle.paper.specs.declared.Verdict.{Verdict}

-- what code answers of a mask's rules: what it found where none of them is broken, and else the number of the first
unfoldable pub numbered : {A : Type 0} → Verdict → A → Result A ℕ
numbered w a = cond (eqb w.number 0) (Ok a) (Err w.number)

unfoldable pub tagged_of : View → Result Bool ℕ
tagged_of v = numbered (first (table_rules v)) (tiled v.held)
