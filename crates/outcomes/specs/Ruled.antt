-- What code answers of rules: what it found where none of them is broken, and else the verdict. Assumes nothing.
use Rattle.std.specs.Prelude.{cond, eqb, Result, Ok, Err}
use Rattle.paper.specs.declared.Verdict.{Verdict}

unfoldable pub ruled : {A : Type 0} → Verdict → A → Result A Verdict
ruled v a = cond (eqb v.number 0) (Ok a) (Err v)
