-- What a number tells of a rule whose place is a SHORT. Assumes nothing.
use Rattle.std.specs.Prelude.{ℕ, cond, eqb}
use Rattle.paper.specs.declared.Outcome.{Outcome}
use Rattle.paper.specs.declared.Outcome.TheVariants.{Kept as kept, Broken as broken}

-- 65536, which is above every SHORT, that it is kept; any other that it is broken there
unfoldable pub told_by : ℕ → Outcome
told_by p = cond (eqb p 65536) kept (broken p)
