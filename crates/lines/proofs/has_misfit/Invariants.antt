-- `has_misfit` looks at the entries one after the other; its turns are laws of `Later`. Assumes nothing.
use Rattle.lines.proofs.Later.{Fine}
use Rattle.lines.proofs.has_misfit.Given as goal

abbrev pub invariant-loop-j : goal.invariant-loop-j
invariant-loop-j l = Fine l.fn.line l.big l.entries l.many l.j
