-- `find` passes over the tags from the first to the last; its turns are laws of `Plain`. Assumes nothing.
use Rattle.layout.proofs.Plain.{Sought}
use Rattle.layout.proofs.find.Given as goal

abbrev pub invariant-loop-i : goal.invariant-loop-i
invariant-loop-i l = Sought l.tag l.big l.count l.dir l.i
