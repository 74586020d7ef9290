-- `judge_values` tests the values from the first to the last; its turns are laws of `Plain`. Assumes nothing.
use Rattle.layout.proofs.Plain.{Fitting}
use Rattle.layout.proofs.Entries.judge_values.Given as goal

abbrev pub invariant-loop-i : goal.invariant-loop-i
invariant-loop-i l = Fitting l.n l.self.directory.big l.self.directory.at l.self.directory.count l.self.bytes.now l.i
