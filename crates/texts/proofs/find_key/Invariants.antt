-- `find_key` is a search among the key entries: its turns are laws of `Sought`. Assumes nothing.
use Rattle.texts.proofs.Sought.{Sought}
use Rattle.texts.proofs.find_key.Given as goal

abbrev pub invariant-loop-i : goal.invariant-loop-i
invariant-loop-i l = Sought l.key l.entries.big l.entries.directory.now l.entries.count l.i
