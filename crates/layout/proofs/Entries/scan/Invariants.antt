-- `scan` passes over the entries from the last to the first; its turns are laws of `Turns`. Assumes nothing.
use lib.ListN.{length}
use Rattle.layout.specs.Finding.{slot_tags}
use Rattle.layout.proofs.Turns.{Passing}
use Rattle.layout.proofs.Entries.scan.Given as goal

abbrev pub invariant-loop-i : goal.invariant-loop-i
invariant-loop-i l = Passing l.n l.self.directory.big l.self.directory.at l.self.directory.count l.self.bytes.now l.i l.six l.seven l.next (slot_tags l.cells (length l.initial.found)) l.found
