-- `order_again` passes over the tags from the last to the first; its turns are laws of `Ordering`. Assumes nothing.
use Rattle.layout.proofs.Ordering.{Counting}
use Rattle.layout.proofs.Entries.order_again.Given as goal

abbrev pub invariant-loop-i : goal.invariant-loop-i
invariant-loop-i l = Counting l.self.directory.big l.self.directory.at l.self.directory.count l.self.bytes.now l.i l.six l.next l.first l.many
