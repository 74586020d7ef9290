-- `entry_at` is an entry of the directory: its value stands in the entry where it has at most 4 bytes, and else at its offset. Assumes nothing.
use borrow.Author.Rules.{rules}
use Rattle.paper.proofs.Bounds.{near-entry, far-entry}
use Rattle.layout.proofs.Sizes.{value-length}
use Rattle.layout.proofs.entry_at.Goals as goal

pub returns-then-len-le4 : goal.returns-then-len-le4
returns-then-len-le4 c = search (rules, value-length, near-entry)

pub returns-else-len-le4 : goal.returns-else-len-le4
returns-else-len-le4 c = search (rules, value-length, far-entry)
