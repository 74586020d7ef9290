-- `kind_of` is the kind of a key where it stands in the table, a law of `Known`. Assumes nothing.
use Rattle.keys.proofs.Known.{found}
use borrow.Author.Rules.{rules}
use Rattle.keys.proofs.kind_of.Goals as goal

pub returns-then-from-key : goal.returns-then-from-key
returns-then-from-key c = search (rules, found)
