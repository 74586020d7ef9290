-- `read_bits` tells of the values of 258 the first, whether all are allowed, and whether all are the first: at each turn of those before i. Assumes nothing.
use lib.Dec.{eqb}
use Rattle.paper.specs.Tests.{allows}
use Rattle.tags.specs.Numbers.{depths}
use Rattle.tags.proofs.Values.{SoFar}
use Rattle.tags.proofs.read_bits.Given as goal

abbrev pub invariant-loop-i : goal.invariant-loop-i
invariant-loop-i l = SoFar l.part l.big l.k (allows depths) l.i l.allowed × SoFar l.part l.big l.k (eqb l.first) l.i l.same
