-- `put_elements` lays the elements of a value: from the loop's place on those from i on are to be laid. Assumes nothing.
use Rattle.std.proofs.Common.{◌≡◌, ◌+◌, ◌*◌, drop}
use Rattle.paper.specs.Bytes.{elems}
use Rattle.paper.specs.Block.{encs}
use Rattle.block.specs.Splice.{splice}
use Rattle.block.proofs.Turns.{elements_from}
use Rattle.block.proofs.put_elements.Given as goal

abbrev pub invariant-loop-i : goal.invariant-loop-i
invariant-loop-i g l =
    splice l.out (l.at + g.row.W * l.i) (elements_from l.source l.big g.row.W l.start l.count l.i)
    ≡ splice l.initial.out l.at (encs g.row.W (elems l.big g.row.W l.count (drop l.start l.source)))
