-- `key_rows` has no branch: what can be written is what the count says, and nothing where that is 0. Assumes nothing.
use Rattle.std.proofs.Common.{sym, ap, ◌∙◌}
use Rattle.rows.specs.declared.Planned.{Planned}
use Rattle.rows.proofs.Counting.{writes}
use Rattle.rows.proofs.key_rows.Goals as goal

pub fill-requires : goal.fill-requires
fill-requires c = let w = writes c.args.file.now c.args.rows.now in rw c.count-p.ensures (w.lent, w.fits)

pub returns : goal.returns
returns c =
    let w = writes c.args.file.now c.args.rows.now in
    (ap (λ (p : Planned). p.counted) c.count-p.ensures, rw c.count-p.ensures at c.fill.ensures ∙ sym w.left)
