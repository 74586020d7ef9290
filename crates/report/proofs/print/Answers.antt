-- `print` hands on at most 256 rows: K is no more than the rows that are lent. Assumes nothing.
use Rattle.std.proofs.Common.{◌≤◌, sym, subst}
use Rattle.rows.specs.declared.Lent.{Lent}
use Rattle.rows.proofs.Counting.{few}
use Rattle.report.proofs.print.Goals as goal

pub shared_ref_as_front-rows : goal.shared_ref_as_front-rows
shared_ref_as_front-rows g c = subst (λ (x : Lent). x.counted.keys ≤ 256) (sym c.lend-lent.ensures) (few c.args.file.now 256)
