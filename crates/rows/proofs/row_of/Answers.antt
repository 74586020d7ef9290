-- `row_of` is the paper's row: the key directory's part and the three starts are those of the view. Assumes nothing.
use Rattle.rows.proofs.Asked.{asked, made}
use Rattle.rows.proofs.row_of.Goals as goal

pub value-requires : goal.value-requires
value-requires c =
    let a = c.args in
    (asked a.file.now a.plan a.i c.requires).within

pub row-requires : goal.row-requires
row-requires c =
    let a = c.args in
    rw c.value.ensures (asked a.file.now a.plan a.i c.requires).asks

pub returns : goal.returns
returns c =
    let a = c.args in
    made a.file.now a.plan a.i c.requires _ c.value.ensures _ c.row.ensures
