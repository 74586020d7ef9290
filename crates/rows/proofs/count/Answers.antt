-- `count` is the paper's answer with the plan of the file: one law of `Counting` for each return. Assumes nothing.
use mathlib.Core.Path.{◌≡◌, ap}
use Rattle.paper.specs.declared.Counted.{Counted}
use Rattle.rows.specs.Planning.{plan_told, plan_of}
use Rattle.rows.specs.declared.Plan.{Plan}
use Rattle.rows.specs.declared.Planned.{Planned}
use Rattle.rows.proofs.Counting.{refused, too_few, enough}
use Rattle.rows.proofs.count.Goals as goal

abbrev planned : Counted → Plan → Planned
planned c p = record { counted = c; plan = p }

both : (c c' : Counted) (p p' : Plan) → c ≡ c' → p ≡ p' → planned c p ≡ planned c' p'
both c c' p p' e g = λ i. planned (e i) (g i)

pub returns-in-Err : goal.returns-in-Err
unfolding plan_of
returns-in-Err c =
    let a = c.args in
    both _ _ _ _ (refused a.file.now _ c.in-Err.ensures a.lent) (ap plan_told c.in-Err.ensures)

pub returns-then-lent-k : goal.returns-then-lent-k
unfolding plan_of
returns-then-lent-k c =
    let a = c.args in
    both _ _ _ _ (too_few a.file.now _ c.in-Ok.ensures a.lent c.if-lent-k.true) (ap plan_told c.in-Ok.ensures)

pub returns : goal.returns
unfolding plan_of
returns c =
    let a = c.args in
    both _ _ _ _ (enough a.file.now _ c.in-Ok.ensures a.lent c.if-lent-k.false) (ap plan_told c.in-Ok.ensures)
