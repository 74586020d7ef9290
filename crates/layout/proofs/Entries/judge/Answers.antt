-- `judge` passes over the directory for rule 6 and for rule 7. Assumes nothing.
use Rattle.layout.proofs.Plain.{conclusion}
use Rattle.layout.proofs.Entries.judge.Goals as goal

pub returns : goal.returns
returns c = conclusion _ _ _ _ _ _ c.order_again.ensures c.judge_values.ensures c.conclude.ensures
