-- `judge` tells what the examination finds. Assumes nothing.
use mathlib.Core.Path.{ap, ◌∙◌}
use Rattle.judge.specs.Examining.{judged_by}
use Rattle.judge.proofs.Seen.{judged-is}
use Rattle.judge.proofs.judge.Goals as goal

pub returns : goal.returns
returns c = c.judged.ensures ∙ ap judged_by c.examine.ensures ∙ judged-is _
