-- `has_misfit` looks at the entries one after the other; its turns are laws of `Later`. Assumes nothing.
use Rattle.lines.proofs.Later.{fine-bad, fine_more, fine_end}
use Rattle.lines.proofs.has_misfit.Goals as goal

pub returns-then-is_unlike : goal.returns-then-is_unlike
returns-then-is_unlike c = search fine-bad

pub loop-j-preserved : goal.loop-j-preserved
loop-j-preserved c = search fine_more

pub returns : goal.returns
returns c = search fine_end
