-- `judge_mask` opens the directory that the next offset leads to. Assumes nothing.
use Rattle.std.proofs.Common.{rules}
use Rattle.second.proofs.Staged.{size, open-bad}
use Rattle.second.proofs.judge_mask.Goals as goal

pub open-requires : goal.open-requires
open-requires c = search size

pub returns-in_err-directory : goal.returns-in_err-directory
returns-in_err-directory c = search (rules, open-bad)
