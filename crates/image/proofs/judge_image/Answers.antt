-- `judge_image` reads the head, opens the directory at the place that it names, and goes on with that. Assumes nothing.
use Rattle.std.proofs.Common.{rules}
use Rattle.layout.proofs.Opening.{head-good}
use Rattle.layout.proofs.Stages.{laid-at}
use Rattle.image.proofs.Imaging.{headed-bad, opened-bad}
use Rattle.image.proofs.judge_image.Goals as goal

pub returns-in_err-head : goal.returns-in_err-head
returns-in_err-head c = search (rules, headed-bad)

pub open-requires : goal.open-requires
open-requires c = (head-good _ _ c.in_ok-head.ensures).size

pub returns-in_err-directory : goal.returns-in_err-directory
returns-in_err-directory c = search (rules, opened-bad)

pub image_laid-requires : goal.image_laid-requires
image_laid-requires c = laid-at c.in_ok-head.ensures c.in_ok-directory.ensures
