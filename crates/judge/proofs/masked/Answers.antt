-- `masked` asks for the mask of a file whose image is known. Assumes nothing.
use Rattle.std.proofs.Common.{◌≡◌, ℕ, Ok, Err, rules}
use Rattle.paper.specs.Outcome.{verdict}
use Rattle.paper.specs.Judge.{mask_stage}
use Rattle.outcomes.specs.Ruled.{ruled}
use Rattle.judge.proofs.Examining.{mask-asked, mask-bad, mask-good}
use Rattle.judge.proofs.masked.Goals as goal

pub judge_mask-requires : goal.judge_mask-requires
judge_mask-requires c = let p = c.requires in mask-asked _ p.1 p.2 p.0

pub returns-in_err-map_err : goal.returns-in_err-map_err
returns-in_err-map_err c =
    let p = c.requires in
    let bad : (m : ℕ) → Err m ≡ c.judge_mask.result → Err (verdict 28 m) ≡ ruled (mask_stage c.args.file.now) (tt {0}) =
    λ m h. mask-bad _ p.1 p.2 c.judge_mask.ensures h in
    search (rules, bad)

pub returns : goal.returns
returns c =
    let p = c.requires in
    let good : Ok tt ≡ c.judge_mask.result = search rules in
    mask-good _ p.1 p.2 c.judge_mask.ensures good
