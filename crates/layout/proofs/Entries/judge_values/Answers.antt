-- `judge_values` tests the values from the first to the last; its turns are laws of `Plain`. Assumes nothing.
use borrow.Author.Rules.{rules}
use Rattle.layout.proofs.Sizes.{len_of}
use Rattle.layout.proofs.Plain.{fit-start, fit-bad, fit-more, fit-end}
use Rattle.layout.proofs.Entries.judge_values.Goals as goal

pub loop-i-init : goal.loop-i-init
loop-i-init c = fit-start

pub bad_value-requires : goal.bad_value-requires
bad_value-requires c = search (rules, len_of)

pub returns-then-bad_value : goal.returns-then-bad_value
returns-then-bad_value c = search (fit-bad, rules)

pub loop-i-preserved : goal.loop-i-preserved
loop-i-preserved c = search fit-more

pub returns : goal.returns
returns c = search fit-end
