-- `bad_value` is rule 7 at one entry, tested by the length of its value. Assumes nothing.
use Rattle.layout.proofs.Sizes.{bad-far, bad-near, bad-none}
use Rattle.layout.proofs.bad_value.Goals as goal

pub returns-then-e-gt4 : goal.returns-then-e-gt4
returns-then-e-gt4 c = search bad-far

pub returns-then-e-gt0 : goal.returns-then-e-gt0
returns-then-e-gt0 c = search bad-near

pub returns : goal.returns
returns c = search bad-none
