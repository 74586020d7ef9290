-- `fitting_tags` is rule 10 over the lines: what the lines are asked is its test. Assumes nothing.
use Rattle.std.proofs.Common.{rules}
use Rattle.lines.specs.Rows.{misfit, ten_of}
use Rattle.lines.proofs.Tabled.fitting_tags.Goals as goal

pub returns : goal.returns
unfolding ten_of
returns c = c.first_broken.ensures misfit (λ r e b p. search rules)
