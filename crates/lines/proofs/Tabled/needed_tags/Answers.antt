-- `needed_tags` is rule 9 over the lines: what the lines are asked is its test. Assumes nothing.
use Rattle.std.proofs.Common.{rules}
use Rattle.lines.specs.Rows.{lacking, nine_of}
use Rattle.lines.proofs.Tabled.needed_tags.Goals as goal

pub returns : goal.returns
unfolding nine_of lacking
returns c = c.first_broken.ensures (lacking c.args.tiled) (λ r e b p. search rules)
