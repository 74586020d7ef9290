-- `lend` hands back what `key_rows` left of 256 rows. Assumes nothing.
use Rattle.rows.specs.Planning.{blank}
use Rattle.rows.proofs.lend.Goals as goal

pub returns : goal.returns
unfolding blank
returns c = λ i. record { counted = c.key_rows-counted.ensures.0 i; rows = c.key_rows-counted.ensures.1 i }
