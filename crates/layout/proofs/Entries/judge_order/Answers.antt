-- `judge_order` knows rule 6 from the tags' ascent, or makes the pass that counts. Assumes nothing.
use mathlib.Core.Path.{sym, ◌∙◌}
use Rattle.layout.proofs.Ordering.{order-known}
use Rattle.layout.proofs.Entries.judge_order.Goals as goal

pub returns-else-place-eq-METADATA : goal.returns-else-place-eq-METADATA
returns-else-place-eq-METADATA c = order-known _ _ (sym c.in-Broken.is ∙ c.requires) (λ e. c.if-place-eq-METADATA.false cc)

pub returns-in_default : goal.returns-in_default
returns-in_default c = order-known _ _ c.requires (c.in_default.not-Broken _)
