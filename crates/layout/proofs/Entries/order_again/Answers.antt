-- `order_again` passes over the tags from the last to the first; its turns are laws of `Ordering`. Assumes nothing.
use Rattle.layout.proofs.Ordering.{count-start, count-text, count-other, count_broken, count_few, count-some}
use Rattle.layout.proofs.Entries.order_again.Goals as goal

pub loop-i-init : goal.loop-i-init
loop-i-init c = search count-start

pub loop-i-preserved-then-tag-eq-METADATA : goal.loop-i-preserved-then-tag-eq-METADATA
loop-i-preserved-then-tag-eq-METADATA c = search count-text

pub loop-i-preserved : goal.loop-i-preserved
loop-i-preserved c = search (count-other, c.if-tag-eq-METADATA.false)

pub returns-then-many-gt1 : goal.returns-then-many-gt1
returns-then-many-gt1 c = count-some c.loop-i.invariant c.loop-i-test.false c.in-Kept.is c.if-many-gt1.true

pub returns-else-many-gt1 : goal.returns-else-many-gt1
returns-else-many-gt1 c = count_few c.loop-i.invariant c.loop-i-test.false c.if-many-gt1.false

pub returns-in_default : goal.returns-in_default
returns-in_default c = count_broken c.loop-i.invariant c.loop-i-test.false c.in_default.is
