-- `search` passes by the places that lie in the gap, and widens the span by them where one is asked for. Assumes nothing.
use Rattle.std.proofs.Common.{sym, ◌∙◌, rules}
use Rattle.pieces.proofs.Passing.{passed-start, passed-turn, passed-stop, passed-end}
use Rattle.pieces.proofs.places.Places.search.Goals as goal
use Rattle.pieces.proofs.places.Places.search.Goals.{then-this-ne0, else-this-ne0}

pub loop-i-init : goal.loop-i-init
loop-i-init g c = λ room. passed-start _ _ _ _ _

pub returns-then-is_out : goal.returns-then-is_out
returns-then-is_out g c = λ room.
    passed-stop _ _ _ _ _ _ _ (c.loop-i.invariant room) _ (c.fetch-place.ensures room) (sym c.is_out.ensures ∙ c.if-is_out.true)

pub loop-i-preserved : goal.loop-i-preserved
loop-i-preserved g c = λ room.
    passed-turn _ _ _ _ _ _ _ (c.loop-i.invariant room) _ (c.fetch-place.ensures room) _ c.is_out.ensures c.if-is_out.false _
    (elim c.if-this-ne0.branch [ then-this-ne0 w ↦ search rules | else-this-ne0 w ↦ search rules ])

pub returns : goal.returns
returns g c = λ room. passed-end _ _ _ _ _ _ _ (c.loop-i.invariant room) c.loop-i-test.false
