-- `scan` passes over the entries from the last to the first; its turns are laws of `Turns`. Assumes nothing.
use mathlib.Core.Path.{sym, ◌∙◌}
use native.Mathlib.Omega.{arith}
use borrow.Author.Rules.{rules}
use Rattle.layout.proofs.Sizes.{len_of}
use Rattle.layout.proofs.Finding.{slot-some}
use Rattle.layout.proofs.Turns.{pass-start, pass-length, turn_in, turn-out, pass-known, pass_fits, pass-columns}
use Rattle.layout.proofs.Plain.{conclusion}
use Rattle.layout.proofs.Entries.scan.Goals as goal

pub loop-i-init : goal.loop-i-init
loop-i-init c = pass-start _ _ _ _ _ _ _ c.requires.1

pub bad_value-requires : goal.bad_value-requires
bad_value-requires c = search (rules, len_of)

pub bounds-found-from : goal.bounds-found-from
bounds-found-from c = omega (arith, c.from.ensures, (slot-some c.requires.0 _ (sym c.slot_of.ensures ∙ c.in-Some.is)).1, pass-length c.loop-i.invariant)

pub loop-i-preserved-in-Some : goal.loop-i-preserved-in-Some
loop-i-preserved-in-Some c =
    rw c.from.ensures
    (turn_in c.loop-i.invariant c.requires.0 c.loop-i-test.true c.at-e.ensures.entry c.at-e.ensures.low.0
    c.broken_or-six.ensures c.bad_value.ensures c.broken_or-seven.ensures (sym c.slot_of.ensures ∙ c.in-Some.is))

pub loop-i-preserved : goal.loop-i-preserved
loop-i-preserved c =
    turn-out c.loop-i.invariant c.requires.0 c.loop-i-test.true c.at-e.ensures.entry c.at-e.ensures.low.0
    c.broken_or-six.ensures c.bad_value.ensures c.broken_or-seven.ensures (sym c.slot_of.ensures ∙ c.in_default.is)

pub judge_order-o-requires : goal.judge_order-o-requires
judge_order-o-requires c = c.told.ensures ∙ pass-known c.loop-i.invariant c.loop-i-test.false

pub returns-clause-scanned : goal.returns-clause-scanned
returns-clause-scanned c = conclusion _ _ _ _ _ _ c.judge_order-o.ensures (c.told-2.ensures ∙ pass_fits c.loop-i.invariant c.loop-i-test.false) c.conclude.ensures

pub returns-clause-columns : goal.returns-clause-columns
returns-clause-columns c = pass-columns c.loop-i.invariant c.loop-i-test.false
