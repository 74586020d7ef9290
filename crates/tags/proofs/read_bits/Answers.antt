-- `read_bits` tells of the values of 258 the first, whether all are allowed, and whether all are the first: at each turn of those before i. Assumes nothing.
use mathlib.Core.Path.{refl, sym}
use native.Mathlib.Omega.{arith}
use borrow.Author.Tests.{eq-eqb}
use Rattle.tags.proofs.Values.{so-far-none, so_far_more, bits-read}
use Rattle.tags.proofs.read_bits.Goals as goal

pub loop-i-init : goal.loop-i-init
loop-i-init c =
    let some = c.requires.0 in
    let first = c.short-first.ensures.0 in (
      so_far_more some first c.is_depth-allowed.ensures so-far-none,
      so_far_more some first (sym (eq-eqb c.short-first.result c.short-first.result refl)) so-far-none,
    )

pub loop-i-preserved : goal.loop-i-preserved
loop-i-preserved c =
    let l = c.loop-i.invariant in
    let more = c.loop-i-test.true in (
      so_far_more more c.short-v.ensures.0 c.is_depth-allowed-in-loop-i.ensures l.0,
      so_far_more more c.short-v.ensures.0 refl l.1,
    )

pub returns : goal.returns
returns c =
    let l = c.loop-i.invariant in
    let some = c.requires.0 in
    bits-read c.loop-i-test.false (omega arith) c.short-first.ensures.0 l.0 l.1
