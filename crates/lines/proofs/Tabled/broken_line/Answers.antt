-- `broken_line` goes through the lines, each with its entry; its turns are laws of `Walk`. Assumes nothing.
use Rattle.std.proofs.Common.{arith}
use Rattle.std.proofs.lemmas.List.{length_push}
use Rattle.std.proofs.lemmas.Slice.Zip.{zip_turn, zip_end}
use Rattle.lines.proofs.Walk.{pass-bad, pass-more, pass-end}
use Rattle.lines.proofs.Tabled.broken_line.Goals as goal

pub returns-then-breaks : goal.returns-then-breaks
returns-then-breaks g c = λ test is.
    let l = c.loop-line in
    let t =
    zip_turn c.args.self.lines.now c.args.self.found.now l.yielded c.into_iter-line-iterator.result l.line-iterator c.next.new.self _ (cc) (cc) l.yielded_by
    (c.in-Some.line, c.in-Some.entry) c.in-Some.is c.next.ensures.steps
    in
    pass-bad (l.invariant test is) t.0 t.2 t.3 (is _ _ _ c.breaks.ensures) c.if-breaks.true

pub loop-line-preserved : goal.loop-line-preserved
loop-line-preserved g c = λ test is.
    let l = c.loop-line in
    let t =
    zip_turn c.args.self.lines.now c.args.self.found.now l.yielded c.into_iter-line-iterator.result l.line-iterator c.next.new.self _ (cc) (cc) l.yielded_by
    (c.in-Some.line, c.in-Some.entry) c.in-Some.is c.next.ensures.steps
    in
    rw length_push (pass-more (l.invariant test is) t.0 t.2 t.3 (is _ _ _ c.breaks.ensures) c.if-breaks.false)

pub returns : goal.returns
returns g c = λ test is.
    let l = c.loop-line in
    let n =
    zip_end c.args.self.lines.now c.args.self.found.now l.yielded c.into_iter-line-iterator.result l.line-iterator c.next.new.self _ (cc) (cc) l.yielded_by
    c.in-None.is c.next.ensures.steps
    in
    pass-end (l.invariant test is) (omega (arith, n))
