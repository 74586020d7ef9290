-- `first_broken` cuts the lines in two; its returns are laws of `Walk`. What the lines behind the cut are asked is what those before it are asked. Assumes nothing.
use Rattle.lines.proofs.Walk.{cut-broken, cut-kept, rest}
use borrow.Author.Rules.{rules}
use Rattle.lines.proofs.Tabled.first_broken.Goals as goal

pub returns : goal.returns
returns g c = λ test is. cut-broken test c.args.self.lines.now c.args.self.found.now c.min-k.result (c.broken_line.ensures test is) c.in_default.not-Kept

pub returns-in-Kept : goal.returns-in-Kept
returns-in-Kept g c = λ test is.
    cut-kept test c.args.self.lines.now c.args.self.found.now c.min-k.result (c.broken_line.ensures test is) c.in-Kept.is
    (simp rest at (c.broken_line-in-Kept.ensures test (λ r e b p. search (rules, is))))
