-- `gather` finds the entry of each line's tag, one after the other; what is found of all is said by laws of `Gathered`. Assumes nothing.
use mathlib.Core.Path.{◌≡◌, ◌∙◌, sym}
use native.Mathlib.Omega.{arith}
use lib.ListN.{get_or}
use Rattle.std.proofs.lemmas.List.{same_lists}
use Rattle.std.proofs.lemmas.List.Edits.{fill_by_more}
use Rattle.layout.specs.Columns.{firsts}
use Rattle.layout.specs.Opening.{entries_of}
use Rattle.layout.proofs.Finding.{found-first}
use Rattle.lines.specs.Lined.{row_tags}
use Rattle.lines.proofs.Gathered.{gathered-long, gathered-at}
use Rattle.lines.proofs.gather.Goals as goal

pub loop-k-preserved : goal.loop-k-preserved
loop-k-preserved c = λ i e.
    let es = entries_of c.args.entries.directory c.args.entries.bytes.now in
    let all = firsts (row_tags c.args.lines.now) es in
    let stored : c.unwrap_or.result ≡ get_or all c.loop-k.k e =
    rw (c.unwrap_or.ensures, c.first.ensures, c.absent-none.ensures) (found-first _ es ∙ sym (gathered-at c.args.lines.now es c.loop-k.k _ e c.loop-k-test.true))
    in
    rw stored (fill_by_more (λ j. get_or all j e) c.loop-k.found c.loop-k.k e (omega arith) (λ j. c.loop-k.invariant j e) i)

pub returns : goal.returns
returns c =
    let es = entries_of c.args.entries.directory c.args.entries.bytes.now in
    same_lists c.loop-k.found _ (c.loop-k.auto.found ∙ c.requires ∙ sym (gathered-long c.args.lines.now es)) (λ k e h. c.loop-k.invariant k e (omega arith))
