-- `petalbuzz_judge` answers the verdict of `judge`. Assumes nothing.
use mathlib.Core.Path.{ap, ◌∙◌}
use Rattle.paper.proofs.Called.{judged-verdict}
use Rattle.paper.specs.declared.Judged.{Judged}
use Rattle.paper.specs.declared.Verdict.{Verdict}
use Rattle.petalbuzz.proofs.petalbuzz_judge.Goals as goal

pub returns : goal.returns
returns c =
    let whole = ap (λ (j : Judged). j.verdict) c.judge-answer.ensures ∙ judged-verdict c.args.file.now in
    record { verdict = ap (λ (v : Verdict). v.number) whole; place = ap (λ (v : Verdict). v.place) whole }
