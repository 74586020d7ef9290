-- `petalbuzz_ground` answers what `judge` does, as numbers. Assumes nothing.
use mathlib.Core.Path.{ap, ◌∙◌}
use Rattle.paper.proofs.Called.{judged-verdict}
use Rattle.paper.specs.declared.Judged.{Judged}
use Rattle.paper.specs.declared.Verdict.{Verdict}
use Rattle.petalbuzz.specs.Numbers.{form_of, six_of, four_of}
use Rattle.petalbuzz.proofs.petalbuzz_ground.Goals as goal

pub returns : goal.returns
returns c =
    let judged = c.judge-j.ensures in
    let whole = ap (λ (j : Judged). j.verdict) judged ∙ judged-verdict c.args.file.now in record {
      verdict = ap (λ (v : Verdict). v.number) whole;
      place = ap (λ (v : Verdict). v.place) whole;
      form = c.form_of.ensures ∙ ap (λ (j : Judged). form_of j.georeference) judged;
      six = c.six_of.ensures ∙ ap (λ (j : Judged). six_of j.georeference) judged;
      corners = ap (λ (j : Judged). four_of j.corners) judged;
    }
