-- `petalbuzz_citation` answers the fields of `cite`, and the part they name is the citation. Assumes nothing.
use mathlib.Core.Path.{ap}
use Rattle.paper.specs.declared.Cited.{Cited}
use Rattle.texts.proofs.Citing.{cut}
use Rattle.petalbuzz.proofs.petalbuzz_citation.Goals as goal

pub returns : goal.returns
returns c =
    let a = c.args in
    let s = c.cite-c.ensures.0 in record {
      verdict = ap (λ (x : Cited). x.verdict.number) s;
      place = ap (λ (x : Cited). x.verdict.place) s;
      start = ap (λ (x : Cited). x.start) s;
      len = ap (λ (x : Cited). x.len) s;
      part = cut a.file.now a.key c.cite-c.result s;
      within = c.cite-c.ensures.1;
    }
