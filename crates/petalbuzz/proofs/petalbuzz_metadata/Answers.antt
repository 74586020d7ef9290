-- `petalbuzz_metadata` answers the fields of `text`, and the part they name is the metadata text. Assumes nothing.
use mathlib.Core.Path.{ap}
use Rattle.paper.specs.declared.Text.{Text}
use Rattle.texts.proofs.Telling.{cut}
use Rattle.petalbuzz.proofs.petalbuzz_metadata.Goals as goal

pub returns : goal.returns
returns c =
    let a = c.args in
    let s = c.text-t.ensures.0 in record {
      verdict = ap (λ (x : Text). x.verdict.number) s;
      place = ap (λ (x : Text). x.verdict.place) s;
      from = ap (λ (x : Text). x.from) s;
      start = ap (λ (x : Text). x.start) s;
      len = ap (λ (x : Text). x.len) s;
      part = cut a.file.now a.outside.now a.number c.text-t.result s;
      within = c.text-t.ensures.1;
    }
