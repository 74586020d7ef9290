-- `judge_tags` is rules 27 and 9 to 12 of a mask: each stops at its first broken line (`Answers`). Assumes nothing.
use Rattle.std.specs.Prelude.{◌≡◌}
use mathlib.Core.Path.{◌∙◌}
use Rattle.std.proofs.lemmas.Result.{err_from_is_err_and}
use Rattle.mask.proofs.Numbered.{map-refused, map-passed}
use Rattle.mask.proofs.Answers.{lined, refused-families, fitting}
use Rattle.mask.proofs.judge_tags.Goals as goal

pub returns-in_err-tiled : goal.returns-in_err-tiled
returns-in_err-tiled c =
    let p = err_from_is_err_and c.from_residual.result c.from_residual.ensures.1 in
    let m = map-refused _ c.judge_families.result c.map_err.result c.map_err.ensures.cases c.in_err-tiled.was in
    let told = m.2 in
    let e : c.in_err-tiled.field-0.0 ≡ m.0.number = cc in
    rw (p.1, p.2, e) (search (refused-families, lined, m.1 ∙ c.judge_families.ensures))

pub judge_values-requires : goal.judge_values-requires
judge_values-requires c =
    let k = map-passed _ _ _ c.map_err.ensures.cases c.in_ok-tiled.was ∙ c.judge_families.ensures in
    search (fitting, lined, k)
