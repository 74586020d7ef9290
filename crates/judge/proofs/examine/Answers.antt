-- `examine` asks for what the file shows by its own rules, then for its mask. Assumes nothing.
use mathlib.Core.Path.{sym, ◌∙◌}
use Rattle.std.proofs.lemmas.Result.{err_from_is_err_and}
use Rattle.judge.proofs.Examining.{own-bad, own-zero, lasting-image-is, unmasked, refused-mask, kept-mask}
use Rattle.judge.proofs.examine.Goals as goal

pub masked-requires : goal.masked-requires
masked-requires c =
    let own = sym c.in-Ok.is ∙ c.examine_own.ensures in
    (own-zero _ own, lasting-image-is _ own, c.in-Some.is)

pub returns-in_err-masked-in-Ok : goal.returns-in_err-masked-in-Ok
returns-in_err-masked-in-Ok c =
    let own = sym c.in-Ok.is ∙ c.examine_own.ensures in
    let p = err_from_is_err_and c.from_residual.result c.from_residual.ensures.1 in
    rw (p.1, p.2) (refused-mask _ own (c.in_err-masked-in-Ok.ensures {u = tt}))

pub returns-in_ok-masked-in-Ok : goal.returns-in_ok-masked-in-Ok
returns-in_ok-masked-in-Ok c = let own = sym c.in-Ok.is ∙ c.examine_own.ensures in kept-mask _ own c.in_ok-masked-in-Ok.ensures

pub returns-in_default : goal.returns-in_default
returns-in_default c = let own = sym c.in-Ok.is ∙ c.examine_own.ensures in unmasked _ own c.in_default.is

pub returns-in-Err : goal.returns-in-Err
returns-in-Err c = own-bad _ (sym c.in-Err.is ∙ c.examine_own.ensures)
