-- `judged` asks rule 6, then rule 7: the laws of `outcomes` say what one rule in front of another answers. Assumes nothing.
use mathlib.Core.Path.{refl}
use Rattle.std.proofs.Common.{rules}
use Rattle.outcomes.proofs.Ruled.{rule-refuses, rule-kept}
use Rattle.layout.proofs.judged.Goals as goal

pub returns-in_err-rule : goal.returns-in_err-rule
returns-in_err-rule c = search (rules, rule-refuses)

pub returns : goal.returns
returns c = rw (c.rule-2.ensures, rule-kept 6 c.args.six (search rules) _ c.in_ok-rule.ensures) refl
