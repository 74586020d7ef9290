-- `judge_values` is rules 11 and 12 of a mask where 27, 9 and 10 are kept: one law for each answer (`Answers`). Assumes nothing.
use borrow.Author.Rules.{rules}
use Rattle.mask.proofs.Answers.{sized, single, plain, cut-readable, refused-eleven, positive, refused-twelve, accepted}
use Rattle.mask.proofs.judge_values.Goals as goal

pub is_sized-sized-requires : goal.is_sized-sized-requires
is_sized-sized-requires c = search sized

pub is_single-single-requires : goal.is_single-single-requires
is_single-single-requires c = search single

pub is_plain-plain-requires : goal.is_plain-plain-requires
is_plain-plain-requires c = search plain

pub read_cut-cut-requires : goal.read_cut-cut-requires
read_cut-cut-requires c = (search cut-readable, search rules)

pub returns-then-not-allowed : goal.returns-then-not-allowed
returns-then-not-allowed c = search refused-eleven

pub count_pieces-pieces-requires : goal.count_pieces-pieces-requires
count_pieces-pieces-requires c = search positive

pub returns-then-not-agreeing : goal.returns-then-not-agreeing
returns-then-not-agreeing c = search refused-twelve

pub returns : goal.returns
returns c = search accepted
