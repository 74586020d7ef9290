-- `mask_found` asks for the tags, then for the pictures. Assumes nothing.
use mathlib.Core.Path.{◌∙◌}
use Rattle.std.proofs.Common.{rules}
use Rattle.second.proofs.Staged.{tags-bad, tags-good, sides-low}
use Rattle.second.proofs.mask_found.Goals as goal

pub judge_tags-requires : goal.judge_tags-requires
judge_tags-requires c = let p = c.requires in let s = sides-low p.second.before in (p.ready, p.six, s.0, s.1)

pub returns-in_err-tiled : goal.returns-in_err-tiled
returns-in_err-tiled c = search (rules, tags-bad)

pub returns : goal.returns
returns c = c.mask_pictures.ensures ∙ tags-good c.requires c.in_ok-tiled.ensures
