-- `find` passes over the tags from the first to the last; its turns are laws of `Plain`. Assumes nothing.
use Rattle.std.proofs.Common.{rules}
use Rattle.layout.proofs.Plain.{seek-start, seek_found, seek-more, seek-none}
use Rattle.layout.proofs.find.Goals as goal

pub loop-i-init : goal.loop-i-init
loop-i-init c = seek-start

pub returns-then-short-tag : goal.returns-then-short-tag
returns-then-short-tag c = search (rules, seek_found)

pub loop-i-preserved : goal.loop-i-preserved
loop-i-preserved c = search seek-more

pub returns : goal.returns
returns c = search seek-none
