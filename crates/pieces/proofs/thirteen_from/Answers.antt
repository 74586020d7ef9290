-- `thirteen_from` searches the places for one that does not lie in the file, behind its head. Assumes nothing.
use Rattle.std.proofs.Common.{sym}
use Rattle.pieces.proofs.Passing.{file-none, file-bad}
use Rattle.pieces.proofs.thirteen_from.Goals as goal

pub returns-in-Some : goal.returns-in-Some
returns-in-Some c = sym (file-bad _ _ _ _ _ _ (rw c.of_file-file.ensures at c.skip.ensures) _ c.in-Some.is)

pub returns-in-None : goal.returns-in-None
returns-in-None c = sym (file-none _ _ _ _ _ _ (rw c.of_file-file.ensures at c.skip.ensures) c.in-None.is)
