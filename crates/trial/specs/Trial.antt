-- The trial's table, in the paper's form, and what the paper's rules 1 to 7, 9 and 10 say of a file by it. Assumes nothing.
use Rattle.std.specs.Prelude.{ℕ, List, [], ◌∷◌}
use Rattle.paper.specs.Outcome.{◌▸◌, first, ◌▷◌}
use Rattle.paper.specs.Tags.{Line, line, yes, no, SHORT, LONG, any, Held, rule9, rule10}
use Rattle.paper.specs.Judge.{head_in, view_at, head_stage, directory_stage}
use Rattle.paper.specs.declared.Verdict.{Verdict}

-- a type that the paper's table does not name
abbrev pub RATIONAL : ℕ
RATIONAL = 5

unfoldable pub trial : List Line
trial =
    line 254 no LONG LONG 1 1 any
    ∷ line 256 yes SHORT LONG 1 1 any
    ∷ line 282 yes RATIONAL RATIONAL 1 1 any
    ∷ line 296 no SHORT SHORT 1 1 any
    ∷ line 34853 no LONG LONG 1 1 any
    ∷ []

-- rules 9 and 10, by this table
unfoldable pub trial_stage : List Held → Verdict
trial_stage hs = first (9 ▸ rule9 trial hs ∷ 10 ▸ rule10 trial hs ∷ [])

-- the verdict, stage by stage as `Judge.image_stage`: rules 8, 27 and those from 11 on are not asked
unfoldable pub trial_of : List ℕ → Verdict
trial_of f = head_stage f ▷ (directory_stage f (head_in f) ▷ trial_stage (view_at trial f (head_in f)).held)
