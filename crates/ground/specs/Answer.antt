-- What rules 20 to 22 answer for a survey: the georeference and the corners, or the verdict where a rule is broken.
-- Assumes nothing.
use Rattle.std.specs.Prelude.{ℕ, ◌≡◌, ◌⊎◌, List, Float, length, Result}
use Rattle.paper.specs.Outcome.{first}
use Rattle.paper.specs.Ground.{Survey, map_x, map_y, georeference, corners}
use Rattle.paper.specs.Judge.{ground_rules}
use Rattle.paper.specs.declared.Verdict.{Verdict}
use Rattle.paper.specs.declared.Georeference.{Georeference}
use Rattle.paper.specs.declared.Corners.{Corners}
use Rattle.outcomes.specs.Ruled.{ruled}
use Rattle.ground.specs.declared.Place.{Place}
use Rattle.ground.specs.declared.Ground.{Ground}

-- the run holds n bytes
abbrev pub Holds : ℕ → List ℕ → Type 0
Holds n s = length s ≡ n

-- each of the three runs is empty or of its full length: 3, 6 and 16 doubles
pub record Sized (s t m : List ℕ) : Type 0 where
  pub scale : Holds 0 s ⊎ Holds 24 s
  pub tiepoint : Holds 0 t ⊎ Holds 48 t
  pub matrix : Holds 0 m ⊎ Holds 128 m

-- where (i, j) of the picture lies
abbrev pub place_of : Georeference → Float → Float → Place
place_of g i j = record { x = map_x g i j; y = map_y g i j }

-- what is found where these rules are kept
abbrev pub grounded : Verdict → Georeference → Corners → Result Ground Verdict
grounded v g c = ruled v (record { georeference = g; corners = c })

unfoldable pub ground_judged : Survey → Result Ground Verdict
ground_judged s = grounded (first (ground_rules s)) (georeference s) (corners s)
