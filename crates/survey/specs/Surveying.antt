-- What rules 15 to 22 answer for the runs of the keys, the runs of the ground and the size of the picture, without a file. Assumes nothing.
use Rattle.std.specs.Prelude.{ℕ, List, ◌++◌, eqb, Result}
use Rattle.paper.specs.Outcome.{first}
use Rattle.paper.specs.Key
use Rattle.paper.specs.Keys.{Runs, minor_revision, key_count, keys, key_value, key_rules}
use Rattle.paper.specs.Ground.{Survey, georeference, corners}
use Rattle.paper.specs.Judge.{ground_rules}
use Rattle.paper.specs.declared.Verdict.{Verdict}
use Rattle.outcomes.specs.Ruled.{ruled}
use Rattle.survey.specs.declared.Surveyed.{Surveyed}

-- the raster type is that of the keys
abbrev pub survey_with : Runs → List ℕ → List ℕ → List ℕ → ℕ → ℕ → Survey
survey_with r scale tiepoint matrix width length =
    record {
      big = r.big;
      scale = scale;
      tiepoint = tiepoint;
      matrix = matrix;
      width = width;
      length = length;
      point = eqb (key_value Key.raster_type (keys r)) 2;
    }

-- what is found where these rules are kept
abbrev pub survey_found : Runs → Survey → Surveyed
survey_found r s = record { keys = key_count r; minor = minor_revision r; georeference = georeference s; corners = corners s }

unfoldable pub surveyed_of : Runs → List ℕ → List ℕ → List ℕ → ℕ → ℕ → Result Surveyed Verdict
surveyed_of r scale tiepoint matrix width length =
    let s : Survey = survey_with r scale tiepoint matrix width length in
    ruled (first (key_rules r ++ ground_rules s)) (survey_found r s)
