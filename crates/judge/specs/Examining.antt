-- What one examination of a file finds, its survey and its image; and what it finds by the file's own rules, before a mask is looked at. Assumes nothing.
use Rattle.std.specs.Prelude.{ℕ, List, Result, Ok, Err}
use Rattle.paper.specs.Judge.{head_in, next_in, view, file_stage, verdict_of, runs_of, survey_of}
use Rattle.paper.specs.Calls.{not_judged}
use Rattle.paper.specs.Outcome.{verdict}
use Rattle.paper.specs.declared.Judged.{Judged}
use Rattle.paper.specs.declared.Verdict.{Verdict}
use Rattle.outcomes.specs.Ruled.{ruled}
use Rattle.image.specs.Imaging.{lasting_in, image_in}
use Rattle.image.specs.declared.Image.{Image}
use Rattle.image.specs.declared.Imaged.{Imaged}
use Rattle.survey.specs.Surveying.{survey_found}
use Rattle.judge.specs.declared.Examined.{Examined}

-- the image of a file
abbrev pub own_image : List ℕ → Imaged
own_image f = image_in (view f) (next_in f (head_in f))

-- what of it is told to the end
abbrev pub lasting_image : List ℕ → Image
lasting_image f = lasting_in (view f) (next_in f (head_in f))

unfoldable pub examined_in : List ℕ → Examined
examined_in f = record { surveyed = survey_found (runs_of (view f)) (survey_of (view f)); image = lasting_image f }

unfoldable pub examined_of : List ℕ → Result Examined Verdict
examined_of f = ruled (verdict_of f) (examined_in f)

-- what the judgement tells of it: of a refused file nothing beside the verdict
unfoldable pub judged_by : Result Examined Verdict → Judged
judged_by (Ok e) =
    record {
      verdict = verdict 0 0;
      keys = e.surveyed.keys;
      minor = e.surveyed.minor;
      georeference = e.surveyed.georeference;
      corners = e.surveyed.corners;
    }
judged_by (Err v) = not_judged v

-- ---- by the file's own rules, 1 to 22 and 27

unfoldable pub own_of : List ℕ → Result Examined Verdict
own_of f = ruled (file_stage f) (examined_in f)
