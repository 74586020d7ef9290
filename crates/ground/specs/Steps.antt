-- The steps between the runs and the answer, in which the code's inner functions are put: the doubles of a run, the scale and the affine georeference
-- where rule 21 is kept for them, and rule 22. Assumes nothing.
use Rattle.std.specs.Prelude.{ℕ, ◌/◌, Bool, true, cond, ◌&&◌, List, [], ◌∷◌, Float, length, Result, Ok, Err}
use Rattle.std.specs.List.{fold}
use Rattle.std.specs.Float.{binary64}
use Rattle.std.specs.Float.Ieee.{of_bits}
use Rattle.paper.specs.Bytes.{build}
use Rattle.paper.specs.Outcome as Outcome
use Rattle.paper.specs.Outcome.{◌▸◌, verdict}
use Rattle.paper.specs.Ground.{Survey, double, finite, all_finite, scales, spans, corners_of, last, rule22}
use Rattle.paper.specs.declared.Georeference.{Georeference}
use Rattle.paper.specs.declared.Georeference.TheVariants.{Affine}
use Rattle.paper.specs.declared.Corners.{Corners}
use Rattle.paper.specs.declared.Verdict.{Verdict}
use Rattle.ground.specs.declared.Picture.{Picture}
use Rattle.ground.specs.declared.Ground.{Ground}
use Rattle.ground.specs.Answer.{grounded}

abbrev pub surveyed : Bool → List ℕ → List ℕ → List ℕ → Picture → Survey
surveyed big s t m p =
    record { big = big; scale = s; tiepoint = t; matrix = m; width = p.width; length = p.length; point = p.point }

-- ---- what is read of a run where rule 21 is kept for it

-- the bits of doubles, and all of them are finite
abbrev pub finite_bits : List ℕ → Bool
finite_bits bs = fold (λ r b. r && finite (of_bits binary64 b)) true bs

-- its doubles, one after the other
abbrev pub numbers : Bool → List ℕ → List Float
numbers big s = build (double big s) 0 (length s / 8)

unfoldable pub doubles_of : ℕ → Bool → List ℕ → Result (List Float) Verdict
doubles_of tag big s = cond (all_finite big s) (Ok (numbers big s)) (Err (verdict 21 tag))

unfoldable pub scale_of : Bool → List ℕ → Result (List Float) Verdict
scale_of big s = cond (all_finite big s && scales big s) (Ok (numbers big s)) (Err (verdict 21 33550))

unfoldable pub affine_of : Bool → List ℕ → Result Georeference Verdict
affine_of big m =
    let d : ℕ → Float = double big m in
    cond (all_finite big m && spans big m) (Ok (Affine (d 0) (d 1) (d 3) (d 4) (d 5) (d 7))) (Err (verdict 21 34264))

-- ---- rule 22 on the corners

abbrev pub far_corners : Georeference → Picture → Corners
far_corners g p = corners_of g (last p.point p.width) (last p.point p.length)

unfoldable pub placed_at : Georeference → Corners → Result Ground Verdict
placed_at g c = grounded (Outcome.first (22 ▸ rule22 c ∷ [])) g c
