-- The georeference, the corners and the lengths of the key block as numbers for C. Assumes nothing.
use Rattle.std.specs.Prelude.{ℕ, List, [], ◌∷◌, Float}
use Rattle.paper.specs.declared.Georeference.{Georeference}
use Rattle.paper.specs.declared.Georeference.TheVariants.{Scaled, Affine}
use Rattle.paper.specs.declared.Corners.{Corners}
use Rattle.paper.specs.declared.Block.{Block}

-- 0 scaled, 1 affine
abbrev pub form_of : Georeference → ℕ
form_of (Scaled ti tj tx ty sx sy) = 0
form_of (Affine m1 m2 m4 m5 m6 m8) = 1

-- ti, tj, tx, ty, sx, sy; or m1, m2, m4, m5, m6, m8
abbrev pub six_of : Georeference → List Float
six_of (Scaled ti tj tx ty sx sy) = ti ∷ tj ∷ tx ∷ ty ∷ sx ∷ sy ∷ []
six_of (Affine m1 m2 m4 m5 m6 m8) = m1 ∷ m2 ∷ m4 ∷ m5 ∷ m6 ∷ m8 ∷ []

abbrev pub four_of : Corners → List Float
four_of c = c.x0 ∷ c.y0 ∷ c.x1 ∷ c.y1 ∷ []

abbrev pub lengths_of : Block → List ℕ
lengths_of b = b.directory ∷ b.doubles ∷ b.characters ∷ []
