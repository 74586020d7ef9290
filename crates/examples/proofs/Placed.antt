-- Accepted files in either byte order, scaled and affine, with PixelIsArea and with PixelIsPoint: the whole judgement of each, its georeference and its
-- corners spelled out. Computed. Assumes nothing.
use Prim.Native.Nat.{ℕ}
use mathlib.Core.Path.{◌≡◌, refl}
use mathlib.Core.Bool.{Bool, true, false}
use mathlib.Core.List.{List, [], ◌∷◌, ◌++◌, map}
use lib.ListN.{replicate}
use lib.Seq.{sets}
use lib.Ieee as Ieee
use lib.Ieee.{Float, binary64}
use Rattle.paper.specs.Outcome.{verdict}
use Rattle.paper.specs.Calls.{not_judged, judged_of, left_rows}
use Rattle.paper.proofs.Computed.{computed}
use Rattle.paper.proofs.Spelled.{spelled, spelled_same, table-spelled}
use Rattle.paper.proofs.Marked.{row}
use Rattle.paper.proofs.Files.{Field, doubles, laid, front, scale, tiepoint, key, directory, fields_a, strip}
use Rattle.paper.specs.declared.Corners.{Corners}
use Rattle.paper.specs.declared.Georeference.{Georeference}
use Rattle.paper.specs.declared.Georeference.TheVariants.{Scaled, Affine}
use Rattle.paper.specs.declared.Judged.{Judged}

-- scale and tiepoint of which no two used doubles are equal: 0.5 by 0.25, and (1, 2) at (500000, 4000000); the unused ones are 7 and 9
unfoldable pub uneven : List Field
unfolding doubles
uneven =
    doubles 33550 (0x3FE0000000000000 ∷ 0x3FD0000000000000 ∷ 0x401C000000000000 ∷ [])
    ∷ doubles 33922
    (0x3FF0000000000000
    ∷ 0x4000000000000000
    ∷ 0x401C000000000000
    ∷ 0x411E848000000000
    ∷ 0x414E848000000000
    ∷ 0x4022000000000000
    ∷ [])
    ∷ []

-- a matrix by the six used doubles; the unused ones are 7, and the last four 0, 0, 0, 1
unfoldable pub matrix : ℕ → ℕ → ℕ → ℕ → ℕ → ℕ → Field
unfolding doubles
matrix m1 m2 m4 m5 m6 m8 =
    let seven : ℕ = 0x401C000000000000 in
    doubles 34264
    (m1 ∷ m2 ∷ seven ∷ m4 ∷ m5 ∷ m6 ∷ seven ∷ m8 ∷ seven ∷ seven ∷ seven ∷ seven ∷ 0 ∷ 0 ∷ 0 ∷ 0x3FF0000000000000 ∷ [])

-- 0.5, 0.25, 500000, 0.125, -0.5, 4000000
unfoldable pub turned : Field
unfolding matrix
turned =
    matrix 0x3FE0000000000000 0x3FD0000000000000 0x411E848000000000 0x3FC0000000000000 0xBFE0000000000000 0x414E848000000000

-- 0.25, 0.5, 2 to the 53rd, 0.25, 2.5, 2 to the 53rd: the two products are summed first, since a sum of one of them and the last is rounded down
unfoldable pub far : Field
unfolding matrix
far =
    matrix 0x3FD0000000000000 0x3FE0000000000000 0x4340000000000000 0x3FD0000000000000 0x4004000000000000 0x4340000000000000

-- A's keys with a raster type: 1 is PixelIsArea, 2 is PixelIsPoint
unfoldable pub raster : ℕ → Field
unfolding key directory
raster v = directory (key 1024 0 1 1 ∷ key 1025 0 1 v ∷ key 3072 0 1 32633 ∷ []) []

-- a file of A's picture, so placed, in a byte order
unfoldable pub placed : Bool → List Field → ℕ → List ℕ
unfolding laid front raster strip
placed big xs v = laid big (λ at. front at ++ xs ++ raster v ∷ []) strip

-- a double by its 64 bits
unfoldable pub bits : ℕ → Float
unfolding computed
bits n = Ieee.of_bits binary64 n

unfoldable pub cornered : ℕ → ℕ → ℕ → ℕ → Corners
unfolding bits
cornered a b c d = record { x0 = bits a; y0 = bits b; x1 = bits c; y1 = bits d }

unfoldable pub on_ground : Georeference → Corners → Judged
on_ground g c = record { verdict = verdict 0 0; keys = 3; minor = 0; georeference = g; corners = c }

unfoldable pub scaled_a : Georeference
unfolding bits
scaled_a =
    Scaled (bits 0) (bits 0) (bits 0x411E848000000000) (bits 0x414E848000000000) (bits 0x3FE0000000000000) (bits 0x3FE0000000000000)

unfoldable pub scaled_uneven : Georeference
unfolding bits
scaled_uneven =
    Scaled (bits 0x3FF0000000000000) (bits 0x4000000000000000) (bits 0x411E848000000000) (bits 0x414E848000000000) (bits 0x3FE0000000000000) (bits 0x3FD0000000000000)

unfoldable pub affine_turned : Georeference
unfolding bits
affine_turned =
    Affine (bits 0x3FE0000000000000) (bits 0x3FD0000000000000) (bits 0x411E848000000000) (bits 0x3FC0000000000000) (bits 0xBFE0000000000000) (bits 0x414E848000000000)

unfoldable pub affine_far : Georeference
unfolding bits
affine_far =
    Affine (bits 0x3FD0000000000000) (bits 0x3FE0000000000000) (bits 0x4340000000000000) (bits 0x3FD0000000000000) (bits 0x4004000000000000) (bits 0x4340000000000000)

-- a file, and its whole judgement
pub record Case : Type 0 where
  pub file : List ℕ
  pub gives : Judged

unfoldable pub case : List ℕ → Judged → Case
case f j = record { file = f; gives = j }

pub cases : List Case
unfolding case placed scale tiepoint uneven turned far cornered on_ground scaled_a scaled_uneven affine_turned affine_far laid fields_a strip
cases =
    -- A in either byte order: (500000, 4000000) and (500002, 3999999)
    case (laid false fields_a strip)
    (on_ground scaled_a (cornered 0x411E848000000000 0x414E848000000000 0x411E848800000000 0x414E847F80000000))
    ∷ case (laid true fields_a strip)
    (on_ground scaled_a (cornered 0x411E848000000000 0x414E848000000000 0x411E848800000000 0x414E847F80000000))
    -- (499999.5, 4000000.5) and (500001.5, 4000000); PixelIsPoint: (500001, 4000000.25)
    ∷ case (placed false uneven 1)
    (on_ground scaled_uneven (cornered 0x411E847E00000000 0x414E848040000000 0x411E848600000000 0x414E848000000000))
    ∷ case (placed true uneven 2)
    (on_ground scaled_uneven (cornered 0x411E847E00000000 0x414E848040000000 0x411E848400000000 0x414E848020000000))
    -- (500000, 4000000) and (500002.5, 3999999.5); PixelIsPoint: (500001.75, 3999999.875)
    ∷ case (placed false (turned ∷ []) 1)
    (on_ground affine_turned (cornered 0x411E848000000000 0x414E848000000000 0x411E848A00000000 0x414E847FC0000000))
    ∷ case (placed true (turned ∷ []) 1)
    (on_ground affine_turned (cornered 0x411E848000000000 0x414E848000000000 0x411E848A00000000 0x414E847FC0000000))
    ∷ case (placed false (turned ∷ []) 2)
    (on_ground affine_turned (cornered 0x411E848000000000 0x414E848000000000 0x411E848700000000 0x414E847FF0000000))
    -- 2 to the 53rd twice, then with 2 and with 6 added
    ∷ case (placed false (far ∷ []) 1)
    (on_ground affine_far (cornered 0x4340000000000000 0x4340000000000000 0x4340000000000001 0x4340000000000003))
    -- 4D 4D at the start of the little-endian A, a refused file: no keys, no place
    ∷ case (sets (laid false fields_a strip) 0 (0x4D ∷ 0x4D ∷ [])) (not_judged (verdict 3 0))
    ∷ []

pub judged : map (λ x. judged_of x.file) cases ≡ map (λ x. x.gives) cases
unfolding cases spelled computed
judged = table-spelled (λ x. x.file) (λ x. judged_of) (λ x. x.gives) cases refl

-- the rows of A are those of the other byte order
pub rows-big : left_rows (laid true fields_a strip) (replicate 4 (row 7 7 7 7 7)) ≡ row 1024 0 244 2 238 ∷ row 1025 0 252 2 246 ∷ row 3072 0 260 2 254 ∷ row 7 7 7 7 7 ∷ []
unfolding laid fields_a strip spelled computed row
rows-big = spelled_same (laid true fields_a strip) (λ f. left_rows f (replicate 4 (row 7 7 7 7 7)))
