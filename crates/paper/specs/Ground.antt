-- Document 01, 'Place on the ground', and rules 20 to 22, over the runs of 33550, 33922 and 34264 (empty where absent), the image's size
-- and whether the raster type is PixelIsPoint. Every operation is `lib.Ieee`'s, rounded once. Assumes nothing.
use Rattle.std.specs.Prelude.{ℕ, ◌-◌, ◌*◌, ◌/◌, Bool, true, false, cond, not, ◌&&◌, ◌||◌, List, [], ◌∷◌, eqb, pos, Float, length}
use Rattle.std.specs.Float.Ieee as Ieee
use Rattle.std.specs.Float.{nan, inf, fin, binary64}
use Rattle.paper.specs.Bytes.{num, elems}
use Rattle.paper.specs.Outcome.{Outcome, breaks, Fault, fault, first_there}
use Rattle.paper.specs.Tests.{all}
use Rattle.paper.specs.Tag
use Rattle.paper.specs.declared.Georeference.{Georeference}
use Rattle.paper.specs.declared.Georeference.TheVariants.{Scaled, Affine}
use Rattle.paper.specs.declared.Corners.{Corners}

-- what the ground rules see; `point` says that the raster type is PixelIsPoint
pub record Survey : Type 0 where
  pub big : Bool
  pub scale : List ℕ
  pub tiepoint : List ℕ
  pub matrix : List ℕ
  pub width : ℕ
  pub length : ℕ
  pub point : Bool

-- one rounding each: sum, difference, product
infixl 60 ◌⊞◌
infixl 60 ◌⊟◌
infixl 70 ◌⊠◌
abbrev pub ◌⊞◌ : Float → Float → Float
◌⊞◌ a b = Ieee.add binary64 a b

abbrev pub ◌⊟◌ : Float → Float → Float
◌⊟◌ a b = Ieee.sub binary64 a b

abbrev pub ◌⊠◌ : Float → Float → Float
◌⊠◌ a b = Ieee.mul binary64 a b

abbrev pub of_nat : ℕ → Float
of_nat k = Ieee.of_int binary64 (pos k)

-- as a literal of the code is read: 0.0 and 1.0
abbrev pub zero64 : Float
zero64 = Ieee.of_bits binary64 0

abbrev pub one64 : Float
one64 = Ieee.of_bits binary64 0x3FF0000000000000

unfoldable pub finite : Float → Bool
finite nan = false
finite (inf s) = false
finite (fin s m e) = true

-- double i of a run
unfoldable pub double : Bool → List ℕ → ℕ → Float
double big s i = Ieee.of_bits binary64 (num big 8 s (8 * i))

-- the tag is absent
abbrev pub none : List ℕ → Bool
none s = eqb (length s) 0

-- every double of the run, used or not
unfoldable pub all_finite : Bool → List ℕ → Bool
all_finite big s = all (λ b. finite (Ieee.of_bits binary64 b)) (elems big 8 (length s / 8) s)

-- scale and tiepoint with no matrix, or matrix with no scale and no tiepoint
unfoldable pub rule20 : Survey → Outcome
rule20 s =
    breaks
    (not
    ((not (none s.scale) && (not (none s.tiepoint) && none s.matrix))
    || (not (none s.matrix) && (none s.scale && none s.tiepoint))))
    0

-- the scale's X and Y are above 0
unfoldable pub scales : Bool → List ℕ → Bool
scales big s = Ieee.lt zero64 (double big s 0) && Ieee.lt zero64 (double big s 1)

-- the last four are 0, 0, 0, 1, and the products of the 1st and 6th and of the 2nd and 5th differ
unfoldable pub spans : Bool → List ℕ → Bool
spans big m =
    Ieee.eq (double big m 12) zero64
    && (Ieee.eq (double big m 13) zero64
    && (Ieee.eq (double big m 14) zero64
    && (Ieee.eq (double big m 15) one64
    && not (Ieee.eq (double big m 0 ⊠ double big m 5) (double big m 1 ⊠ double big m 4)))))

-- lowest first
abbrev pub ground_faults : Survey → List Fault
ground_faults s =
    fault (not (none s.scale) && not (all_finite s.big s.scale && scales s.big s.scale)) Tag.scale
    ∷ fault (not (all_finite s.big s.tiepoint)) Tag.tiepoint
    ∷ fault (not (none s.matrix) && not (all_finite s.big s.matrix && spans s.big s.matrix)) Tag.matrix
    ∷ []

unfoldable pub rule21 : Survey → Outcome
rule21 s = first_there (ground_faults s)

-- with rule 20 kept, no matrix means scale and tiepoint; doubles counted from 0
unfoldable pub georeference : Survey → Georeference
georeference s =
    let t : ℕ → Float = double s.big s.tiepoint in
    let c : ℕ → Float = double s.big s.scale in
    let m : ℕ → Float = double s.big s.matrix in
    cond (none s.matrix) (Scaled (t 0) (t 1) (t 3) (t 4) (c 0) (c 1)) (Affine (m 0) (m 1) (m 3) (m 4) (m 5) (m 7))

-- where (i, j) of the picture lies, in the written order of operations
abbrev pub map_x : Georeference → Float → Float → Float
map_x (Scaled ti tj tx ty sx sy) i j = tx ⊞ ((i ⊟ ti) ⊠ sx)
map_x (Affine m1 m2 m4 m5 m6 m8) i j = ((m1 ⊠ i) ⊞ (m2 ⊠ j)) ⊞ m4

abbrev pub map_y : Georeference → Float → Float → Float
map_y (Scaled ti tj tx ty sx sy) i j = ty ⊟ ((j ⊟ tj) ⊠ sy)
map_y (Affine m1 m2 m4 m5 m6 m8) i j = ((m5 ⊠ i) ⊞ (m6 ⊠ j)) ⊞ m8

-- of (0, 0) and of (i, j)
abbrev pub corners_of : Georeference → Float → Float → Corners
corners_of g i j = record { x0 = map_x g zero64 zero64; y0 = map_y g zero64 zero64; x1 = map_x g i j; y1 = map_y g i j }

-- the far end of k columns or rows: k, or k - 1 for PixelIsPoint
unfoldable pub last : Bool → ℕ → Float
last point k = of_nat (cond point (k - 1) k)

unfoldable pub corners : Survey → Corners
corners s = corners_of (georeference s) (last s.point s.width) (last s.point s.length)

unfoldable pub finite_corners : Corners → Bool
finite_corners c = finite c.x0 && (finite c.y0 && (finite c.x1 && finite c.y1))

unfoldable pub rule22 : Corners → Outcome
rule22 c = breaks (not (finite_corners c)) 0
