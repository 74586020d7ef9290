-- The values of a mask that rules 11 and 12 ask for, as they stand in a file, and what is tested of them. Assumes nothing.
use Rattle.std.specs.Prelude.{ℕ, ◌+◌, ◌*◌, ◌≤◌, ◌<◌, ◌≡◌, Bool, false, ◌&&◌, List, [], ◌∷◌, eqb, length}
use Rattle.paper.specs.Bytes.{run}
use Rattle.paper.specs.Tests.{between, allows}
use Rattle.paper.specs.Tags.{more, sixteens}
use Rattle.tags.specs.Index
use Rattle.tags.specs.Numbers.{codings, bits_in, short_in, number_in, planar_in, Single, planar_allowed}
use Rattle.tags.specs.declared.Bits.{Bits}
use Rattle.tags.specs.declared.Cut.{Cut}
use Rattle.tags.specs.declared.Cut.TheVariants.{Strips, Tiles}
use Rattle.paper.specs.declared.Entry.{Entry}
use Rattle.lines.specs.Ready.{at_slot}

-- the slot of 254, behind those of a picture's tags
abbrev pub subfile : ℕ
subfile = 14

-- the value of line k, one number, and that it lies in the file
abbrev pub number_at : Bool → List ℕ → List Entry → ℕ → ℕ
number_at big f found k = number_in big f (at_slot found k)

abbrev pub SingleAt : List ℕ → List Entry → ℕ → Type 0
SingleAt f found k = Single (length f) (at_slot found k)

abbrev pub short_at : Bool → List ℕ → List Entry → ℕ → ℕ
short_at big f found k = short_in big f (at_slot found k).start

-- ---- rule 11

-- width and length
pub record Sized (f : List ℕ) (found : List Entry) : Type 0 where
  pub width : SingleAt f found Index.width
  pub length : SingleAt f found Index.length

unfoldable pub sized_in : Bool → List ℕ → ℕ → ℕ → List Entry → Bool
sized_in big f w l found = eqb (number_at big f found Index.width) w && eqb (number_at big f found Index.length) l

-- 258, every value of which is to be 1
unfoldable pub all_one : Bits → Bool
all_one b = b.same && eqb b.first 1

abbrev pub bits_part : List ℕ → List Entry → List ℕ
bits_part f found = run f (at_slot found Index.bits).start (at_slot found Index.bits).len

pub record Single258 (f : List ℕ) (found : List Entry) : Type 0 where
  pub size : length f ≤ 4294967295
  pub some : 0 < (at_slot found Index.bits).count
  pub end : (at_slot found Index.bits).start + (at_slot found Index.bits).len ≤ length f
  pub room : 2 * (at_slot found Index.bits).count ≤ length (bits_part f found)

unfoldable pub single_in : Bool → List ℕ → List Entry → Bool
single_in big f found = all_one (bits_in big (at_slot found Index.bits).count (bits_part f found))

-- the other tags with one number, but for those by which the picture is cut
pub record Plain (f : List ℕ) (found : List Entry) : Type 0 where
  pub compression : (at_slot found Index.compression).start + 2 ≤ length f
  pub photometric : (at_slot found Index.photometric).start + 2 ≤ length f
  pub samples : (at_slot found Index.samples).start + 2 ≤ length f
  pub planar : eqb (at_slot found Index.planar).start 0 ≡ false → SingleAt f found Index.planar
  pub kind : SingleAt f found subfile

unfoldable pub plain_in : Bool → List ℕ → List Entry → Bool
plain_in big f found =
    allows codings (short_at big f found Index.compression)
    && (eqb (short_at big f found Index.photometric) 4
    && (eqb (short_at big f found Index.samples) 1
    && (planar_allowed (planar_in big f (at_slot found Index.planar))
    && eqb (number_at big f found subfile) 4)))

-- and those
unfoldable pub cut_allowed : Cut → Bool
cut_allowed (Strips rows) = allows (between 1 more ∷ []) rows
cut_allowed (Tiles width length) = sixteens width && sixteens length

-- ---- rule 12

unfoldable pub agrees : ℕ → ℕ → ℕ → ℕ → Bool
agrees bits offsets bytecounts pieces = eqb bits 1 && (eqb offsets pieces && eqb bytecounts pieces)
