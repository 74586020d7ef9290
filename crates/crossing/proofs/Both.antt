-- The lists that the code goes through are the reading lists: what further entries, the parts of both tables' tags, the head and both directories say is both
-- lists, and the parts of the mask's tags and its directory, with nothing named by further entries, are the mask's. Assumes nothing.
use Prim.Native.Nat.{ℕ, ◌*◌}
use mathlib.Core.Path.{◌≡◌, ◌∙◌}
use mathlib.Core.Bool.{Bool}
use mathlib.Core.List.{List, [], ◌∷◌, ◌++◌, map}
use Rattle.paper.specs.Bytes.{run, build}
use Rattle.paper.specs.Tests.{some, keep}
use Rattle.paper.specs.Pieces.{part, Piece, touches}
use Rattle.paper.specs.declared.Part.{Part}
use Rattle.layout.specs.Parts.{value_part}
use Rattle.layout.specs.declared.Further.{Further}
use Rattle.pieces.specs.Gaps.{named_parts, parts_of}
use Rattle.pieces.specs.Reading.{listed}
use Rattle.pieces.specs.declared.listing.Listing.{Listing}
use Rattle.crossing.specs.Pictures.{directory_part, mask_list, both_lists}
use Rattle.crossing.specs.declared.Picture.{Picture}

-- the parts of both tables' tags, the head and both directories
abbrev pub parts_both : Picture → Picture → List Part
parts_both i p = map value_part i.found.now ++ (map value_part p.found.now ++ part 0 8 ∷ directory_part i.directory ∷ directory_part p.directory ∷ [])

-- those of the mask's table's tags, and its directory
abbrev pub parts_mask : Picture → List Part
parts_mask p = map value_part p.found.now ++ directory_part p.directory ∷ []

-- any list that is what further entries name and these parts
pub both-told : (f : List ℕ) (i p : Picture) (r : Further) (ss : List Piece) {later : List ℕ} → later ≡ run f r.start (12 * r.many) → {x : Bool}
    → x ≡ some (touches (named_parts i.directory.big later r.many ++ parts_of (parts_both i p))) ss → x ≡ some (touches (both_lists f i r p)) ss
unfolding both_lists
both-told f i p r ss is h = rw is at h

-- the list of a `Listing`, as the test of the places goes through it
pub both-listed : (f : List ℕ) (i p : Picture) (r : Further) (ss : List Piece) {later : List ℕ} → later ≡ run f r.start (12 * r.many)
    → (l : Listing) {ps : List Part} → listed l ≡ named_parts i.directory.big later r.many ++ parts_of ps → ps ≡ parts_both i p → {x : Bool}
    → x ≡ some (touches (listed l)) ss → x ≡ some (touches (both_lists f i r p)) ss
both-listed f i p r ss is l is-l is-ps h = both-told f i p r ss is (h ∙ rw (is-l, is-ps))

-- the mask's, with nothing named by further entries
pub mask-listed : (p : Picture) (ss : List Piece) (l : Listing) → l.further.now ≡ [] → l.parts.now ≡ parts_mask p → {x : Bool}
    → x ≡ some (touches (listed l)) ss → x ≡ some (touches (mask_list p)) ss
unfolding listed mask_list named_parts keep build
mask-listed p ss l none is-ps h = h ∙ rw (none, is-ps)
