-- Where the tags of a table stand: each in its cell, and in the entries of a directory. Assumes nothing.
use Rattle.std.specs.Prelude.{ℕ, suc, ◌*◌, ◌/◌, ◌%◌, ◌≡◌, Bool, true, cond, not, ◌&&◌, ◌||◌, List, [], ◌∷◌, map, eqb, ltb, length, get_or, Option, Some, None}
use Rattle.paper.specs.Bytes.{build}
use Rattle.paper.specs.Tests.{all, index_of, distinct}
use Rattle.paper.specs.declared.Entry.{Entry}
use Rattle.layout.specs.declared.Cell.{Cell}

-- ---- a table's tags, each in its cell

-- the number of a tag's cell, of 32
unfoldable pub cell_of : ℕ → ℕ → ℕ
cell_of factor t = t * factor / 256 % 32

-- cell c
abbrev pub cell_at : List Cell → ℕ → Cell
cell_at cells c = get_or cells c (record { tag = 0; slot = 0 })

-- the cell of a tag
abbrev pub at_cell : ℕ → List Cell → ℕ → Cell
at_cell factor cells t = cell_at cells (cell_of factor t)

-- a tag stands in its cell
unfoldable pub in_cell : ℕ → List Cell → ℕ → Bool
in_cell factor cells t = eqb (at_cell factor cells t).tag t

-- the slot of a tag that stands in its cell
unfoldable pub slot_in : ℕ → List Cell → ℕ → Option ℕ
slot_in factor cells t = cond (in_cell factor cells t) (Some (at_cell factor cells t).slot) None

-- the tag of each of m slots, which is that of the first cell with that slot
unfoldable pub slot_tags : List Cell → ℕ → List ℕ
slot_tags cells m = build (λ k. (cell_at cells (index_of k (map (λ c. c.slot) cells))).tag) 0 m

-- cell c holds one of the tags ts, and its slot is the index of that tag, or it holds a tag of another cell
unfoldable pub right : ℕ → List Cell → List ℕ → ℕ → Bool
right factor cells ts c =
    let cell : Cell = cell_at cells c in
    not (eqb (cell_of factor cell.tag) c) || (ltb cell.slot (length ts) && eqb cell.slot (index_of cell.tag ts))

-- what a table's cells must satisfy, computed for each table: the tags ts are different, each stands in its cell, and each cell is right
pub record Celled (factor : ℕ) (cells : List Cell) (ts : List ℕ) : Type 0 where
  pub different : distinct ts ≡ true
  pub stand : all (in_cell factor cells) ts ≡ true
  pub rights : all (right factor cells ts) (build (λ c. c) 0 32) ≡ true

-- ---- an entry

-- the index of the first entry with tag t, where the first of the list has index i
unfoldable pub place_from : ℕ → ℕ → List Entry → Option ℕ
place_from t i [] = None
place_from t i (e ∷ es) = cond (eqb e.tag t) (Some i) (place_from t (suc i) es)

-- where it stands among the entries of a directory
abbrev pub place_in : ℕ → List Entry → Option ℕ
place_in t es = place_from t 0 es

-- the first entry with tag t
unfoldable pub found_in : ℕ → List Entry → Option Entry
found_in t [] = None
found_in t (e ∷ es) = cond (eqb e.tag t) (Some e) (found_in t es)
