-- The lines of the image's table by their number, and which of them belong to strips and which to tiles. Assumes nothing.
use Rattle.std.specs.Prelude.{ℕ, Bool, cond, not, List, [], ◌∷◌, eqb, get_or}
use Rattle.paper.specs.Tests.{some}
use Rattle.paper.specs.Tags.{Line, line, no, any, table}
use Rattle.paper.specs.declared.Entry.{Entry}
use Rattle.lines.specs.Ready.{at_slot}
use Rattle.tags.specs.Index

-- line k of the table, counted from 0, and its tag
unfoldable pub line_at : ℕ → Line
line_at k = get_or table k (line 0 no 0 0 0 0 any)

unfoldable pub tag_at : ℕ → ℕ
tag_at k = (line_at k).tag

-- the lines of each family
abbrev pub strip_slots : List ℕ
strip_slots = Index.strip_offsets ∷ Index.rows_per_strip ∷ Index.strip_byte_counts ∷ []

abbrev pub tile_slots : List ℕ
tile_slots = Index.tile_width ∷ Index.tile_length ∷ Index.tile_offsets ∷ Index.tile_byte_counts ∷ []

-- some tag of these lines is present: it starts elsewhere than at 0
unfoldable pub some_at : List ℕ → List Entry → Bool
some_at ks found = some (λ k. not (eqb (at_slot found k).start 0)) ks

-- the lines that say where the pieces lie
unfoldable pub slot_of_offsets : Bool → ℕ
slot_of_offsets tiled = cond tiled Index.tile_offsets Index.strip_offsets

unfoldable pub slot_of_byte_counts : Bool → ℕ
slot_of_byte_counts tiled = cond tiled Index.tile_byte_counts Index.strip_byte_counts
