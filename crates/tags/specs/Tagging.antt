-- What rules 27 and 9 to 12 answer for a file whose directory keeps rules 1 to 8: the first broken rule with its place, or the picture's width and
-- length and whether it is in tiles. Assumes nothing.
use Rattle.std.specs.Prelude.{ℕ, ◌≡◌, Bool, not, ◌&&◌, ◌||◌, List, length, Result}
use Rattle.paper.specs.Outcome.{breaks, verdict, or_else, first}
use Rattle.paper.specs.Tag
use Rattle.paper.specs.Tags.{Line, value_of, tiled, rule27, rule9, rule10}
use Rattle.paper.specs.Judge.{View, table_rules}
use Rattle.paper.specs.declared.Outcome.TheVariants.{Kept as kept}
use Rattle.paper.specs.declared.Verdict.{Verdict}
use Rattle.paper.specs.declared.Entry.{Entry}
use Rattle.lines.specs.Rows.{nine_of, ten_of}
use Rattle.lines.specs.Ready.{held_at, Ready}
use Rattle.lines.specs.declared.Line.{Line as Row}
use Rattle.outcomes.specs.Ruled.{ruled}
use Rattle.tags.specs.Slots.{strip_slots, tile_slots, some_at}
use Rattle.tags.specs.declared.Pictured.{Pictured}

-- ---- the first entry of each tag, by the rows of any table of a picture

-- rule 27: tags of both families, or of neither
abbrev pub mixed_at : List Entry → Bool
mixed_at found =
    let strips : Bool = some_at strip_slots found in
    let tiles : Bool = some_at tile_slots found in
    (strips && tiles) || (not strips && not tiles)

-- rules 27, 9 and 10: whether the picture is in tiles, or the verdict of the first that is broken
unfoldable pub families_of : List Row → List Entry → Result Bool Verdict
families_of rows found =
    let tiles : Bool = some_at tile_slots found in
    ruled
    (or_else 27 (breaks (mixed_at found) 0)
    (or_else 9 (nine_of rows tiles found)
    (or_else 10 (ten_of rows found) (verdict 0 0))))
    tiles

-- ---- a directory

-- what the directory at a place of the file shows, by a table
unfoldable pub view_of : List Line → List ℕ → Bool → ℕ → ℕ → View
view_of tb f big at c =
    record { table = tb; head = record { size = length f; big = big; at = at }; count = c; held = held_at tb f big at c }

-- the picture that it shows
unfoldable pub picture_of : View → Pictured
picture_of v =
    record {
      size = record { width = value_of v.head.big Tag.width v.held; length = value_of v.head.big Tag.length v.held };
      tiled = tiled v.held;
    }

unfoldable pub tagged_of : View → Result Pictured Verdict
tagged_of v = ruled (first (table_rules v)) (picture_of v)

-- the entries are those that a directory has of its table's tags, rules 27, 9 and 10 are kept by it, and the picture is in tiles or not
pub record Fitting (tb : List Line) (f : List ℕ) (big : Bool) (at c : ℕ) (t : Bool) (found : List Entry) : Type 0 where
  pub ready : Ready tb f big at c found
  pub tiled_is : t ≡ tiled (held_at tb f big at c)
  pub twenty_seven : rule27 (held_at tb f big at c) ≡ kept
  pub nine : rule9 tb (held_at tb f big at c) ≡ kept
  pub ten : rule10 tb (held_at tb f big at c) ≡ kept
