-- What is known of a file after each stage of its image. Assumes nothing.
use Rattle.std.specs.Prelude.{ℕ, ◌≡◌, Bool, cond, not, Option, Some, None, List, [], ◌∷◌, eqb, Result, Ok}
use Rattle.outcomes.specs.Ruled.{ruled}
use Rattle.paper.specs.Outcome.{first}
use Rattle.paper.specs.Tags.{table}
use Rattle.paper.specs.Pieces.{part}
use Rattle.paper.specs.Judge.{View, pieces_of, full_of, piece_rules}
use Rattle.paper.specs.declared.Entry.{Entry}
use Rattle.paper.specs.declared.Part.{Part}
use Rattle.paper.specs.declared.Verdict.{Verdict}
use Rattle.pieces.specs.Spans.{span_of}
use Rattle.pieces.specs.declared.Span.{Span}
use Rattle.layout.specs.Parts.{value_part}
use Rattle.layout.specs.declared.Further.{Further}
use Rattle.lines.specs.Ready.{at_slot, Ready, Behind}
use Rattle.tags.specs.Index
use Rattle.tags.specs.Tagging.{view_of, tagged_of}
use Rattle.tags.specs.declared.Pictured.{Pictured}

-- rules 1 to 7 are kept, and the entries and the further ones of 50909 are those of the directory
pub record Passed (f : List ℕ) (big : Bool) (at c : ℕ) (found : List Entry) (r : Further) : Type 0 where
  pub ready : Ready table f big at c found
  pub behind : Behind f big at c r

-- rules 27 and 9 to 12 too, and this is the picture
pub record Fits (f : List ℕ) (big : Bool) (at c : ℕ) (p : Pictured) (found : List Entry) (r : Further) : Type 0 where
  pub passed : Passed f big at c found r
  pub pictured : Ok p ≡ tagged_of (view_of table f big at c)

-- rules 13 and 14
unfoldable pub pieces_judged : View → Verdict
pieces_judged v = first (piece_rules (full_of v) v)

-- where they are kept the span of the pieces, if it is asked for
unfoldable pub placed_in : Bool → View → Result (Option Span) Verdict
placed_in spanned v = ruled (pieces_judged v) (cond spanned (Some (span_of (pieces_of v))) None)

-- where the value stands of the entry that was found of a tag, if the tag is there
abbrev pub present_part : Entry → Option Part
present_part e = cond (not (eqb e.start 0)) (Some (value_part e)) None

-- of the table's entries those of all tags but the ones with one SHORT or LONG, whose values stand in their entries, and of the slots that say where pieces
-- lie a and b alone; then the head and the directory
unfoldable pub outer_of : List Entry → ℕ → ℕ → Part → List Part
outer_of es a b directory =
    value_part (at_slot es Index.bits)
    ∷ value_part (at_slot es a)
    ∷ value_part (at_slot es b)
    ∷ value_part (at_slot es Index.scale)
    ∷ value_part (at_slot es Index.tiepoint)
    ∷ value_part (at_slot es Index.matrix)
    ∷ value_part (at_slot es Index.key_directory)
    ∷ value_part (at_slot es Index.doubles)
    ∷ value_part (at_slot es Index.characters)
    ∷ value_part (at_slot es Index.metadata)
    ∷ part 0 8
    ∷ directory
    ∷ []
