-- What rules 1 to 7, 9 to 14 and 27 find of a file: the picture's size, where the directory stands, the next offset if it is not 0, with the span of the
-- pieces, and where the values stand that rules 15 to 22 and the calls ask for. Assumes nothing.
use Rattle.std.specs.Prelude.{ℕ, cond, Option, Some, None, List, map, eqb, Result}
use Rattle.outcomes.specs.Ruled.{ruled}
use Rattle.paper.specs.Tag
use Rattle.paper.specs.Tags.{Held, find, has, value_of}
use Rattle.paper.specs.Pieces.{part}
use Rattle.paper.specs.declared.Part.{Part}
use Rattle.paper.specs.Judge.{View, view, head_in, next_in, pieces_of, image_stage}
use Rattle.paper.specs.declared.Verdict.{Verdict}
use Rattle.pieces.specs.Spans.{span_of}
use Rattle.layout.specs.Repeats.{further_of}
use Rattle.image.specs.declared.Image.{Image}
use Rattle.image.specs.declared.Next.{Next}
use Rattle.image.specs.declared.Imaged.{Imaged}

-- where the value of a tag stands; nowhere, with no byte, where the tag is absent
unfoldable pub tag_part : ℕ → List Held → Part
tag_part t hs = part (find t hs).entry.start (find t hs).entry.len

-- and nothing where it is absent
unfoldable pub text_part : ℕ → List Held → Option Part
text_part t hs = cond (has t hs) (Some (tag_part t hs)) None

-- the next offset, if it is not 0, and the span of the pieces
unfoldable pub next_of : View → ℕ → Option Next
next_of v next = cond (eqb next 0) None (Some (record { offset = next; span = span_of (pieces_of v) }))

-- what is told to the end
unfoldable pub lasting_in : View → ℕ → Image
lasting_in v next =
    record {
      big = v.head.big;
      size = record { width = value_of v.head.big Tag.width v.held; length = value_of v.head.big Tag.length v.held };
      at = v.head.at;
      next = next_of v next;
      directory = tag_part Tag.key_directory v.held;
      doubles = tag_part Tag.doubles v.held;
      characters = tag_part Tag.characters v.held;
      metadata = text_part Tag.metadata v.held;
      further = further_of v.head.at (map (λ h. h.entry) v.held);
    }

-- and with what the survey alone asks for, all that these rules find
unfoldable pub image_in : View → ℕ → Imaged
image_in v next =
    record {
      image = lasting_in v next;
      scale = tag_part Tag.scale v.held;
      tiepoint = tag_part Tag.tiepoint v.held;
      matrix = tag_part Tag.matrix v.held;
    }

-- or the first broken rule
unfoldable pub image_of : List ℕ → Result Imaged Verdict
image_of f = ruled (image_stage f) (image_in (view f) (next_in f (head_in f)))
