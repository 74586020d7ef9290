-- What is known of a file before its second directory is looked at, and where that directory is laid. Assumes nothing.
use Rattle.std.specs.Prelude.{ℕ, ◌≡◌, Bool, List, length, Ok}
use Rattle.paper.specs.Outcome.{first, ◌▷◌}
use Rattle.paper.specs.Layout.{rule6}
use Rattle.paper.specs.Tag
use Rattle.paper.specs.Tags.{mask_table, value_of}
use Rattle.paper.specs.Judge.{head_in, next_in, view, file_stage, pieces_of, table_rules, mask_view, mask_verdict}
use Rattle.paper.specs.declared.Entry.{Entry}
use Rattle.paper.specs.declared.Outcome.TheVariants.{Kept as kept}
use Rattle.paper.specs.declared.Verdict.{Verdict}
use Rattle.layout.specs.Opening.{opened_of}
use Rattle.layout.specs.declared.Directory.{Directory}
use Rattle.lines.specs.Ready.{entries_at, Ready}
use Rattle.tags.specs.Tagging.{view_of}
use Rattle.pieces.specs.Spans.{span_of}
use Rattle.image.specs.declared.Image.{Image}
use Rattle.image.specs.declared.Next.{Next}
use Rattle.crossing.specs.Pictures.{pictures_of}
use Rattle.mask.specs.Masking.{tagged_of}

-- the file keeps rules 1 to 22 and 27; i has its byte order, where its directory stands and the picture's size, n the next offset and the span of its pieces
pub record Before (f : List ℕ) (i : Image) (n : Next) : Type 0 where
  pub own : (file_stage f).number ≡ 0
  pub big_is : i.big ≡ (head_in f).big
  pub at_is : i.at ≡ (head_in f).at
  pub width_is : i.size.width ≡ value_of (head_in f).big Tag.width (view f).held
  pub length_is : i.size.length ≡ value_of (head_in f).big Tag.length (view f).held
  pub next_is : n.offset ≡ next_in f (head_in f)
  pub span_is : n.span ≡ span_of (pieces_of (view f))

-- the mask's directory keeps rules 4 and 5
pub record Second (f : List ℕ) (i : Image) (n : Next) (d : Directory) : Type 0 where
  pub before : Before f i n
  pub laid : Ok d ≡ opened_of f (record { size = length f; big = i.big; at = n.offset })

-- rules 13 and 14 of the mask
unfoldable pub crossed : List ℕ → Verdict
crossed f = pictures_of f (view f) (mask_view f)

-- it keeps rules 6 to 8 too, and the entries are those of its table's tags; what is left are rules 27 and 9 to 14
pub record Found (f : List ℕ) (i : Image) (n : Next) (d : Directory) (found : List Entry) : Type 0 where
  pub second : Second f i n d
  pub ready : Ready (mask_table i.size.width i.size.length) f d.big d.at d.count found
  pub six : rule6 (entries_at f d.big d.at d.count) ≡ kept
  pub view_is : mask_view f ≡ view_of (mask_table i.size.width i.size.length) f d.big d.at d.count
  pub left : mask_verdict f ≡ first (table_rules (mask_view f)) ▷ crossed f

-- and rules 27 and 9 to 12; t: the mask is in tiles
pub record Third (f : List ℕ) (i : Image) (n : Next) (d : Directory) (t : Bool) (found : List Entry) : Type 0 where
  pub known : Found f i n d found
  pub tagged : Ok t ≡ tagged_of (view_of (mask_table i.size.width i.size.length) f d.big d.at d.count)
