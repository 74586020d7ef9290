-- Document 01, the table of tags, with request C-11's tags of tiles, that of a mask by request C-14, and rules 27 and 9 to 12, rule 10 as request C-12
-- leaves it. From here on a rule sees the value bytes of the table's tags, which are runs of the file. `tb` is a table and `hs` are the entries of a
-- directory, so that another kind of directory may have a table of its own. Assumes nothing.
use Rattle.std.specs.Prelude.{ℕ, ◌+◌, ◌-◌, ◌*◌, ◌/◌, ◌%◌, Bool, true, false, cond, not, ◌&&◌, ◌||◌, List, [], ◌∷◌, ltb, leb, eqb}
use Rattle.paper.specs.Bytes.{run, num, elems}
use Rattle.paper.specs.Outcome.{Outcome, breaks, Fault, fault, first_there, first_bad}
use Rattle.paper.specs.Tests.{all, some, between, just, allows}
use Rattle.paper.specs.Layout.{size_of, typed}
use Rattle.paper.specs.Tag
use Rattle.paper.specs.declared.Entry.{Entry}

-- ---- the table

-- a tag, whether it is needed in a picture of strips (false) and in one of tiles (true), the one or two types it may have, the least and the most
-- of its count, and which values are allowed
pub record Line : Type 0 where
  pub tag : ℕ
  pub needed : Bool → Bool
  pub type : ℕ
  pub other : ℕ
  pub least : ℕ
  pub most : ℕ
  pub values : ℕ → Bool

abbrev pub line : ℕ → (Bool → Bool) → ℕ → ℕ → ℕ → ℕ → (ℕ → Bool) → Line
line t n a b l m v = record { tag = t; needed = n; type = a; other = b; least = l; most = m; values = v }

-- needed: always, never, in a picture of strips, in one of tiles
abbrev pub yes : Bool → Bool
yes tiled = true

abbrev pub no : Bool → Bool
no tiled = false

abbrev pub in_strips : Bool → Bool
in_strips tiled = not tiled

abbrev pub in_tiles : Bool → Bool
in_tiles tiled = tiled

abbrev pub BYTE : ℕ
BYTE = 1

abbrev pub ASCII : ℕ
ASCII = 2

abbrev pub SHORT : ℕ
SHORT = 3

abbrev pub LONG : ℕ
LONG = 4

abbrev pub DOUBLE : ℕ
DOUBLE = 12

-- the greatest number that 4 bytes hold: as a count, 'or more'
abbrev pub more : ℕ
more = 4294967295

-- values 'see 13', 'see 15', 'see 21' and 'any': the rules named test them
abbrev pub any : ℕ → Bool
any v = true

-- positive multiples of 16
unfoldable pub sixteens : ℕ → Bool
sixteens v = ltb 0 v && eqb (v % 16) 0

-- which values the tags of a picture may have, where one kind of picture differs from another
pub record Values : Type 0 where
  pub width : ℕ → Bool
  pub length : ℕ → Bool
  pub bits : ℕ → Bool
  pub photometric : ℕ → Bool
  pub samples : ℕ → Bool

-- the lines of a picture's tags, in front of the others that a table has
abbrev pub picture_lines : Values → List Line → List Line
picture_lines v others =
    line Tag.width yes SHORT LONG 1 1 v.width
    ∷ line Tag.length yes SHORT LONG 1 1 v.length
    ∷ line Tag.bits yes SHORT SHORT 1 more v.bits
    ∷ line Tag.compression yes SHORT SHORT 1 1 (allows (just 1 ∷ just 2 ∷ just 32773 ∷ []))
    ∷ line Tag.photometric yes SHORT SHORT 1 1 v.photometric
    ∷ line Tag.strip_offsets in_strips SHORT LONG 1 more any
    ∷ line Tag.samples yes SHORT SHORT 1 1 v.samples
    ∷ line Tag.rows_per_strip in_strips SHORT LONG 1 1 (allows (between 1 more ∷ []))
    ∷ line Tag.strip_byte_counts in_strips SHORT LONG 1 more any
    ∷ line Tag.planar no SHORT SHORT 1 1 (allows (just 1 ∷ []))
    ∷ line Tag.tile_width in_tiles SHORT LONG 1 1 sixteens
    ∷ line Tag.tile_length in_tiles SHORT LONG 1 1 sixteens
    ∷ line Tag.tile_offsets in_tiles LONG LONG 1 more any
    ∷ line Tag.tile_byte_counts in_tiles SHORT LONG 1 more any
    ∷ others

abbrev pub image_values : Values
image_values =
    record {
      width = allows (between 1 1000000 ∷ []);
      length = allows (between 1 1000000 ∷ []);
      bits = allows (just 1 ∷ just 8 ∷ just 16 ∷ just 32 ∷ []);
      photometric = allows (between 0 3 ∷ []);
      samples = allows (between 1 8 ∷ []);
    }

-- the image's table
unfoldable pub table : List Line
table =
    picture_lines image_values
    (line Tag.scale no DOUBLE DOUBLE 3 3 any
    ∷ line Tag.tiepoint no DOUBLE DOUBLE 6 6 any
    ∷ line Tag.matrix no DOUBLE DOUBLE 16 16 any
    ∷ line Tag.key_directory yes SHORT SHORT 4 more any
    ∷ line Tag.doubles no DOUBLE DOUBLE 1 more any
    ∷ line Tag.characters no ASCII ASCII 1 more any
    ∷ line Tag.metadata no BYTE BYTE 1 more any
    ∷ [])

-- The table of a mask, whose image has width w and length l. A mask's refusal shows the number of a rule and no tag, so that no answer depends on the order
-- of the lines, and 254 may stand behind the lines that both tables have.
abbrev pub mask_values : ℕ → ℕ → Values
mask_values w l =
    record {
      width = allows (just w ∷ []);
      length = allows (just l ∷ []);
      bits = allows (just 1 ∷ []);
      photometric = allows (just 4 ∷ []);
      samples = allows (just 1 ∷ []);
    }

unfoldable pub mask_table : ℕ → ℕ → List Line
mask_table w l = picture_lines (mask_values w l) (line Tag.subfile yes LONG LONG 1 1 (allows (just 4 ∷ [])) ∷ [])

-- a line of a table has a tag other than 0, which stands for an absent entry
unfoldable pub named : Line → Bool
named l = not (eqb 0 l.tag)

unfoldable pub in_table : List Line → ℕ → Bool
in_table tb t = some (λ l. eqb l.tag t) tb

-- ---- an entry with its value bytes

pub record Held : Type 0 where
  pub entry : Entry
  pub bytes : List ℕ

-- the value bytes are on the reading list: the tag is in the table and the type is 1 to 12
unfoldable pub listed : List Line → Entry → Bool
listed tb e = in_table tb e.tag && typed e

-- the only place where a rule after 8 gets bytes of the file f
unfoldable pub hold : List Line → List ℕ → Entry → Held
hold tb f e = record { entry = e; bytes = cond (listed tb e) (run f e.start e.len) [] }

abbrev pub absent : Held
absent = record { entry = record { tag = 0; typ = 0; count = 0; start = 0; len = 0 }; bytes = [] }

-- the first entry of a tag; `absent`, whose tag is 0 and whose bytes are none, where there is none
unfoldable pub find : ℕ → List Held → Held
find t [] = absent
find t (h ∷ hs) = cond (eqb h.entry.tag t) h (find t hs)

-- for a tag other than 0
unfoldable pub has : ℕ → List Held → Bool
has t hs = eqb (find t hs).entry.tag t

abbrev pub bytes_of : ℕ → List Held → List ℕ
bytes_of t hs = (find t hs).bytes

abbrev pub count_of : ℕ → List Held → ℕ
count_of t hs = (find t hs).entry.count

unfoldable pub values_of : Bool → ℕ → List Held → List ℕ
values_of big t hs = elems big (size_of (find t hs).entry.typ) (count_of t hs) (bytes_of t hs)

-- the only, or the first, value of a tag
unfoldable pub value_of : Bool → ℕ → List Held → ℕ
value_of big t hs = num big (size_of (find t hs).entry.typ) (bytes_of t hs) 0

-- ---- strips or tiles

-- the tags of each family
abbrev pub strip_tags : List ℕ
strip_tags = Tag.strip_offsets ∷ Tag.rows_per_strip ∷ Tag.strip_byte_counts ∷ []

abbrev pub tile_tags : List ℕ
tile_tags = Tag.tile_width ∷ Tag.tile_length ∷ Tag.tile_offsets ∷ Tag.tile_byte_counts ∷ []

-- some tag of a family is present
unfoldable pub has_some : List ℕ → List Held → Bool
has_some ts hs = some (λ t. has t hs) ts

-- the picture is in tiles; where rule 27 is kept and it is not, it is in strips
abbrev pub tiled : List Held → Bool
tiled hs = has_some tile_tags hs

-- tags of both families, or of neither
unfoldable pub rule27 : List Held → Outcome
rule27 hs =
    let strips : Bool = has_some strip_tags hs in
    let tiles : Bool = has_some tile_tags hs in
    breaks ((strips && tiles) || (not strips && not tiles)) 0

-- the tags that say where the pieces of the picture lie
abbrev pub offsets_tag : List Held → ℕ
offsets_tag hs = cond (tiled hs) Tag.tile_offsets Tag.strip_offsets

abbrev pub byte_counts_tag : List Held → ℕ
byte_counts_tag hs = cond (tiled hs) Tag.tile_byte_counts Tag.strip_byte_counts

-- a / b, rounded up
unfoldable pub rounded_up : ℕ → ℕ → ℕ
rounded_up a b = (a + (b - 1)) / b

-- the number of tiles, those across times those down, or of strips
unfoldable pub piece_count : Bool → List Held → ℕ
piece_count big hs =
    let width : ℕ = value_of big Tag.width hs in
    let length : ℕ = value_of big Tag.length hs in
    cond (tiled hs)
    (rounded_up width (value_of big Tag.tile_width hs) * rounded_up length (value_of big Tag.tile_length hs))
    (rounded_up length (value_of big Tag.rows_per_strip hs))

-- ---- rules 9 to 12

unfoldable pub lacks : List Held → Line → Bool
lacks hs l = l.needed (tiled hs) && not (has l.tag hs)

unfoldable pub rule9 : List Line → List Held → Outcome
rule9 tb hs = first_bad (lacks hs) (λ l. l.tag) tb

unfoldable pub fits_the_line : Line → Entry → Bool
fits_the_line l e =
    (eqb e.typ l.type || eqb e.typ l.other) && (leb l.least e.count && leb e.count l.most)

-- some entry of the line's tag does not fit it
unfoldable pub misfits : List Held → Line → Bool
misfits hs l = some (λ h. eqb h.entry.tag l.tag && not (fits_the_line l h.entry)) hs

unfoldable pub rule10 : List Line → List Held → Outcome
rule10 tb hs = first_bad (misfits hs) (λ l. l.tag) tb

unfoldable pub disallowed : Bool → List Held → Line → Bool
disallowed big hs l = has l.tag hs && not (all l.values (values_of big l.tag hs))

unfoldable pub rule11 : List Line → Bool → List Held → Outcome
rule11 tb big hs = first_bad (disallowed big hs) (λ l. l.tag) tb

-- Lowest first. `bits` is the first value of 258; with the first line kept, every value
abbrev pub disagreements : Bool → List Held → List Fault
disagreements big hs =
    let bits : ℕ = value_of big Tag.bits hs in
    let samples : ℕ = value_of big Tag.samples hs in
    let coding : ℕ = value_of big Tag.compression hs in
    fault (not (eqb (count_of Tag.bits hs) samples) || not (all (eqb bits) (values_of big Tag.bits hs))) Tag.bits
    ∷ fault ((eqb coding 2 || eqb coding 32773) && (not (eqb bits 1) || not (eqb samples 1))) Tag.compression
    ∷ fault (not (eqb (count_of (offsets_tag hs) hs) (piece_count big hs))) (offsets_tag hs)
    ∷ fault (not (eqb (count_of (byte_counts_tag hs) hs) (piece_count big hs))) (byte_counts_tag hs)
    ∷ []

unfoldable pub rule12 : Bool → List Held → Outcome
rule12 big hs = first_there (disagreements big hs)
