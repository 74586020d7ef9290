-- What the structs of this crate stand for: places of a file, a reading list, and how far a search over the places came. Assumes nothing.
use Rattle.std.specs.Prelude.{◌≡◌, ℕ, ◌-◌, ◌*◌, ◌/◌, ◌<◌, ◌≤◌, Bool, true, Option, Some, None, IfSome, List, [], ◌++◌, length}
use Rattle.order.specs.Width.{width}
use Rattle.paper.specs.Bytes.{num, build}
use Rattle.paper.specs.Tests.{all}
use Rattle.paper.specs.Pieces.{part, Piece, place_at, places_of, rule13, rule14}
use Rattle.paper.specs.declared.Part.{Part}
use Rattle.pieces.specs.declared.Gap.{Gap}
use Rattle.pieces.specs.declared.Span.{Span}
use Rattle.pieces.specs.declared.listing.Listing.{Listing}
use Rattle.pieces.specs.declared.places.Place.{Place}
use Rattle.pieces.specs.declared.places.Places.{Places}
use Rattle.pieces.specs.declared.places.Reach.{Reach}
use Rattle.pieces.specs.declared.places.Stop.{Stop}
use Rattle.pieces.specs.Gaps.{parts_of, named_parts, clear, out}
use Rattle.pieces.specs.Spans.{lone, span_from, span_of}

-- the places
unfoldable pub pieces_in : Places → List Piece
pieces_in p = places_of p.big (width p.offsets.wide) p.offsets.bytes.now (width p.bytecounts.wide) p.bytecounts.bytes.now p.many

-- those from i on
unfoldable pub pieces_from : Places → ℕ → List Piece
pieces_from p i = build (place_at p.big (width p.offsets.wide) p.offsets.bytes.now (width p.bytecounts.wide) p.bytecounts.bytes.now) i (p.many - i)

-- the runs have room for so many numbers of those widths
abbrev pub Room : Places → Bool → Bool → Type 0
Room p wideoffsets widebytecounts =
    (width wideoffsets * p.many ≤ length p.offsets.bytes.now) × (width widebytecounts * p.many ≤ length p.bytecounts.bytes.now)

-- the places of the same runs, with the byte order and the widths that are told
abbrev pub told : (p : Places) (big wideoffsets widebytecounts : Bool) → Room p wideoffsets widebytecounts → Places
told p big wideoffsets widebytecounts room =
    record {
      offsets = record { bytes = p.offsets.bytes; wide = wideoffsets };
      bytecounts = record { bytes = p.bytecounts.bytes; wide = widebytecounts };
      big = big;
      many = p.many;
      few = p.few;
      offsets_room = room.0;
      byte_counts_room = room.1;
    }

-- place i
abbrev pub place_in : Places → ℕ → Part
place_in p i = part (num p.big (width p.offsets.wide) p.offsets.bytes.now (width p.offsets.wide * i)) (num p.big (width p.bytecounts.wide) p.bytecounts.bytes.now (width p.bytecounts.wide * i))

-- how many further entries a list has
abbrev pub further_many : Listing → ℕ
further_many l = length l.further.now / 12

-- the reading list: what the further entries name, and the parts
unfoldable pub listed : Listing → List Part
listed l = named_parts l.big l.further.now (further_many l) ++ parts_of l.parts.now

-- a place as a part of the file
abbrev pub body : Place → Part
body x = part x.start x.len

-- a place that was fetched
pub record Fetched (p : Places) (s : Stop) : Type 0 where
  pub low : s.at < p.many
  pub is : body s.place ≡ place_in p s.at

-- the place at which a search stopped and those behind it; none where it did not stop
abbrev pub left : Places → Option Stop → List Piece
left p None = []
left p (Some s) = pieces_from p s.at

-- the first place was fetched, with its span
pub record Opened (p : Places) (r : Reach) : Type 0 where
  pub stop : IfSome r.stop (λ s. (s.at ≡ 0) × Fetched p s × (r.span ≡ lone (body s.place)))
  pub all_left : pieces_in p ≡ left p r.stop
  pub span : span_of (pieces_in p) ≡ span_from r.span (left p r.stop)

-- Where a search over the places from one on stopped, at one that has no bytes or does not lie in a gap, and what it passed by: places that do. These
-- keep rule 13 where the gap is in the file, and rule 14 where no part of the list has a byte there; and where a span is asked for, they have widened
-- the given one.
pub record Reached (p : Places) (spanned : Bool) (from : ℕ) (g : Gap) (given : Span) (r : Reach) : Type 0 where
  pub stop : IfSome r.stop (λ s. (from ≤ s.at) × Fetched p s × (out g (body s.place) ≡ true))
  pub thirteen : (n : ℕ) → 8 ≤ g.lo → g.hi ≤ n → rule13 n (pieces_from p from) ≡ rule13 n (left p r.stop)
  pub fourteen : (ps : List Part) → (g.lo < g.hi → all (clear g.lo g.hi) ps ≡ true) → rule14 ps (pieces_from p from) ≡ rule14 ps (left p r.stop)
  pub wider : spanned ≡ true → span_from given (pieces_from p from) ≡ span_from r.span (left p r.stop)
