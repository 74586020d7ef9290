-- The span of some places: from the lowest start up to the highest end. Assumes nothing.
use Rattle.std.specs.Prelude.{ℕ, ◌+◌, min, max, Bool, cond, Option, Some, None, List, [], ◌∷◌, Result}
use Rattle.outcomes.specs.Ruled.{ruled}
use Rattle.paper.specs.Outcome.{first, ◌▸◌}
use Rattle.paper.specs.Pieces.{Piece, rule13, rule14}
use Rattle.paper.specs.declared.Part.{Part}
use Rattle.paper.specs.declared.Verdict.{Verdict}
use Rattle.pieces.specs.declared.Span.{Span}

-- that of no place
abbrev pub no_span : Span
no_span = record { low = 0; high = 0 }

-- that of one
abbrev pub lone : Part → Span
lone p = record { low = p.start; high = p.start + p.len }

-- a span with one place more
unfoldable pub widened : Span → Part → Span
widened s p = record { low = min s.low p.start; high = max s.high (p.start + p.len) }

unfoldable pub span_from : Span → List Piece → Span
span_from s [] = s
span_from s (p ∷ ps) = span_from (widened s p.place) ps

unfoldable pub span_of : List Piece → Span
span_of [] = no_span
span_of (p ∷ ps) = span_from (lone p.place) ps

-- rule 13 alone, of places in a file of n bytes, and their span where it is kept
unfoldable pub within_of : ℕ → List Piece → Result Span Verdict
within_of n ss = ruled (first (13 ▸ rule13 n ss ∷ [])) (span_of ss)

-- rules 13 and 14, of places in a file of n bytes, with that reading list
unfoldable pub places_judged : ℕ → List Part → List Piece → Verdict
places_judged n parts ss = first (13 ▸ rule13 n ss ∷ 14 ▸ rule14 parts ss ∷ [])

-- and where both are kept the span of the places, if one is asked for
unfoldable pub placed_of : Bool → ℕ → List Part → List Piece → Result (Option Span) Verdict
placed_of spanned n parts ss = ruled (places_judged n parts ss) (cond spanned (Some (span_of ss)) None)
