-- What the span of some places is good for: parts that have no byte in it share none with the places. Assumes nothing.
use Rattle.std.proofs.Common.{◌≡◌, ◌≤◌, true, List, [], ◌∷◌, refl, ◌∙◌, arith}
use Rattle.paper.specs.Outcome.{first_bad}
use Rattle.paper.specs.Tests.{all}
use Rattle.paper.specs.Pieces.{Piece, touches, rule14}
use Rattle.paper.specs.declared.Part.{Part}
use Rattle.paper.specs.declared.Outcome.TheVariants.{Kept as kept}
use Rattle.pieces.specs.Gaps.{clear}
use Rattle.pieces.specs.Spans.{lone, widened, span_from, span_of}
use Rattle.pieces.specs.declared.Span.{Span}
use Rattle.pieces.proofs.Gaps.{clear-free}

-- a span that holds another
abbrev Holds : Span → Span → Type 0
Holds s t = (s.low ≤ t.low) × (t.high ≤ s.high)

-- the wider one holds the given one and the place
widened-holds : (s : Span) (p : Part) → Holds (widened s p) s
unfolding widened
widened-holds s p = (omega arith, omega arith)

widened-lone : (s : Span) (p : Part) → Holds (widened s p) (lone p)
unfolding widened
widened-lone s p = (omega arith, omega arith)

holds_on : (s t u : Span) → Holds s t → Holds t u → Holds s u
holds_on s t u a b = (omega (arith, a.0, b.0), omega (arith, a.1, b.1))

from-holds : (s : Span) (ss : List Piece) → Holds (span_from s ss) s
unfolding span_from
from-holds s [] = (omega arith, omega arith)
from-holds s (p ∷ ss) = holds_on _ (widened s p.place) s (from-holds (widened s p.place) ss) (widened-holds s p.place)

-- a place that a clear span holds touches no part
rule14-next : (ps : List Part) (p : Piece) (ss : List Piece) (s : Span) → Holds s (lone p.place) → all (clear s.low s.high) ps ≡ true
    → rule14 ps (p ∷ ss) ≡ rule14 ps ss
unfolding rule14 first_bad touches
rule14-next ps p ss s h c = rw (clear-free s.low s.high p.place.start p.place.len ps h.0 h.1 c)

from-apart : (s : Span) (ss : List Piece) (ps : List Part) → all (clear (span_from s ss).low (span_from s ss).high) ps ≡ true → rule14 ps ss ≡ kept
unfolding span_from rule14 first_bad
from-apart s [] ps c = refl
from-apart s (p ∷ ss) ps c =
    let t = widened s p.place in
    rule14-next ps p ss (span_from t ss) (holds_on _ t _ (from-holds t ss) (widened-lone s p.place)) c ∙ from-apart t ss ps c

pub span-apart : (ss : List Piece) (ps : List Part) → all (clear (span_of ss).low (span_of ss).high) ps ≡ true → rule14 ps ss ≡ kept
unfolding span_of rule14 first_bad
span-apart [] ps c = refl
span-apart (p ∷ ss) ps c =
    rule14-next ps p ss (span_from (lone p.place) ss) (from-holds (lone p.place) ss) c ∙ from-apart (lone p.place) ss ps c
