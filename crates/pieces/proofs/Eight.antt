-- This page states that the eight calls of a search are one fact with the answers of three tests in it: what holds of places whose widths and byte order are
-- told by constants holds of those that have them. By it `skip` is proved. Assumes nothing.
use Rattle.std.proofs.Common.{◌≡◌, ℕ, ◌*◌, ◌≤◌, Bool, true, false, length, sym, ap, refl, ◌∙◌}
use Rattle.std.specs.Prelude.{Option, Some, None, IfSome}
use Rattle.order.specs.Width.{width}
use Rattle.paper.specs.Pieces.{rule13, rule14}
use Rattle.pieces.specs.Gaps.{out}
use Rattle.pieces.specs.Reading.{Room, told, place_in, pieces_from, body, Fetched, left, Reached}
use Rattle.pieces.specs.Spans.{span_from}
use Rattle.pieces.specs.declared.Gap.{Gap}
use Rattle.pieces.specs.declared.Span.{Span}
use Rattle.pieces.specs.declared.places.Places.{Places}
use Rattle.pieces.specs.declared.places.Reach.{Reach}
use Rattle.pieces.specs.declared.places.Stop.{Stop}

pub room_as : (w x : Bool) (k n : ℕ) → w ≡ x → width w * k ≤ n → width x * k ≤ n
room_as w x k n e h = rw e at h

-- the same runs, with these widths and this byte order
pub record ToldAs (p q : Places) : Type 0 where
  pub offsets : p.offsets.bytes.now ≡ q.offsets.bytes.now
  pub bytecounts : p.bytecounts.bytes.now ≡ q.bytecounts.bytes.now
  pub many : p.many ≡ q.many
  pub big : p.big ≡ q.big
  pub wideoffsets : p.offsets.wide ≡ q.offsets.wide
  pub widebytecounts : p.bytecounts.wide ≡ q.bytecounts.wide

module _ (p q : Places) (t : ToldAs p q) where
  from-same : (i : ℕ) → pieces_from p i ≡ pieces_from q i
  unfolding pieces_from
  from-same i = rw (t.offsets, t.bytecounts, t.many, t.big, t.wideoffsets, t.widebytecounts) refl

  place-same : (i : ℕ) → place_in p i ≡ place_in q i
  place-same i = rw (t.offsets, t.bytecounts, t.big, t.wideoffsets, t.widebytecounts) refl

  left-same : (o : Option Stop) → left p o ≡ left q o
  left-same None = refl
  left-same (Some s) = from-same s.at

  module _ (from : ℕ) (g : Gap) where
    stop-same : (o : Option Stop) → IfSome o (λ s. (from ≤ s.at) × Fetched q s × (out g (body s.place) ≡ true))
        → IfSome o (λ s. (from ≤ s.at) × Fetched p s × (out g (body s.place) ≡ true))
    stop-same None h = h
    stop-same (Some s) h = (h.0, record { low = rw t.many (h.1.low); is = h.1.is ∙ sym (place-same s.at) }, h.2)

    -- with a span, or without
    pub reached-as : (spanned : Bool) (given : Span) (r : Reach) → Reached q spanned from g given r → Reached p spanned from g given r
    reached-as spanned given r re =
        record {
          stop = stop-same r.stop re.stop;
          thirteen = λ n a b. ap (rule13 n) (from-same from) ∙ re.thirteen n a b ∙ ap (rule13 n) (sym (left-same r.stop));
          fourteen = λ ps h. ap (rule14 ps) (from-same from) ∙ re.fourteen ps h ∙ ap (rule14 ps) (sym (left-same r.stop));
          wider = λ y. ap (span_from given) (from-same from) ∙ re.wider y ∙ ap (span_from r.span) (sym (left-same r.stop));
        }

    -- and without one
    pub skipped-as : (given : Span) (r : Reach) → Reached q false from g given r → Reached p false from g given r
    skipped-as given r = reached-as false given r

-- ---- a call with constants: the runs have room for numbers of widths that are their own, and what it finds of the places as it is told them holds of them

module _ (p : Places) (big w v : Bool) (is-w : p.offsets.wide ≡ w) (is-v : p.bytecounts.wide ≡ v) where
  pub room-told : Room p w v
  room-told =
      (room_as p.offsets.wide w p.many (length p.offsets.bytes.now) is-w p.offsets_room, room_as p.bytecounts.wide v p.many (length p.bytecounts.bytes.now) is-v p.byte_counts_room)

  told-as : p.big ≡ big → ToldAs p (told p big w v room-told)
  told-as is-big =
      record { offsets = refl; bytecounts = refl; many = refl; big = is-big; wideoffsets = is-w; widebytecounts = is-v }

  pub called-as : p.big ≡ big → (spanned : Bool) (from : ℕ) (g : Gap) (given : Span) (r : Reach)
      → ((room : Room p w v) → Reached (told p big w v room) spanned from g given r) → Reached p spanned from g given r
  called-as is-big spanned from g given r found =
      reached-as p (told p big w v room-told) (told-as is-big) from g spanned given r (found room-told)
