-- The two entries that were found of the offsets and of the byte counts of the pieces name them, by any table of a picture. Assumes nothing.
use Prim.Native.Nat.{ℕ, ◌*◌, ◌≤◌, ◌<◌}
use mathlib.Core.Path.{◌≡◌, sym, ap, ◌∙◌, subst}
use mathlib.Core.Bool.{Bool, true, false}
use mathlib.Core.List.{List}
use native.Mathlib.Omega.{arith}
use lib.Dec.{eqb}
use lib.ListN.{length}
use Rattle.order.specs.Width.{width}
use Rattle.paper.specs.Bytes.{run}
use Rattle.paper.specs.Layout.{size_of}
use Rattle.paper.specs.Tags.{Line, Held, find, offsets_tag, byte_counts_tag, piece_count}
use Rattle.paper.specs.Pieces.{pieces, places_of}
use Rattle.paper.specs.Judge.{pieces_of}
use Rattle.paper.specs.declared.Entry.{Entry}
use Rattle.paper.proofs.Laws.{run-length-in}
use Rattle.lines.specs.Ready.{held_at, at_slot}
use Rattle.lines.proofs.Slots.{Slot}
use Rattle.tags.specs.Tagging.{view_of}
use Rattle.tags.proofs.Accepted.{PieceColumn}
use Rattle.image.specs.Naming.{named_pieces, Named}

-- what is asked of the offsets and of the byte counts, numbers of a width that the type tells, one for each piece: `PieceColumn`, whatever types there are
pub record PieceNumbers (f : List ℕ) (hs : List Held) (found : List Entry) (pieces t k : ℕ) : Type 0 where
  pub slot : Slot f hs found t k
  pub wide : size_of (at_slot found k).typ ≡ width (eqb (at_slot found k).typ 4)
  pub count : (at_slot found k).count ≡ pieces
  pub room : width (eqb (at_slot found k).typ 4) * (at_slot found k).count ≤ length (run f (at_slot found k).start (at_slot found k).len)

pub numbers-of : {f : List ℕ} {hs : List Held} {found : List Entry} {pieces t k : ℕ} → PieceColumn f hs found pieces t k → PieceNumbers f hs found pieces t k
numbers-of c = record { slot = c.slot; wide = c.wide; count = c.count; room = c.room }

module _ (tb : List Line) {f : List ℕ} (big : Bool) (at c : ℕ) {found : List Entry} (small : length f ≤ 4294967295) {a b : ℕ}
    (o : PieceNumbers f (held_at tb f big at c) found (piece_count big (held_at tb f big at c)) (offsets_tag (held_at tb f big at c)) a)
    (s : PieceNumbers f (held_at tb f big at c) found (piece_count big (held_at tb f big at c)) (byte_counts_tag (held_at tb f big at c)) b) where
  places-are : named_pieces f big (at_slot found a) (at_slot found b) ≡ pieces_of (view_of tb f big at c)
  unfolding named_pieces pieces_of pieces view_of
  places-are =
      let h = held_at tb f big at c in
      let x : width (eqb (at_slot found a).typ 4) ≡ size_of (find (offsets_tag h) h).entry.typ = sym o.wide ∙ ap (λ (e : Entry). size_of e.typ) (sym o.slot.entry) in
      let y : width (eqb (at_slot found b).typ 4) ≡ size_of (find (byte_counts_tag h) h).entry.typ = sym s.wide ∙ ap (λ (e : Entry). size_of e.typ) (sym s.slot.entry) in
      λ i. places_of big (x i) (sym o.slot.bytes i) (y i) (sym s.slot.bytes i) (sym o.slot.entry i).count

  offsets_room : width (eqb (at_slot found a).typ 4) * (at_slot found a).count ≤ (at_slot found a).len
  offsets_room = omega (arith, o.room, run-length-in f (at_slot found a).start (at_slot found a).len o.slot.within)

  byte_counts_room : width (eqb (at_slot found b).typ 4) * (at_slot found a).count ≤ (at_slot found b).len
  byte_counts_room =
      subst (λ (k : ℕ). width (eqb (at_slot found b).typ 4) * k ≤ (at_slot found b).len) (s.count ∙ sym o.count)
      (omega (arith, s.room, run-length-in f (at_slot found b).start (at_slot found b).len s.slot.within))

  few : (w : Bool) → width w * (at_slot found a).count ≤ (at_slot found a).len → (at_slot found a).count < 4294967296
  few true r = omega (arith, r, o.slot.within, small)
  few false r = omega (arith, r, o.slot.within, small)

  pub named : Named tb f big at c (at_slot found a) (at_slot found b)
  named =
      record {
        standing =
            record {
              offsets = o.slot.within;
              byte_counts = s.slot.within;
              few = few (eqb (at_slot found a).typ 4) offsets_room;
              offsets_room = offsets_room;
              byte_counts_room = byte_counts_room;
            };
        places = places-are;
      }
