-- An accepted file: what its image says holds, and what its examination found is what the paper's view of it shows. Assumes nothing.
use Prim.Native.Nat.{ℕ, ◌+◌, ◌-◌, ◌≤◌, ◌<◌}
use mathlib.Core.Path.{◌≡◌, refl, sym, ap, ◌∙◌}
use mathlib.Core.Bool.{Bool, true, false, cond}
use mathlib.Core.Logic.{◌⊎◌, inl, inr}
use mathlib.Core.List.{List}
use lib.Dec.{eqb}
use lib.ListN.{length, get_or}
use Rattle.std.specs.Prelude.{Ok, Err}
use Rattle.paper.specs.Outcome.{◌▷◌}
use Rattle.paper.specs.Tags.{Held, bytes_of}
use Rattle.paper.specs.Judge.{view, head_in, count_in, entries_in, verdict_of}
use Rattle.paper.specs.Judge.{survey_stage, image_stage, mask_stage}
use Rattle.paper.specs.Calls.{judged_of, judged_in, answer}
use Rattle.paper.proofs.First.{chain-both, verdict-turned}
use Rattle.image.proofs.Seen.{Stands, Helds, file-size, later-stands, later-inside, held-is, known, image-stands}
use Rattle.paper.specs.declared.Entry.{Entry}
use Rattle.paper.specs.declared.Verdict.{Verdict}
use Rattle.paper.specs.Tag
use Rattle.outcomes.specs.Ruled.{ruled}
use Rattle.outcomes.proofs.Ruled.{found-ruled, broken-ruled}
use Rattle.layout.specs.Repeats.{text_count, further_of, later_texts}
use Rattle.layout.proofs.Repeats.{FurtherHolds}
use Rattle.lines.specs.Ready.{at_slot}
use Rattle.tags.specs.Index
use Rattle.tags.specs.Slots.{tag_at}
use Rattle.tags.proofs.Accepted.{FixedColumn}
use Rattle.ground.specs.Answer.{Holds, Sized}
use Rattle.judge.specs.Examining.{examined_in, examined_of, judged_by}
use Rattle.judge.specs.declared.Examined.{Examined}

-- ---- rules 1 to 14 and 27 are kept

module _ (f : List ℕ) (zero : (image_stage f).number ≡ 0) where
  -- the runs of the ground are empty or of their full length
  sized-one : (n t k : ℕ) {es : List Entry} → FixedColumn f (Helds f zero) es n t k
      → Holds 0 (bytes_of t (view f).held) ⊎ Holds n (bytes_of t (view f).held)
  sized-one n t k {es} x =
      go (eqb (at_slot es k).start 0) (ap (λ (hs : List Held). length (bytes_of t hs)) (held-is f zero) ∙ ap length x.slot.bytes ∙ x.room)
    where
      go : (b : Bool) → length (bytes_of t (view f).held) ≡ cond b 0 n → Holds 0 (bytes_of t (view f).held) ⊎ Holds n (bytes_of t (view f).held)
      go true h = inl h
      go false h = inr h

  pub sized : Sized (bytes_of Tag.scale (view f).held) (bytes_of Tag.tiepoint (view f).held) (bytes_of Tag.matrix (view f).held)
  sized =
      record {
        scale = sized-one 24 Tag.scale 14 (known f zero).scale;
        tiepoint = sized-one 48 Tag.tiepoint 15 (known f zero).tiepoint;
        matrix = sized-one 128 Tag.matrix 16 (known f zero).matrix;
      }

-- ---- all rules are kept

module _ (f : List ℕ) (zero : (verdict_of f).number ≡ 0) where
  image-zero : (image_stage f).number ≡ 0
  image-zero = (chain-both (image_stage f) (survey_stage (view f) ▷ mask_stage f) (ap (λ (v : Verdict). v.number) (sym (verdict-turned f)) ∙ zero)).0

  pub size : length f ≤ 4294967295
  size = file-size f image-zero

  pub stands : (k : ℕ) → k < Index.many → Stands f (view f).held (tag_at k)
  stands = image-stands f image-zero

  pub further-stands : FurtherHolds f (head_in f).big (head_in f).at (count_in f (head_in f)) (further_of (head_in f).at (entries_in f (head_in f)))
  further-stands = later-stands f image-zero

  pub further-inside : (d : Entry) (j : ℕ) → j < text_count (entries_in f (head_in f)) - 1
      → (get_or (later_texts (entries_in f (head_in f))) j d).start + (get_or (later_texts (entries_in f (head_in f))) j d).len ≤ length f
  further-inside = later-inside f image-zero

-- ---- what an examination answers

pub accepted : (f : List ℕ) (e : Examined) → Ok e ≡ examined_of f → (verdict_of f).number ≡ 0
unfolding examined_of
accepted f e is = (found-ruled (verdict_of f) _ e is).0

pub found : (f : List ℕ) (e : Examined) → Ok e ≡ examined_of f → e ≡ examined_in f
unfolding examined_of
found f e is = (found-ruled (verdict_of f) _ e is).1

pub refuses : (f : List ℕ) (v : Verdict) → Err v ≡ examined_of f → (v ≡ verdict_of f) × ((verdict_of f).number ≡ 0 → ⊥)
unfolding examined_of
refuses f v is = let b = broken-ruled (verdict_of f) _ v is in (b.1, b.0)

-- the judgement is what is told of it
pub judged-is : (f : List ℕ) → judged_by (examined_of f) ≡ judged_of f
unfolding examined_of judged_by judged_of judged_in answer examined_in ruled
judged-is f = go (eqb (verdict_of f).number 0) refl
  where
    go : (b : Bool) → eqb (verdict_of f).number 0 ≡ b → judged_by (examined_of f) ≡ judged_of f
    go true e = rw e
    go false e = rw e
