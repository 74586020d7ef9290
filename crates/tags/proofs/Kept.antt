-- What rules 11 and 12 say of the values where they are kept. Assumes nothing.
use Prim.Native.Nat.{ℕ, ◌≤◌, ◌<◌}
use mathlib.Core.Path.{◌≡◌}
use mathlib.Core.Bool.{Bool, true, not}
use mathlib.Core.List.{[], ◌∷◌}
use native.Mathlib.Omega.{arith}
use Rattle.std.proofs.lemmas.Grind.{common_steps}
use borrow.Author.Tests.{not-false}
use Rattle.paper.specs.Outcome.{first_of}
use Rattle.paper.specs.declared.Outcome.{Outcome}
use Rattle.paper.specs.declared.Outcome.TheVariants.{Kept as kept}
use Rattle.paper.specs.Tests.{some, between, allows}
use Rattle.paper.specs.Tags.{Values, more, sixteens}
use Rattle.paper.specs.Tag
use Rattle.paper.proofs.Laws.{kept-cond}
use Rattle.tags.specs.declared.Cut.{Cut}
use Rattle.tags.specs.declared.Cut.TheVariants.{Strips, Tiles}
use Rattle.tags.specs.declared.Numbers.{Numbers}
use Rattle.tags.specs.declared.Bits.{Bits}
use Rattle.tags.specs.Numbers.{codings, rows_allowed, planar_allowed, tile_width_allowed, tile_length_allowed, eleven_by, Positive, count_of_pieces, twelve_of}

pub in-range : (a b v : ℕ) → allows (between a b ∷ []) v ≡ true → (a ≤ v) × (v ≤ b)
unfolding allows some
in-range a b v h = (grind (arith, common_steps, h), grind (arith, common_steps, h))

some-sixteens : (v : ℕ) → sixteens v ≡ true → 0 < v
unfolding sixteens
some-sixteens v h = grind (arith, common_steps, h)

positive : (c : Cut) → rows_allowed c ≡ true → tile_width_allowed c ≡ true → tile_length_allowed c ≡ true → Positive c
positive (Strips rows) h k l = (in-range 1 more rows h).0
positive (Tiles width length) h k l = (some-sixteens width k, some-sixteens length l)

-- rule 11 kept
pub record Allowed (v : Values) (n : Numbers) (bitsallowed : Bool) : Type 0 where
  pub width : v.width n.width ≡ true
  pub length : v.length n.length ≡ true
  pub bits : bitsallowed ≡ true
  pub samples : v.samples n.samples ≡ true
  pub cut : Positive n.cut

pub eleven-gives : (v : Values) (n : Numbers) (bitsallowed : Bool) (rest : Outcome) → eleven_by v n bitsallowed rest ≡ kept → Allowed v n bitsallowed
unfolding eleven_by
eleven-gives v n bitsallowed rest h =
    let a = kept-cond (not (v.width n.width)) Tag.width _ h in
    let b = kept-cond (not (v.length n.length)) Tag.length _ a.1 in
    let d = kept-cond (not bitsallowed) Tag.bits _ b.1 in
    let e = kept-cond (not (allows codings n.compression)) Tag.compression _ d.1 in
    let g = kept-cond (not (v.photometric n.photometric)) Tag.photometric _ e.1 in
    let i = kept-cond (not (v.samples n.samples)) Tag.samples _ g.1 in
    let j = kept-cond (not (rows_allowed n.cut)) Tag.rows_per_strip _ i.1 in
    let k = kept-cond (not (planar_allowed n.planar)) Tag.planar _ j.1 in
    let m = kept-cond (not (tile_width_allowed n.cut)) Tag.tile_width _ k.1 in
    let o = kept-cond (not (tile_length_allowed n.cut)) Tag.tile_length _ m.1 in
    record {
      width = not-false _ a.0;
      length = not-false _ b.0;
      bits = not-false _ d.0;
      samples = not-false _ i.0;
      cut = positive n.cut (not-false _ j.0) (not-false _ m.0) (not-false _ o.0);
    }

-- rule 12 kept
pub record Agreed (n : Numbers) (bitscount offsets bytecounts : ℕ) : Type 0 where
  pub bits_are : bitscount ≡ n.samples
  pub offsets_are : offsets ≡ count_of_pieces n
  pub byte_counts_are : bytecounts ≡ count_of_pieces n

pub twelve-gives : (n : Numbers) (b : Bits) (bitscount offsets bytecounts : ℕ)
    → twelve_of n b bitscount offsets bytecounts ≡ kept → Agreed n bitscount offsets bytecounts
unfolding twelve_of first_of
twelve-gives n b bitscount offsets bytecounts h =
    record { bits_are = grind (arith, common_steps, h); offsets_are = grind (arith, common_steps, h); byte_counts_are = grind (arith, common_steps, h) }
