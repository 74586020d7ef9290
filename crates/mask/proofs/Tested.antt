-- Rules 11 and 12 of a mask over the values, as tests that all pass where the rule is kept. Assumes nothing.
use Prim.Native.Nat.{ℕ, zero, suc, ◌*◌, ◌<◌}
use mathlib.Core.Path.{◌≡◌, refl, sym, ap₂, ◌∙◌, subst}
use mathlib.Core.Bool.{Bool, true, false, cond, not, ◌&&◌, ◌||◌, and-true, and-false}
use mathlib.Core.List.{List, [], ◌∷◌}
use native.Mathlib.Nat.{not-suc-le-zero, mul-zero}
use lib.Dec.{eqb}
use borrow.Author.Tests.{eqb-true, eq-eqb, ne_eqb, eqb-false}
use Rattle.paper.specs.Bytes.{num, build, elems}
use Rattle.paper.specs.Layout.{size_of}
use Rattle.paper.specs.Outcome.{breaks, first_of}
use Rattle.paper.specs.Tests.{all, just, allows}
use Rattle.paper.specs.Tag
use Rattle.paper.specs.Tags.{mask_values, Held, find, bytes_of, count_of, value_of, values_of}
use Rattle.paper.specs.declared.Outcome.{Outcome}
use Rattle.paper.specs.declared.Outcome.TheVariants.{Kept as kept, Broken as broken}
use Rattle.tags.specs.Numbers.{codings, bits_of, rows_allowed, planar_allowed, tile_width_allowed, tile_length_allowed, eleven_by, count_of_pieces, twelve_of}
use Rattle.tags.specs.declared.Cut.{Cut}
use Rattle.tags.specs.declared.Cut.TheVariants.{Strips, Tiles}
use Rattle.tags.specs.declared.Numbers.{Numbers}
use Rattle.tags.specs.declared.Bits.{Bits}
use Rattle.tags.proofs.Values.{one_of}
use Rattle.mask.specs.Values.{all_one, cut_allowed, agrees}

abbrev pub is_kept : Outcome → Bool
is_kept kept = true
is_kept (broken p) = false

pub kept-is : (o : Outcome) → is_kept o ≡ true → o ≡ kept
kept-is kept h = refl
kept-is (broken p) h = cc

-- ---- rule 11

kept_if : (b : Bool) (p : ℕ) (o : Outcome) → is_kept (cond (not b) (broken p) o) ≡ b && is_kept o
kept_if true p o = refl
kept_if false p o = refl

pub just-one : (v a : ℕ) → allows (just a ∷ []) v ≡ eqb v a
just-one v a = sym (one_of v a [])

-- the tests in the order of the tags, that of 254 behind them
abbrev pub Tests : ℕ → ℕ → Numbers → Bool → ℕ → Bool
Tests w l n single kind =
    eqb n.width w
    && (eqb n.length l
    && (single
    && (allows codings n.compression
    && (eqb n.photometric 4
    && (eqb n.samples 1
    && (rows_allowed n.cut
    && (planar_allowed n.planar
    && (tile_width_allowed n.cut
    && (tile_length_allowed n.cut
    && eqb kind 4)))))))))

pub kept-eleven : (w l : ℕ) (n : Numbers) (single : Bool) (kind : ℕ)
    → is_kept (eleven_by (mask_values w l) n single (cond (not (allows (just 4 ∷ []) kind)) (broken Tag.subfile) kept)) ≡ Tests w l n single kind
unfolding eleven_by
kept-eleven w l n single kind = simp (kept_if, just-one, and-true)

-- those of the cut, as they are made
pub cut-tests : (c : Cut) → cut_allowed c ≡ rows_allowed c && (tile_width_allowed c && tile_length_allowed c)
unfolding cut_allowed
cut-tests (Strips rows) = sym (and-true _)
cut-tests (Tiles width length) = refl

-- and all of them
pub in_order : (a b c d e g h i j k s : Bool)
    → ((a && b) && c) && ((d && (e && (g && (i && s)))) && (h && (j && k))) ≡ a && (b && (c && (d && (e && (g && (h && (i && (j && (k && s)))))))))
in_order false b c d e g h i j k s = refl
in_order true false c d e g h i j k s = refl
in_order true true false d e g h i j k s = refl
in_order true true true false e g h i j k s = refl
in_order true true true true false g h i j k s = refl
in_order true true true true true false h i j k s = refl
in_order true true true true true true false i j k s = and-false (i && s)
in_order true true true true true true true false j k s = refl
in_order true true true true true true true true false k s = and-false s
in_order true true true true true true true true true false s = and-false s
in_order true true true true true true true true true true s = and-true s

-- every value of 258 is 1 where all are the first and that is 1
same_tests : (p q : ℕ → Bool) → ((v : ℕ) → p v ≡ q v) → (vs : List ℕ) → all p vs ≡ all q vs
unfolding all
same_tests p q e [] = refl
same_tests p q e (v ∷ vs) = ap₂ (λ (a b : Bool). a && b) (e v) (same_tests p q e vs)

turned : (v : ℕ) → eqb 1 v ≡ allows (just 1 ∷ []) v
turned v = go (eqb v 1) refl ∙ sym (just-one v 1)
  where
    go : (b : Bool) → eqb v 1 ≡ b → eqb 1 v ≡ eqb v 1
    go true e = rw (e, eq-eqb 1 v (sym (eqb-true v 1 e)))
    go false e = rw (e, ne_eqb 1 v (λ x. eqb-false v 1 e (sym x)))

ones : (x : ℕ) (xs : List ℕ) → all (eqb x) (x ∷ xs) && eqb x 1 ≡ all (allows (just 1 ∷ [])) (x ∷ xs)
unfolding all
ones x xs = go (eqb x 1) refl
  where
    go : (b : Bool) → eqb x 1 ≡ b → all (eqb x) (x ∷ xs) && eqb x 1 ≡ all (allows (just 1 ∷ [])) (x ∷ xs)
    go true e =
        subst (λ (y : ℕ). all (eqb y) (y ∷ xs) && eqb y 1 ≡ all (allows (just 1 ∷ [])) (y ∷ xs)) (sym (eqb-true x 1 e))
        (and-true (all (eqb 1) (1 ∷ xs)) ∙ same_tests (eqb 1) (allows (just 1 ∷ [])) turned (1 ∷ xs))
    go false e = rw (e, just-one x 1, e) (and-false (all (eqb x) (x ∷ xs)))

pub one_bit : (big : Bool) (hs : List Held) → 0 < count_of Tag.bits hs → all_one (bits_of big hs) ≡ all (allows (just 1 ∷ [])) (values_of big Tag.bits hs)
unfolding all_one bits_of values_of value_of elems build
one_bit big hs h = go (count_of Tag.bits hs) refl h
  where
    Size : ℕ
    Size = size_of (find Tag.bits hs).entry.typ

    At : ℕ → ℕ
    At i = num big Size (bytes_of Tag.bits hs) (Size * i)

    go : (m : ℕ) → count_of Tag.bits hs ≡ m → 0 < m → all_one (bits_of big hs) ≡ all (allows (just 1 ∷ [])) (values_of big Tag.bits hs)
    go zero e l = absurd (not-suc-le-zero l)
    go (suc m) e l = rw (e, mul-zero) (ones (num big Size (bytes_of Tag.bits hs) 0) (build At 1 m))

-- ---- rule 12, where rule 11 is kept

pub kept-twelve : (n : Numbers) (b : Bits) (i x y : ℕ) → n.samples ≡ 1 → b.same ≡ true → b.first ≡ 1
    → is_kept (twelve_of n b i x y) ≡ agrees i x y (count_of_pieces n)
unfolding twelve_of agrees first_of
kept-twelve n b i x y one same first =
    rw (one, same, first) (go (eqb i 1) (eqb n.compression 2 || eqb n.compression 32773) (eqb x (count_of_pieces n)) (eqb y (count_of_pieces n)) Tag.bits Tag.compression _ _)
  where
    go : (a c x y : Bool) (p q r s : ℕ)
        → is_kept (first_of (breaks (not a || false) p ∷ breaks (c && false) q ∷ breaks (not x) r ∷ breaks (not y) s ∷ [])) ≡ a && (x && y)
    go false c x y p q r s = refl
    go true true false y p q r s = refl
    go true true true false p q r s = refl
    go true true true true p q r s = refl
    go true false false y p q r s = refl
    go true false true false p q r s = refl
    go true false true true p q r s = refl
