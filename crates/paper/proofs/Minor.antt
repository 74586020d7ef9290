-- The judgement without C-13: rule 15 wants minor revision 0, every other rule is the verdict's own. A file whose minor revision is not 1 has the same
-- verdict and place from both, and only one that was refused by 15 can have another. And the minor revision decides nothing else: runs that
-- differ in it alone, each with 0 or 1, get the same verdict. Assumes nothing.
use Prim.Native.Nat.{ℕ, zero, suc, ◌+◌, ◌*◌, ◌/◌, ◌≤◌}
use mathlib.Core.Path.{◌≡◌, refl, ap, ◌∙◌}
use mathlib.Core.Bool.{Bool, true, false, not, ◌||◌}
use mathlib.Core.List.{List, [], ◌∷◌, ◌++◌}
use native.Mathlib.Omega.{arith}
use lib.Dec.{eqb, ltb}
use lib.ListN.{length}
use borrow.Author.Tests.{eqb-true, ne_eqb, lt-ltb, le-ltb, not-false}
use Rattle.paper.specs.Bytes.{build}
use Rattle.paper.specs.Outcome.{breaks, first_bad, Rule, ◌▸◌, verdict, first, ◌▷◌}
use Rattle.paper.specs.Keys.{Runs, short, minor_revision, newest_minor, key_count, most_keys, rule15, key_at, keys, rule16, rule17, rule18, rule19, key_rules}
use Rattle.paper.specs.Keys.{room, right_place, misplaced}
use Rattle.paper.specs.Judge.{ground_rules, survey_rules, survey_stage, image_stage, mask_stage, view, runs_of, survey_of, verdict_of}
use Rattle.paper.specs.Calls.{read_runs}
use Rattle.paper.proofs.Laws.{or-false}
use Rattle.paper.proofs.First.{verdict-turned}
use Rattle.paper.specs.declared.Verdict.{Verdict}
use Rattle.paper.specs.declared.KeyEntry.{KeyEntry}

-- ---- the judgement without C-13

-- some number of the header is wrong
unfoldable pub wrong_zero : Runs → Bool
wrong_zero r =
    not (eqb (short r 0) 1)
    || (not (eqb (short r 1) 1)
    || (not (eqb (minor_revision r) 0)
    || (ltb most_keys (key_count r) || ltb (length r.directory / 2) (4 + 4 * key_count r))))

unfoldable pub key_rules_zero : Runs → List Rule
key_rules_zero r =
    15 ▸ breaks (wrong_zero r) 0
    ∷ 16 ▸ rule16 (keys r)
    ∷ 17 ▸ rule17 r (keys r)
    ∷ 18 ▸ rule18 (keys r)
    ∷ 19 ▸ rule19 (keys r)
    ∷ []

unfoldable pub verdict_zero : List ℕ → Verdict
verdict_zero f = image_stage f ▷ (first (key_rules_zero (runs_of (view f)) ++ ground_rules (survey_of (view f))) ▷ mask_stage f)

-- ---- where the minor revision is not 1

zero-or-more : (n : ℕ) → (n ≡ 1 → ⊥) → ltb newest_minor n ≡ not (eqb n 0)
zero-or-more zero h = refl
zero-or-more (suc zero) h = absurd (h refl)
zero-or-more (suc (suc n)) h = rw (lt-ltb 1 (suc (suc n)) (omega arith), ne_eqb (suc (suc n)) 0 (λ z. omega arith))

rules-zero : (r : Runs) → (minor_revision r ≡ 1 → ⊥) → key_rules r ≡ key_rules_zero r
unfolding key_rules key_rules_zero rule15 wrong_zero
rules-zero r n = rw (zero-or-more (minor_revision r) n)

pub read-zero : (r : Runs) → (minor_revision r ≡ 1 → ⊥) → (read_runs r).verdict ≡ first (key_rules_zero r)
unfolding read_runs
read-zero r n = rw (rules-zero r n)

pub verdict-zero : (f : List ℕ) → (minor_revision (runs_of (view f)) ≡ 1 → ⊥) → verdict_of f ≡ verdict_zero f
unfolding survey_stage survey_rules verdict_zero
verdict-zero f n =
    verdict-turned f
    ∙ ap (λ (rs : List Rule). image_stage f ▷ (first (rs ++ ground_rules (survey_of (view f))) ▷ mask_stage f)) (rules-zero (runs_of (view f)) n)

-- ---- where rule 15 without C-13 does not refuse the file

pub verdict-fifteen : (f : List ℕ) → (verdict_zero f ≡ verdict 15 0 → ⊥) → verdict_of f ≡ verdict_zero f
unfolding verdict_zero key_rules_zero wrong_zero first
verdict-fifteen f n = go (wrong_zero r) refl
  where
    r : Runs
    r = runs_of (view f)

    -- an earlier rule refuses it
    earlier : (b : Bool) → eqb (image_stage f).number 0 ≡ b → wrong_zero r ≡ true → verdict_of f ≡ verdict_zero f
    earlier true e w = absurd (n (rw (e, w)))
    earlier false e w = verdict-turned f ∙ rw e

    go : (b : Bool) → wrong_zero r ≡ b → verdict_of f ≡ verdict_zero f
    go true w = earlier (eqb (image_stage f).number 0) refl w
    go false w =
        let a = (or-false (not (eqb (short r 0) 1)) _ w).1 in
        let b = (or-false (not (eqb (short r 1) 1)) _ a).1 in
        let c = (or-false (not (eqb (minor_revision r) 0)) _ b).0 in
        let z : minor_revision r ≡ 0 = eqb-true _ _ (not-false _ c) in
        verdict-zero f (λ o. omega arith)

-- ---- the minor revision alone

-- every other number of the two directories is the same, and so is all else
pub record Twins (r s : Runs) : Type 0 where
  pub numbers : (i : ℕ) → (i ≡ 2 → ⊥) → short r i ≡ short s i
  pub long : length r.directory ≡ length s.directory
  pub doubles : r.doubles ≡ s.doubles
  pub characters : r.characters ≡ s.characters

module _ (r s : Runs) (twins : Twins r s) where
  pub count_same : key_count r ≡ key_count s
  unfolding key_count
  count_same = twins.numbers 3 (λ z. omega arith)

  key-same : (i : ℕ) → key_at r i ≡ key_at s i
  unfolding key_at
  key-same i =
      λ d. record {
        key = twins.numbers (4 + 4 * i) (λ z. omega arith) d;
        location = twins.numbers (5 + 4 * i) (λ z. omega arith) d;
        count = twins.numbers (6 + 4 * i) (λ z. omega arith) d;
        index = twins.numbers (7 + 4 * i) (λ z. omega arith) d;
      }

  pub keys-same : keys r ≡ keys s
  unfolding keys
  keys-same = λ d. build (λ i. key-same i d) 0 (count_same d)

  misplaced-same : (e : KeyEntry) → misplaced r e ≡ misplaced s e
  unfolding misplaced right_place room
  misplaced-same e = rw (twins.long, twins.doubles, twins.characters)

  rule17-same : rule17 r (keys r) ≡ rule17 s (keys s)
  unfolding rule17
  rule17-same = λ d. first_bad (λ e. misplaced-same e d) (λ e. e.key) (keys-same d)

  rule15-same : minor_revision r ≤ newest_minor → minor_revision s ≤ newest_minor → rule15 r ≡ rule15 s
  unfolding rule15
  rule15-same a b =
      rw (le-ltb _ _ a, le-ltb _ _ b, twins.numbers 0 (λ z. omega arith), twins.numbers 1 (λ z. omega arith), count_same, twins.long)

  pub rules-same : minor_revision r ≤ newest_minor → minor_revision s ≤ newest_minor → key_rules r ≡ key_rules s
  unfolding key_rules
  rules-same a b =
      λ d. 15 ▸ rule15-same a b d
      ∷ 16 ▸ rule16 (keys-same d)
      ∷ 17 ▸ rule17-same d
      ∷ 18 ▸ rule18 (keys-same d)
      ∷ 19 ▸ rule19 (keys-same d)
      ∷ []
