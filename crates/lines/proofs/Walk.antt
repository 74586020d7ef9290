-- The rows of a table, one after the other, and cut in two: what a loop over them and the cut have to do with the first row that its entry breaks. Assumes
-- nothing.
use Prim.Native.Nat.{ℕ, zero, suc, ◌+◌, ◌-◌, ◌≤◌, ◌<◌}
use mathlib.Core.Path.{◌≡◌, refl, sym, ◌∙◌}
use mathlib.Core.Bool.{Bool, true, false, cond}
use mathlib.Core.List.{List, [], ◌∷◌}
use native.Mathlib.Nat.{add-zero}
use native.Mathlib.Numerals.{add-one}
use native.Mathlib.Omega.{arith}
use lib.ListN.{length, get_or, take, drop, length-drop, drop_of_length-le}
use lib.Seq.{take_all, drop-cons, drop-drop, get_or-drop}
use Rattle.paper.specs.Tags.{absent}
use Rattle.paper.specs.declared.Entry.{Entry}
use Rattle.paper.specs.declared.Outcome.{Outcome}
use Rattle.paper.specs.declared.Outcome.TheVariants.{Kept as kept, Broken as broken}
use Rattle.lines.specs.declared.Line.{Line as Row}
use Rattle.lines.specs.Rows.{first_broken}
use Rattle.lines.specs.Ready.{at_slot}

-- ---- a loop over the rows

-- what is said of the rows from k on
abbrev From : (Row → Entry → Bool) → List Row → List Entry → ℕ → Outcome
From breaks rows found k = first_broken breaks (drop k rows) (drop k found)

-- none before row k is broken
pub record Passed (breaks : Row → Entry → Bool) (rows : List Row) (found : List Entry) (k : ℕ) : Type 0 where
  pub so_far : first_broken breaks rows found ≡ first_broken breaks (drop k rows) (drop k found)

module _ {breaks : Row → Entry → Bool} {rows : List Row} {found : List Entry} where
  module _ {k : ℕ} (passed : Passed breaks rows found k) where
    module _ {r : Row} {e : Entry} (more : k < length rows) (is-row : (d : Row) → r ≡ get_or rows k d) (is-entry : (d : Entry) → e ≡ get_or found k d) where
      step : first_broken breaks rows found ≡ cond (breaks r e) (broken r.tag) (From breaks rows found (k + 1))
      unfolding first_broken
      step =
          passed.so_far
          ∙ rw (drop-cons rows k r, ← is-row r, get_or-drop, add-zero, ← is-entry absent.entry, drop-drop, add-one)

      pub pass-bad : {b : Bool} → b ≡ breaks r e → b ≡ true → broken r.tag ≡ first_broken breaks rows found
      pass-bad is h = sym (step ∙ rw (← is, h))

      pub pass-more : {b : Bool} → b ≡ breaks r e → b ≡ false → Passed breaks rows found (k + 1)
      pass-more is h = record { so_far = step ∙ rw (← is, h) }

    pub pass-end : length rows ≤ k → kept ≡ first_broken breaks rows found
    unfolding first_broken
    pass-end done = sym (passed.so_far ∙ rw (drop_of_length-le rows done))

-- ---- the rows cut in two

-- what stands from k up to the end is all that is left
pub rest : {A : Type 0} (k : ℕ) (l : List A) → take (length l - k) (drop k l) ≡ drop k l
rest k l = take_all (length l - k) (drop k l) (omega (arith, length-drop k l))

-- the first outcome, and the second where the first is kept
abbrev after : Outcome → Outcome → Outcome
after kept o = o
after (broken p) o = broken p

either : (b : Bool) (p : ℕ) {o : Outcome} (front back : Outcome) → o ≡ after front back → cond b (broken p) o ≡ after (cond b (broken p) front) back
either true p front back is = refl
either false p front back is = is

-- what is said of all of them is said of the front, and where that is kept of the back
cut-rows : (breaks : Row → Entry → Bool) (n : ℕ) (rows : List Row) (found : List Entry)
    → first_broken breaks rows found ≡ after (first_broken breaks (take n rows) found) (first_broken breaks (drop n rows) (drop n found))
unfolding first_broken
cut-rows breaks zero rows found = refl
cut-rows breaks (suc n) [] found = refl
cut-rows breaks (suc n) (r ∷ rs) found =
    let e : 1 + n ≡ suc n = omega arith in
    either (breaks r (at_slot found 0)) r.tag _ _ (rw (drop-drop, e) at (cut-rows breaks n rs (drop 1 found)))

module _ (breaks : Row → Entry → Bool) (rows : List Row) (found : List Entry) (n : ℕ) {front : Outcome} (is-front : front ≡ first_broken breaks (take n rows) found) where
  cut-is : first_broken breaks rows found ≡ after front (first_broken breaks (drop n rows) (drop n found))
  cut-is = rw is-front (cut-rows breaks n rows found)

  pub cut-broken : (front ≡ kept → ⊥) → front ≡ first_broken breaks rows found
  cut-broken e = go front refl ∙ sym cut-is
    where
      go : (o : Outcome) → front ≡ o → o ≡ after o (first_broken breaks (drop n rows) (drop n found))
      go kept p = absurd (e p)
      go (broken p) q = refl

  pub cut-kept : {o : Outcome} → front ≡ kept → o ≡ first_broken breaks (drop n rows) (drop n found) → o ≡ first_broken breaks rows found
  cut-kept e is-back = is-back ∙ sym (cut-is ∙ rw e)
