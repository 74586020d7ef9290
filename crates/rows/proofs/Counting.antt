-- What the paper says of the rows' call, by its three cases: a rule of the file refuses, rule 23 refuses, the file is accepted. And what all three have in
-- common: the first K rows are the file's and the rest stay, with K at most the rows that are lent, and 0 on a refusal. Assumes nothing.
use Prim.Native.Nat.{ℕ, ◌≤◌, ◌<◌, zero-le}
use native.Mathlib.Nat.{not-suc-le-zero}
use mathlib.Core.Path.{◌≡◌, refl, sym, ap, ◌∙◌, subst}
use mathlib.Core.Bool.{Bool, true, false}
use mathlib.Core.List.{List, ◌++◌}
use lib.Dec.{ltb, eqb}
use Rattle.std.specs.Prelude.{Ok, Err}
use lib.ListN.{length, drop, replicate, length-replicate}
use borrow.Author.Tests.{ne_eqb, lt-ltb, le-ltb, eqb-true, eqb-false, ltb-true, ltb-false}
use Rattle.paper.specs.Bytes.{build}
use Rattle.paper.specs.Outcome.{first, verdict}
use Rattle.paper.specs.Keys.{key_count}
use Rattle.paper.specs.Judge.{view, runs_of, verdict_of}
use Rattle.paper.specs.Calls.{row_at, rows_in, counted, rule23, counted_in, rows_of, rows_over, left_rows}
use Rattle.paper.specs.declared.Counted.{Counted}
use Rattle.paper.specs.declared.Row.{Row}
use Rattle.paper.specs.declared.Verdict.{Verdict}
use Rattle.paper.proofs.Called.{answer-good, answer-bad}
use Rattle.judge.specs.Examining.{examined_in, examined_of}
use Rattle.judge.specs.declared.Examined.{Examined}
use Rattle.judge.proofs.Seen.{accepted, found, refuses}
use Rattle.rows.specs.Planning.{plan_of, Fits, no_row}

abbrev told : Verdict → ℕ → Counted
told v k = record { verdict = v; keys = k }

module _ (f : List ℕ) where
  -- the number of keys that the file's header says
  abbrev K : ℕ
  K = key_count (runs_of (view f))

  -- ---- the three cases

  module _ (bad : (verdict_of f).number ≡ 0 → ⊥) where
    rows-bad : (m : ℕ) → rows_of f m ≡ told (verdict_of f) 0
    unfolding rows_of
    rows-bad m = answer-bad f (counted_in m) (λ v. counted v 0) bad ∙ rw (ne_eqb (verdict_of f).number 0 bad)

    left-bad : (ys : List Row) → left_rows f ys ≡ ys
    unfolding left_rows
    left-bad ys = answer-bad f (rows_over ys) (λ v. ys) bad

  module _ (zero : (verdict_of f).number ≡ 0) where
    rows_few : (m : ℕ) → m < K → rows_of f m ≡ told (verdict 23 K) 0
    unfolding rows_of counted_in rule23 first
    rows_few m h = answer-good f (counted_in m) (λ v. counted v 0) zero ∙ rw (lt-ltb m K h)

    rows-good : (m : ℕ) → K ≤ m → rows_of f m ≡ told (verdict 0 0) K
    unfolding rows_of counted_in rule23 first
    rows-good m h = answer-good f (counted_in m) (λ v. counted v 0) zero ∙ rw (le-ltb m K h)

    left-few : (ys : List Row) → length ys < K → left_rows f ys ≡ ys
    unfolding left_rows rows_over
    left-few ys h = answer-good f (rows_over ys) (λ v. ys) zero ∙ rw (lt-ltb (length ys) K h)

    left-good : (ys : List Row) → K ≤ length ys → left_rows f ys ≡ build (row_at (view f)) 0 K ++ drop K ys
    unfolding left_rows rows_over rows_in
    left-good ys h = answer-good f (rows_over ys) (λ v. ys) zero ∙ rw (le-ltb (length ys) K h)

  -- ---- what was examined

  pub refused : (v : Verdict) → Err v ≡ examined_of f → (m : ℕ) → told v 0 ≡ rows_of f m
  refused v is m =
      let (v-is, bad) = refuses f v is in
      ap (λ (x : Verdict). told x 0) v-is ∙ sym (rows-bad bad m)

  module _ (e : Examined) (is : Ok e ≡ examined_of f) where
    keys-are : e.surveyed.keys ≡ K
    unfolding examined_in
    keys-are = ap (λ (x : Examined). x.surveyed.keys) (found f e is)

    pub too_few : (m : ℕ) → m < e.surveyed.keys → told (verdict 23 e.surveyed.keys) 0 ≡ rows_of f m
    too_few m h =
        ap (λ (k : ℕ). told (verdict 23 k) 0) keys-are
        ∙ sym (rows_few (accepted f e is) m (subst (λ (k : ℕ). m < k) keys-are h))

    pub enough : (m : ℕ) → e.surveyed.keys ≤ m → told (verdict 0 0) e.surveyed.keys ≡ rows_of f m
    enough m h =
        ap (told (verdict 0 0)) keys-are
        ∙ sym (rows-good (accepted f e is) m (subst (λ (k : ℕ). k ≤ m) keys-are h))

  -- ---- the three cases as one

  -- k rows of ys can be written, and that makes zs
  pub record Writes (ys zs : List Row) (k : ℕ) : Type 0 where
    pub lent : k ≤ length ys
    pub fits : Fits f (plan_of f) k
    pub left : zs ≡ build (row_at (view f)) 0 k ++ drop k ys

  none : (ys : List Row) → Writes ys ys 0
  unfolding build
  none ys = record { lent = zero-le; fits = record { row = λ i h. absurd (not-suc-le-zero h) }; left = refl }

  pub writes : (ys : List Row) → Writes ys (left_rows f ys) (rows_of f (length ys)).keys
  writes ys = by-verdict (eqb (verdict_of f).number 0) refl
    where
      unwritten : left_rows f ys ≡ ys → (rows_of f (length ys)).keys ≡ 0 → Writes ys (left_rows f ys) (rows_of f (length ys)).keys
      unwritten l k = rw (l, k) (none ys)

      by-room : (b : Bool) → ltb (length ys) K ≡ b → (verdict_of f).number ≡ 0 → Writes ys (left_rows f ys) (rows_of f (length ys)).keys
      by-room true t z =
          let h = ltb-true (length ys) K t in
          unwritten (left-few z ys h) (ap (λ (c : Counted). c.keys) (rows_few z (length ys) h))
      by-room false t z =
          let h = ltb-false (length ys) K t in
          rw (left-good z ys h, rows-good z (length ys) h)
          (record {
            lent = h;
            fits = record { row = λ i l. record { accepted = z; planned = refl; below = l } };
            left = refl;
          })

      by-verdict : (b : Bool) → eqb (verdict_of f).number 0 ≡ b → Writes ys (left_rows f ys) (rows_of f (length ys)).keys
      by-verdict true t = by-room (ltb (length ys) K) refl (eqb-true _ _ t)
      by-verdict false t =
          let bad = eqb-false _ _ t in
          unwritten (left-bad bad ys) (ap (λ (c : Counted). c.keys) (rows-bad bad (length ys)))

  pub few : (m : ℕ) → (rows_of f m).keys ≤ m
  few m = subst (λ (n : ℕ). (rows_of f n).keys ≤ n) (length-replicate m no_row) (writes (replicate m no_row)).lent
