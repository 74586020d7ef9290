-- One turn of the pass over a directory, from the last entry to the first: what is known of the entries from i on, and what one entry more in
-- front makes of it. Assumes nothing.
use Prim.Native.Nat.{ℕ, ◌-◌, ◌≤◌, ◌<◌}
use mathlib.Core.Path.{◌≡◌, refl, ap, ◌∙◌}
use mathlib.Core.Bool.{Bool, cond}
use mathlib.Core.List.{List, [], ◌∷◌, map}
use native.Mathlib.Nat.{sub-zero}
use native.Mathlib.Omega.{arith}
use lib.Dec.{leb}
use lib.ListN.{length, set}
use Rattle.std.specs.Prelude.{Some, None}
use Rattle.paper.specs.Bytes.{build}
use Rattle.paper.specs.Outcome.{ascending, first_bad, ordered}
use Rattle.paper.specs.declared.Entry.{Entry}
use Rattle.paper.specs.Layout.{entry_at, entries, bad_value, rule7}
use Rattle.paper.proofs.Loops.{build-end}
use Rattle.outcomes.specs.Told.{told_by}
use Rattle.outcomes.proofs.Back.{step_back, front, near, told-or, told-rise}
use Rattle.layout.specs.declared.Cell.{Cell}
use Rattle.layout.specs.Columns.{firsts}
use Rattle.layout.specs.Finding.{slot_in, Celled}
use Rattle.layout.proofs.Columns.{firsts-length, put, same}
use Rattle.layout.proofs.Finding.{slot-some, slot-none}

-- ---- rules 6 and 7 of the entries es, in a file of n bytes, and the first tag

pub record Seen (n : ℕ) (es : List Entry) (six seven next : ℕ) : Type 0 where
  pub rises : told_by six ≡ ascending (map (λ e. e.tag) es)
  pub fits : told_by seven ≡ rule7 n es
  pub after : next ≡ front (map (λ e. e.tag) es)

none_seen : (n : ℕ) → Seen n [] 65536 65536 65536
unfolding told_by ordered rule7 first_bad front
none_seen n = record { rises = refl; fits = refl; after = refl }

seen_front : (n : ℕ) (es : List Entry) (six seven next : ℕ) (e : Entry) → Seen n es six seven next → e.tag < 65536
    → Seen n (e ∷ es) (cond (leb next e.tag) next six) (cond (bad_value n e) e.tag seven) e.tag
unfolding rule7 first_bad front
seen_front n es six seven next e seen low =
    record {
      rises = told-rise e.tag next six (map (λ x. x.tag) es) low seen.rises seen.after;
      fits = told-or (bad_value n e) e.tag seven low ∙ rw seen.fits;
      after = refl;
    }

-- ---- the loop: before its first turn, one turn, and after its last

-- before entry i - 1 is looked at
pub record Passing (n : ℕ) (big : Bool) (at c : ℕ) (dir : List ℕ) (i six seven next : ℕ) (ts : List ℕ) (found : List Entry) : Type 0 where
  pub few : i ≤ c
  pub near6 : six ≤ 65536
  pub near7 : seven ≤ 65536
  pub near : next ≤ 65536
  pub seen : Seen n (build (entry_at big at dir) i (c - i)) six seven next
  pub columns : found ≡ firsts ts (build (entry_at big at dir) i (c - i))

pub pass-start : (n : ℕ) (big : Bool) (at c : ℕ) (dir ts : List ℕ) (found : List Entry) → found ≡ firsts ts []
    → Passing n big at c dir c 65536 65536 65536 ts found
pass-start n big at c dir ts found known =
    let z : build (entry_at big at dir) c (c - c) ≡ [] = build-end (entry_at big at dir) c in
    record {
      few = omega arith;
      near6 = omega arith;
      near7 = omega arith;
      near = omega arith;
      seen = rw z (none_seen n);
      columns = rw z known;
    }

module _ {n : ℕ} {big : Bool} {at c : ℕ} {dir : List ℕ} {h six seven next : ℕ} {ts : List ℕ} {found : List Entry}
    (pass : Passing n big at c dir h six seven next ts found) where
  -- one for each tag
  pub pass-length : length found ≡ length ts
  pass-length = ap length pass.columns ∙ firsts-length ts _

  module _ {factor : ℕ} {cells : List Cell} (celled : Celled factor cells ts) (some : 0 < h) {e : Entry} (is-e : e ≡ entry_at big at dir (h - 1))
      (low : e.tag < 65536) {six' : ℕ} (is-six : six' ≡ cond (leb next e.tag) next six) {bad : Bool} (is-bad : bad ≡ bad_value n e)
      {seven' : ℕ} (is-seven : seven' ≡ cond bad e.tag seven) where
    abbrev Rest : List Entry
    Rest = build (entry_at big at dir) h (c - h)

    passed : {found' : List Entry} → found' ≡ firsts ts (e ∷ Rest) → Passing n big at c dir (h - 1) six' seven' e.tag ts found'
    passed columns =
        let w : build (entry_at big at dir) (h - 1) (c - (h - 1)) ≡ e ∷ Rest = rw is-e (step_back (entry_at big at dir) c h some pass.few) in
        record {
          few = omega (arith, pass.few);
          near6 = near (leb next e.tag) next six is-six pass.near pass.near6;
          near7 = near bad e.tag seven is-seven (omega arith) pass.near7;
          near = omega arith;
          seen = rw (w, is-six, is-seven, is-bad) (seen_front n Rest six seven next e pass.seen low);
          columns = rw w columns;
        }

    -- a tag of the table, with its slot
    pub turn_in : {k : ℕ} → slot_in factor cells e.tag ≡ Some k → Passing n big at c dir (h - 1) six' seven' e.tag ts (set found k e)
    turn_in {k} has = passed (rw (pass.columns, (slot-some celled e.tag has).0) (put ts celled.different e Rest))

    -- another one
    pub turn-out : slot_in factor cells e.tag ≡ None → Passing n big at c dir (h - 1) six' seven' e.tag ts found
    turn-out none = passed (pass.columns ∙ same ts celled.different e Rest (slot-none celled e.tag none))

  module _ (done : h ≤ 0) where
    all-entries : build (entry_at big at dir) h (c - h) ≡ entries big at c dir
    unfolding entries
    all-entries = let z : h ≡ 0 = omega arith in rw (z, sub-zero)

    -- what is known of rule 6
    pub pass-known : told_by six ≡ ascending (map (λ e. e.tag) (entries big at c dir))
    pass-known = rw (← all-entries) pass.seen.rises

    -- and of rule 7
    pub pass_fits : told_by seven ≡ rule7 n (entries big at c dir)
    pass_fits = rw (← all-entries) pass.seen.fits

    pub pass-columns : found ≡ firsts ts (entries big at c dir)
    pass-columns = rw (← all-entries) pass.columns
