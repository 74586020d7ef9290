-- What an answer to rules 1 to 5 says to the functions that come after. Assumes nothing.
use Prim.Native.Nat.{ℕ, ◌≤◌, ◌+◌, ◌<◌}
use mathlib.Core.Path.{◌≡◌, refl, ap, ◌∙◌}
use mathlib.Core.Bool.{Bool, ◌||◌}
use mathlib.Core.List.{List}
use native.Mathlib.Nat.{add-zero}
use native.Mathlib.Omega.{arith}
use lib.Dec.{ltb}
use lib.ListN.{length}
use borrow.Author.Tests.{ltb-false}
use Rattle.std.specs.Prelude.{Ok}
use Rattle.paper.specs.Bytes.{num}
use Rattle.paper.specs.Outcome.{◌▷◌}
use Rattle.paper.specs.declared.Outcome.TheVariants.{Kept as kept}
use Rattle.paper.specs.Layout.{dir_len, rule1}
use Rattle.paper.specs.Tests.{all}
use Rattle.paper.specs.Judge.{Head as Place, head_of, head_rules, offset_rules, count_rules, head_run, head_in, count_run, count_in, head_stage, offset_stage, count_stage}
use Rattle.paper.proofs.Laws.{num-run, or-false, breaks-kept}
use Rattle.paper.proofs.Bounds.{rule4-gives, rule5-gives}
use Rattle.paper.proofs.First.{kept-first, chain-both}
use Rattle.outcomes.proofs.Ruled.{found-ruled}
use Rattle.layout.specs.declared.Head.{Head}
use Rattle.layout.specs.declared.Directory.{Directory}
use Rattle.layout.specs.Opening.{headed_of, opened_of}

pub size-gives : (n : ℕ) → rule1 n ≡ kept → n ≤ 4294967295
unfolding rule1
size-gives n h = ltb-false 4294967295 n (or-false (ltb n 8) _ (breaks-kept (ltb n 8 || ltb 4294967295 n) 0 h)).1

-- the count is the number at the directory's place
pub count-is : (f : List ℕ) (h : Place) → count_in f h ≡ num h.big 2 f h.at
unfolding count_in count_run
count-is f h = num-run h.big 2 f h.at 2 0 (omega arith) ∙ ap (num h.big 2 f) (add-zero h.at)

-- ---- for the functions that come after

-- a good head: rules 1 to 3 are kept
pub record Heading (f : List ℕ) (big : Bool) (at : ℕ) : Type 0 where
  pub zero : (head_stage f).number ≡ 0
  pub head : head_in f ≡ record { size = length f; big = big; at = at }
  pub size : length f ≤ 4294967295

-- a directory that is laid out: rules 4 and 5 are kept
pub record Laying (f : List ℕ) (h : Place) (c : ℕ) : Type 0 where
  pub offset_zero : (offset_stage h).number ≡ 0
  pub count_zero : (count_stage f h).number ≡ 0
  pub count : c ≡ count_in f h
  pub low : 8 ≤ h.at
  pub some : 0 < c
  pub few : c ≤ 1024
  pub whole : h.at + dir_len c ≤ h.size

head-size : (f : List ℕ) → (head_stage f).number ≡ 0 → length f ≤ 4294967295
unfolding head_stage head_rules all
head-size f z = size-gives (length f) (kept-first (head_rules (length f) (head_run f)) refl z 0)

head-says : (f : List ℕ) (h : Head) → h ≡ record { big = (head_in f).big; at = (head_in f).at }
    → head_in f ≡ record { size = length f; big = h.big; at = h.at }
unfolding head_in head_of
head-says f h is = rw is

pub head-good : (f : List ℕ) (h : Head) → Ok h ≡ headed_of f → Heading f h.big h.at
unfolding headed_of
head-good f h e =
    let r = found-ruled (head_stage f) _ h e in
    record { zero = r.0; head = head-says f h r.1; size = head-size f r.0 }

module _ (f : List ℕ) (h : Place) (d : Directory) (good : Ok d ≡ opened_of f h) where
  found : ((offset_stage h ▷ count_stage f h).number ≡ 0) × (d ≡ record { big = h.big; at = h.at; count = count_in f h })
  unfolding opened_of
  found = found-ruled (offset_stage h ▷ count_stage f h) _ d good

  -- it stands where the head says
  pub laid-place : (d.big ≡ h.big) × (d.at ≡ h.at)
  laid-place = (ap (λ (x : Directory). x.big) found.1, ap (λ (x : Directory). x.at) found.1)

  pub laid : Laying f h d.count
  unfolding offset_stage count_stage offset_rules count_rules all
  laid =
      let n = chain-both (offset_stage h) (count_stage f h) found.0 in
      let c : d.count ≡ count_in f h = ap (λ (x : Directory). x.count) found.1 in
      let four = rule4-gives h.size h.at (kept-first (offset_rules h) refl n.0 0) in
      let five = rule5-gives h.size h.at (count_in f h) (kept-first (count_rules h (count_in f h)) refl n.1 0) in
      rw c record {
        offset_zero = n.0;
        count_zero = n.1;
        count = refl;
        low = four.low;
        some = five.some;
        few = five.few;
        whole = five.whole;
      }
