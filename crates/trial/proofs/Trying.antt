-- The trial of a file, stage by stage: where a stage refuses, its verdict is the file's; where none does, what the pass over the directory found says what
-- rules 9 and 10 do. Assumes nothing.
use Prim.Native.Nat.{ℕ}
use mathlib.Core.Path.{◌≡◌, refl, sym, ap, ap₂, ◌∙◌}
use mathlib.Core.Bool.{Bool, true, false}
use mathlib.Core.List.{List}
use lib.ListN.{length}
use lib.Dec.{lit<}
use borrow.Author.Tests.{ne_eqb}
use Rattle.std.specs.Prelude.{Ok, Err}
use Rattle.paper.specs.Bytes.{run}
use Rattle.paper.specs.Outcome.{first, verdict, or_else}
use Rattle.paper.specs.Tests.{all}
use Rattle.paper.specs.Layout.{dir_len, entries}
use Rattle.paper.specs.Tags.{tiled, named}
use Rattle.paper.specs.Judge.{head_in, view_at}
use Rattle.paper.specs.declared.Entry.{Entry}
use Rattle.paper.specs.declared.Outcome.{Outcome}
use Rattle.paper.specs.declared.Verdict.{Verdict}
use Rattle.outcomes.specs.Ruled.{ruled}
use Rattle.outcomes.proofs.Ruled.{rule-refuses, rule-kept}
use Rattle.layout.specs.Columns.{firsts}
use Rattle.layout.specs.Opening.{headed_of, opened_of, scanned_of, LaidAt}
use Rattle.layout.specs.declared.Head.{Head}
use Rattle.layout.specs.declared.Scanned.{Scanned}
use Rattle.layout.proofs.Stages.{Refuses, head-refuses, open-refuses, scan-refuses, scan-keeps}
use Rattle.lines.specs.declared.Line.{Line as Row}
use Rattle.lines.specs.Rows.{needed_by, nine_of, ten_of}
use Rattle.lines.specs.Lined.{line_tags, same, all_say, text_last, Lined}
use Rattle.lines.specs.Ready.{held_at, Ready}
use Rattle.lines.proofs.Laid.{held-are, six-is, ready}
use Rattle.lines.proofs.Ruled.{nine-either, nine-is, ten-once}
use Rattle.trial.specs.Trial.{trial, trial_stage, trial_of}

-- what follows rules 1 to 7
abbrev behind7 : List ℕ → Verdict
behind7 f = trial_stage (view_at trial f (head_in f)).held

-- a verdict that refuses is answered
refused : {v e : Verdict} → Refuses v e → Err e ≡ ruled v (tt {0})
unfolding ruled
refused r = rw (r.is, ne_eqb _ 0 r.some)

-- rules 1 to 3 refuse
pub headed-bad : (f : List ℕ) {e : Verdict} → Err e ≡ headed_of f → Err e ≡ ruled (trial_of f) (tt {0})
unfolding trial_of
headed-bad f bad = refused (head-refuses f (behind7 f) bad)

-- rules 4 and 5 refuse
pub opened-bad : (f : List ℕ) {h : Head} → Ok h ≡ headed_of f → {e : Verdict} → Err e ≡ opened_of f (record { size = length f; big = h.big; at = h.at })
    → Err e ≡ ruled (trial_of f) (tt {0})
unfolding trial_of
opened-bad f good bad = refused (open-refuses f (behind7 f) good bad)

-- what the pass over the directory answered
module _ {f : List ℕ} {big : Bool} {at c : ℕ} (o : LaidAt f big at c) {s : Scanned}
    (so : s ≡ scanned_of (record { size = length f; big = big; at = at }) c (run f at (dir_len c))) where
  -- rules 6 and 7 refuse
  pub scan-bad : {e : Verdict} → s.judged ≡ Err e → Err e ≡ ruled (trial_of f) (tt {0})
  unfolding trial_of
  scan-bad bad = refused (scan-refuses o so (behind7 f) bad)

  -- rules 9 and 10, by rows that say what the table says and do not ask for tiles; no line is that of 50909
  module _ {y : Unit {0}} (good : s.judged ≡ Ok y) {found : List Entry} (are : found ≡ firsts (line_tags trial) (entries big at c (run f at (dir_len c))))
      (rows : List Row) (say : all_say rows trial ≡ true) (either : all (λ r. same (needed_by r.needed true) (needed_by r.needed false)) rows ≡ true) where
    to-trial : trial_of f ≡ trial_stage (held_at trial f big at c)
    unfolding trial_of
    to-trial = scan-keeps o so (behind7 f) good ∙ ap trial_stage (held-are o trial)

    judged : or_else 9 (nine_of rows false found) (or_else 10 (ten_of rows found) (verdict 0 0)) ≡ trial_of f
    unfolding trial_stage trial first all named text_last
    judged =
        let known : Ready trial f big at c found = ready o so good refl are in
        let lined : Lined rows trial = record { say = say; tags = refl; text = refl } in
        let nine = nine-either rows either false (tiled (held_at trial f big at c)) found ∙ nine-is known lined in
        let ten = ten-once known (six-is o so good) lined refl in
        ap₂ (λ (a b : Outcome). or_else 9 a (or_else 10 b (verdict 0 0))) nine ten ∙ sym to-trial

    module _ {nine : Outcome} (is-nine : nine ≡ nine_of rows false found) where
      -- rule 9 refuses
      pub nine-bad : {e : Verdict} → Err e ≡ ruled (or_else 9 nine (verdict 0 0)) (tt {0}) → Err e ≡ ruled (trial_of f) (tt {0})
      nine-bad {e} bad = rw (← judged, ← is-nine) (rule-refuses 9 nine (or_else 10 (ten_of rows found) (verdict 0 0)) (tt {0}) e bad)

      -- rule 10 says the rest
      pub ten-told : {x : Unit {0}} → Ok x ≡ ruled (or_else 9 nine (verdict 0 0)) (tt {0}) → {ten : Outcome} → ten ≡ ten_of rows found
          → ruled (or_else 10 ten (verdict 0 0)) (tt {0}) ≡ ruled (trial_of f) (tt {0})
      ten-told {x} good is-ten = rw (← judged, ← is-nine, rule-kept 9 nine (lit< tt) x good, is-ten)
