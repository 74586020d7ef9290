-- A directory that is laid in a file and keeps rules 6 and 7, with the entries that the pass over it found, is ready for the rules of its table. Assumes
-- nothing.
use Prim.Native.Nat.{ℕ}
use mathlib.Core.Path.{◌≡◌, sym, ap, ◌∙◌}
use mathlib.Core.Bool.{Bool}
use mathlib.Core.List.{List, map}
use lib.ListN.{length}
use Rattle.std.specs.Prelude.{Ok}
use Rattle.paper.specs.Bytes.{run}
use Rattle.paper.specs.Layout.{dir_len, entries, rule6}
use Rattle.paper.specs.Tags.{Line, hold}
use Rattle.paper.specs.Judge.{Head, head_in, view_at, dir_run, entries_in}
use Rattle.paper.specs.declared.Outcome.{Outcome}
use Rattle.paper.specs.declared.Outcome.TheVariants.{Kept as kept}
use Rattle.paper.specs.declared.Entry.{Entry}
use Rattle.layout.specs.Columns.{firsts}
use Rattle.layout.specs.Opening.{scanned_of, further_by, LaidAt}
use Rattle.layout.specs.declared.Scanned.{Scanned}
use Rattle.layout.proofs.Stages.{lay, head-is, file-size, judged-is}
use Rattle.layout.proofs.Values.{six-kept, seven-kept}
use Rattle.lines.specs.Lined.{line_tags}
use Rattle.lines.specs.Ready.{entries_at, held_at, Ready, Behind}

module _ {f : List ℕ} {big : Bool} {at c : ℕ} (o : LaidAt f big at c) where
  abbrev Place : Head
  Place = record { size = length f; big = big; at = at }

  -- what the paper's view of the file shows by a table
  pub held-are : (tb : List Line) → (view_at tb f (head_in f)).held ≡ held_at tb f big at c
  unfolding view_at entries_in dir_run held_at entries_at
  held-are tb =
      ap (λ (h : Head). (view_at tb f h).held) (head-is o)
      ∙ ap (λ (k : ℕ). map (hold tb f) (entries big at k (run f at (dir_len k)))) (sym (lay o).count)

  module _ {s : Scanned} (so : s ≡ scanned_of (record { size = length f; big = big; at = at }) c (run f at (dir_len c))) {x : Unit {0}} (good : s.judged ≡ Ok x) where
    pub six-is : rule6 (entries_at f big at c) ≡ kept
    unfolding entries_at
    six-is = six-kept Place (entries big at c (run f at (dir_len c))) (sym good ∙ judged-is o so)

    pub behind : Behind f big at c s.further
    unfolding scanned_of entries_at
    behind =
        record {
          six = six-is;
          is = ap (λ (x : Scanned). x.further) so ∙ ap (λ (x : Outcome). further_by x at (entries big at c (run f at (dir_len c)))) six-is;
        }

    -- for a table whose tags are those that the pass looked for
    pub ready : {tb : List Line} {ts : List ℕ} {found : List Entry} → ts ≡ line_tags tb → found ≡ firsts ts (entries big at c (run f at (dir_len c)))
        → Ready tb f big at c found
    unfolding entries_at
    ready is k =
        record {
          size = file-size o;
          low = (lay o).low;
          some = (lay o).some;
          few = (lay o).few;
          whole = (lay o).whole;
          found_are = k ∙ ap (λ (us : List ℕ). firsts us (entries big at c (run f at (dir_len c)))) is;
          seven = seven-kept Place (entries big at c (run f at (dir_len c))) (sym good ∙ judged-is o so);
        }
