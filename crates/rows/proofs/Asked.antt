-- A row of an accepted file: all that is asked to make it, and that what is made is the paper's row. Assumes nothing.
use Prim.Native.Nat.{ℕ, ◌+◌, ◌≤◌, ◌<◌}
use mathlib.Core.Path.{◌≡◌, sym, ap, ◌∙◌, subst}
use mathlib.Core.List.{List, []}
use native.Mathlib.Omega.{arith}
use lib.Dec.{lit<}
use lib.ListN.{length}
use Rattle.paper.specs.Bytes.{run}
use Rattle.paper.specs.Tag
use Rattle.paper.specs.Tags.{table, find}
use Rattle.paper.specs.Keys.{Runs, keys, key_count, key_at, rule15, rule17}
use Rattle.paper.specs.Judge.{view, runs_of, verdict_of}
use Rattle.paper.specs.Calls.{Starts, starts_of, row_of, row_at}
use Rattle.paper.specs.declared.Outcome.TheVariants.{Kept as kept}
use Rattle.paper.specs.declared.Row.{Row}
use Rattle.paper.proofs.Laws.{run-length-in}
use Rattle.outcomes.proofs.Ruled.{kept-ruled}
use Rattle.tags.specs.Index
use Rattle.tags.specs.Slots.{tag_at, line_at}
use Rattle.keys.specs.Pass.{runs}
use Rattle.keys.specs.Rows.{RowAsked, starts_in}
use Rattle.keys.proofs.Rows.{row-asks}
use Rattle.keys.proofs.Turn.{entry-any}
use Rattle.image.specs.Imaging.{tag_part, lasting_in}
use Rattle.judge.specs.Examining.{examined_in, examined_of}
use Rattle.paper.proofs.Keeps.{rule15-kept, rule17-kept}
use Rattle.image.proofs.Seen.{Stands}
use Rattle.judge.proofs.Seen.{size, stands}
use Rattle.rows.specs.Planning.{plan_by, plan_told, plan_of, Asks}
use Rattle.rows.specs.declared.Plan.{Plan}

-- the key directory's part of the file, and where the three runs start, by a plan
abbrev pub part_of : List ℕ → Plan → List ℕ
part_of f p = run f p.starts.directory p.len

abbrev pub starts_by : Plan → Starts
starts_by p = starts_in p.starts

-- what is asked for row i, and what it is
pub record Asked (f : List ℕ) (p : Plan) (i : ℕ) : Type 0 where
  pub within : p.starts.directory + p.len ≤ length f
  pub asks : RowAsked p.big (part_of f p) (starts_by p) i
  pub row : row_of (starts_by p) i (key_at (runs p.big (part_of f p) [] []) i) ≡ row_at (view f) i

module _ (f : List ℕ) (zero : (verdict_of f).number ≡ 0) where
  -- the run of the value of a tag
  abbrev Part : ℕ → List ℕ
  Part t = run f (find t (view f).held).entry.start (find t (view f).held).entry.len

  directory : Stands f (view f).held Tag.key_directory
  unfolding tag_at line_at table
  directory = stands f zero Index.key_directory (lit< tt)

  doubles : Stands f (view f).held Tag.doubles
  unfolding tag_at line_at table
  doubles = stands f zero Index.doubles (lit< tt)

  characters : Stands f (view f).held Tag.characters
  unfolding tag_at line_at table
  characters = stands f zero Index.characters (lit< tt)

  runs_are : runs (view f).head.big (Part Tag.key_directory) (Part Tag.doubles) (Part Tag.characters) ≡ runs_of (view f)
  unfolding runs_of
  runs_are =
      λ i. record { big = (view f).head.big; directory = directory.bytes i; doubles = doubles.bytes i; characters = characters.bytes i }

  low_end : (t : ℕ) → Stands f (view f).held t → (find t (view f).held).entry.start + length (Part t) < 4294967296
  low_end t s =
      let l = run-length-in f (find t (view f).held).entry.start (find t (view f).held).entry.len s.within in
      omega (arith, size f zero, s.within, l)

  in-view : (i : ℕ) → i < key_count (runs_of (view f)) → Asked f (plan_by (examined_in f)) i
  unfolding examined_in lasting_in tag_part starts_of row_at
  in-view i h =
      let a =
      row-asks (view f).head.big (Part Tag.key_directory) (Part Tag.doubles) (Part Tag.characters) (starts_of (view f)) i
      (low_end Tag.key_directory directory) (low_end Tag.doubles doubles) (low_end Tag.characters characters)
      (subst (λ (r : Runs). rule15 r ≡ kept) (sym runs_are) (rule15-kept f zero))
      (subst (λ (r : Runs). rule17 r (keys r) ≡ kept) (sym runs_are) (rule17-kept f zero))
      (subst (λ (r : Runs). i < key_count r) (sym runs_are) h) in
      record {
        within = directory.within;
        asks = a;
        row = ap (row_of (starts_of (view f)) i) (entry-any _ (Part Tag.key_directory) (Part Tag.doubles) (Part Tag.characters) i ∙ ap
            (λ (r : Runs). key_at r i) runs_are);
      }

  -- the plan of an accepted file
  plan-is : plan_of f ≡ plan_by (examined_in f)
  unfolding plan_of examined_of
  plan-is = ap plan_told (kept-ruled (verdict_of f) (examined_in f) zero)

-- all of it holds for a row that can be made
pub asked : (f : List ℕ) (p : Plan) (i : ℕ) → Asks f p i → Asked f p i
asked f p i a =
    subst (λ (x : Plan). Asked f x i) (sym (a.planned ∙ plan-is f a.accepted)) (in-view f a.accepted i a.below)

-- a row that was made of the key directory's part is the paper's
pub made : (f : List ℕ) (p : Plan) (i : ℕ) → Asks f p i → (d : List ℕ) → d ≡ part_of f p → (r : Row)
    → r ≡ row_of (starts_by p) i (key_at (runs p.big d [] []) i) → r ≡ row_at (view f) i
made f p i a d so r is =
    is ∙ ap (λ (s : List ℕ). row_of (starts_by p) i (key_at (runs p.big s [] []) i)) so ∙ (asked f p i a).row
