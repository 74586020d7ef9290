-- The key block of an accepted file, as it stands in the lent bytes, reads back: verdict 0, the same K and minor revision, the same keys with the same values.
-- Assumes nothing.
use Prim.Native.Nat.{ℕ, zero, suc, ◌+◌}
use mathlib.Core.Path.{◌≡◌, refl, sym, ap, ◌∙◌, subst}
use mathlib.Core.Bool.{Bool, true, false, cond}
use mathlib.Core.List.{List, [], ◌∷◌, ◌++◌, map, append_assoc}
use lib.Dec.{lit<}
use lib.ListN.{length, take, drop}
use lib.Seq.{take-append_seam, drop-append_seam, drop-append-add}
use borrow.Author.Tests.{eqb-true, eqb-false, eq-eqb}
use Rattle.paper.specs.Bytes.{run}
use Rattle.paper.specs.Outcome.{kept, ◌▸◌, verdict}
use Rattle.paper.specs.Tests.{all}
use Rattle.paper.specs.Tags.{Line, table, hold, find, listed, bytes_of}
use Rattle.paper.specs.Keys.{Runs, minor_revision, key_count}
use Rattle.paper.specs.Judge.{view, verdict_of, runs_of, view_at, head_in, entries_in}
use Rattle.paper.specs.Calls.{accepts, answer, back_of, read_runs, reading_back}
use Rattle.paper.specs.Block.{block_of, block_in, block_over, block_left, block_verdict, block_bytes, block_directory, block_doubles, block_characters, rule24, rule25}
use Rattle.paper.specs.Asked.{Bytes, SameKeys, lent_runs}
use Rattle.paper.proofs.Codec.{bytes_drop}
use Rattle.paper.proofs.First.{kept-first}
use Rattle.paper.proofs.Keeps.{rule15-kept, rule16-kept, rule17-kept, rule18-kept, rule19-kept}
use Rattle.paper.proofs.Held.{held_bytes}
use Rattle.paper.proofs.RoundTrip.{Writable, written, round_trip, same_keys}
use Rattle.paper.specs.declared.Entry.{Entry}

-- ---- a file's runs are bytes, and keep the rules

bytes_take : (k : ℕ) (s : List ℕ) → Bytes s → Bytes (take k s)
bytes_take zero s b i = lit< tt
bytes_take (suc k) [] b i = lit< tt
bytes_take (suc k) (x ∷ s) b zero = b 0
bytes_take (suc k) (x ∷ s) b (suc i) = bytes_take k s (λ j. b (suc j)) i

pub bytes_run : (f : List ℕ) (s l : ℕ) → Bytes f → Bytes (run f s l)
bytes_run f s l b = bytes_take l (drop s f) (bytes_drop s f b)

bytes-hold : (tb : List Line) (f : List ℕ) (e : Entry) → Bytes f → Bytes (hold tb f e).bytes
unfolding hold
bytes-hold tb f e b = go (listed tb e)
  where
    go : (t : Bool) → Bytes (cond t (run f e.start e.len) [])
    go true = bytes_run f e.start e.len b
    go false = λ i. lit< tt

bytes-of : (f : List ℕ) (t : ℕ) → Bytes f → Bytes (bytes_of t (view f).held)
unfolding view view_at
bytes-of f t b =
    subst (λ (s : List ℕ). Bytes s) (sym (held_bytes table f t (entries_in f (head_in f)))) (bytes-hold table f (find t (map (hold table f) (entries_in f (head_in f)))).entry b)

pub writable : (f : List ℕ) → Bytes f → (verdict_of f).number ≡ 0 → rule24 (runs_of (view f)) ≡ kept → Writable (runs_of (view f))
unfolding runs_of
writable f b z k =
    record {
      bytes35 = bytes-of f 34735 b;
      bytes36 = bytes-of f 34736 b;
      bytes37 = bytes-of f 34737 b;
      kept15 = rule15-kept f z;
      kept16 = rule16-kept f z;
      kept17 = rule17-kept f z;
      kept18 = rule18-kept f z;
      kept19 = rule19-kept f z;
      kept24 = k;
    }

-- ---- the call

pub accepted-block : (f : List ℕ) (m : ℕ) → (block_of f m).verdict.number ≡ 0
    → ((verdict_of f).number ≡ 0) × ((block_verdict m (runs_of (view f))).number ≡ 0)
unfolding block_of answer block_in
accepted-block f m z = go (accepts (verdict_of f)) refl
  where
    go : (b : Bool) → accepts (verdict_of f) ≡ b → ((verdict_of f).number ≡ 0) × ((block_verdict m (runs_of (view f))).number ≡ 0)
    go true e = (eqb-true _ _ e, rw e at z)
    go false e = let w : (verdict_of f).number ≡ 0 = rw e at z in absurd (eqb-false _ _ e w)

rule24-kept : (m : ℕ) (r : Runs) → (block_verdict m r).number ≡ 0 → rule24 r ≡ kept
unfolding block_verdict all
rule24-kept m r z = kept-first (24 ▸ rule24 r ∷ 25 ▸ rule25 r m ∷ []) refl z 0

-- what an accepting call answers, and leaves
pub block-is : (f : List ℕ) (m : ℕ) → (block_of f m).verdict.number ≡ 0
    → block_of f m
    ≡ record {
      verdict = block_verdict m (runs_of (view f));
      directory = length (block_directory (runs_of (view f)));
      doubles = length (block_doubles (runs_of (view f)));
      characters = length (block_characters (runs_of (view f)));
    }
unfolding block_of answer block_in
block-is f m z =
    let a = accepted-block f m z in
    rw (eq-eqb (verdict_of f).number 0 a.0, eq-eqb (block_verdict m (runs_of (view f))).number 0 a.1)

pub left_is : (f out : List ℕ) → (block_of f (length out)).verdict.number ≡ 0
    → block_left f out ≡ block_bytes (runs_of (view f)) ++ drop (length (block_bytes (runs_of (view f)))) out
unfolding block_left answer block_over
left_is f out z =
    let a = accepted-block f (length out) z in
    rw (eq-eqb (verdict_of f).number 0 a.0, eq-eqb (block_verdict (length out) (runs_of (view f))).number 0 a.1)

-- three lists one after the other, taken apart by their lengths
run-first : (a b : List ℕ) → run (a ++ b) 0 (length a) ≡ a
run-first a b = take-append_seam a b

run-next : (a b : List ℕ) (s l : ℕ) → run (a ++ b) (length a + s) l ≡ run b s l
run-next a b s l = ap (take l) (drop-append-add a b s)

run-from : (a b : List ℕ) (l : ℕ) → run (a ++ b) (length a) l ≡ run b 0 l
run-from a b l = ap (take l) (drop-append_seam a b)

module _ (a b c rest : List ℕ) where
  abbrev Whole : List ℕ
  Whole = a ++ (b ++ c) ++ rest

  regroup : Whole ≡ a ++ (b ++ (c ++ rest))
  regroup = simp append_assoc

  one : run Whole 0 (length a) ≡ a
  one = ap (λ (w : List ℕ). run w 0 (length a)) regroup ∙ run-first a (b ++ (c ++ rest))

  two : run Whole (length a) (length b) ≡ b
  two =
      ap (λ (w : List ℕ). run w (length a) (length b)) regroup
      ∙ run-from a (b ++ (c ++ rest)) (length b)
      ∙ run-first b (c ++ rest)

  three : run Whole (length a + length b) (length c) ≡ c
  three =
      ap (λ (w : List ℕ). run w (length a + length b) (length c)) regroup
      ∙ run-next a (b ++ (c ++ rest)) (length b) (length c)
      ∙ run-from b (c ++ rest) (length c)
      ∙ run-first c rest

  apart : back_of (run Whole 0 (length a)) (run Whole (length a) (length b)) (run Whole (length a + length b) (length c)) ≡ back_of a b c
  apart = λ i. back_of (one i) (two i) (three i)

-- they are the block that the call is to write
pub lent_written : (f out : List ℕ) → (block_of f (length out)).verdict.number ≡ 0
    → lent_runs (block_left f out) (block_of f (length out)) ≡ written (runs_of (view f))
unfolding lent_runs block_bytes written
lent_written f out z =
    let r = runs_of (view f) in
    rw (block-is f (length out) z, left_is f out z)
    (apart (block_directory r) (block_doubles r) (block_characters r) (drop (length (block_bytes r)) out))

-- Write the block of a file into lent bytes; read the three parts back by the lengths that the call gave.
module _ (f out : List ℕ) (bytes : Bytes f) (z : (block_of f (length out)).verdict.number ≡ 0) where
  pub can_write : Writable (runs_of (view f))
  can_write =
      let a = accepted-block f (length out) z in
      writable f bytes a.0 (rule24-kept (length out) (runs_of (view f)) a.1)

  -- it is accepted, with the same K and the same minor revision
  pub read-accepted : read_runs (lent_runs (block_left f out) (block_of f (length out)))
      ≡ record { verdict = verdict 0 0; keys = key_count (runs_of (view f)); minor = minor_revision (runs_of (view f)) }
  unfolding reading_back written
  read-accepted = ap read_runs (lent_written f out z) ∙ round_trip (runs_of (view f)) can_write

  -- and has the same keys
  pub read_same : SameKeys (runs_of (view f)) (lent_runs (block_left f out) (block_of f (length out)))
  read_same =
      subst (λ (r : Runs). SameKeys (runs_of (view f)) r) (sym (lent_written f out z)) (same_keys (runs_of (view f)) can_write)
