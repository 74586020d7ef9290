-- The bytes that are held for a tag: those of its entry, and a part of them is a part of the file. Assumes nothing.
use Prim.Native.Nat.{ℕ, ◌+◌, ◌-◌, ◌≤◌, ◌<◌, min}
use mathlib.Core.Path.{◌≡◌, refl, sym}
use mathlib.Core.Bool.{Bool, true, false, cond}
use mathlib.Core.List.{List, [], ◌∷◌, map}
use native.Mathlib.Omega.{arith}
use lib.Dec.{eqb}
use lib.ListN.{length}
use Rattle.paper.specs.Bytes.{run}
use Rattle.paper.specs.Tags.{Line, table, hold, find, absent, listed, bytes_of}
use Rattle.paper.specs.Judge.{view, view_at, head_in, entries_in}
use Rattle.paper.specs.Shown.{start_in}
use Rattle.paper.proofs.Laws.{run_length, run-run}
use Rattle.paper.specs.declared.Entry.{Entry}

absent-bytes : (tb : List Line) (f : List ℕ) → [] ≡ (hold tb f (record { tag = 0; typ = 0; count = 0; start = 0; len = 0 })).bytes
unfolding hold
absent-bytes tb f = go (listed tb absent.entry)
  where
    go : (b : Bool) → [] ≡ cond b (run f 0 0) []
    go true = refl
    go false = refl

-- the bytes that are held for a tag are those of its entry
pub held_bytes : (tb : List Line) (f : List ℕ) (t : ℕ) (es : List Entry) → (find t (map (hold tb f) es)).bytes ≡ (hold tb f (find t (map (hold tb f) es)).entry).bytes
unfolding find hold
held_bytes tb f t [] = absent-bytes tb f
held_bytes tb f t (e ∷ es) = go (eqb e.tag t) refl (held_bytes tb f t es)
  where
    go : (b : Bool) → eqb e.tag t ≡ b → (find t (map (hold tb f) es)).bytes ≡ (hold tb f (find t (map (hold tb f) es)).entry).bytes
        → (find t (map (hold tb f) (e ∷ es))).bytes ≡ (hold tb f (find t (map (hold tb f) (e ∷ es))).entry).bytes
    go true p r = rw p
    go false p r = rw p r

-- a part of the bytes that are held for an entry: it lies in the file, and is a run of it
pub record PartOf (f : List ℕ) (start : ℕ) (s : List ℕ) (a m : ℕ) : Type 0 where
  pub inside : start + a + m ≤ length f
  pub same : run f (start + a) m ≡ run s a m

hold-part : (tb : List Line) (f : List ℕ) (e : Entry) (a m : ℕ) → a < length (hold tb f e).bytes → a + m ≤ length (hold tb f e).bytes
    → PartOf f e.start (hold tb f e).bytes a m
unfolding hold
hold-part tb f e a m p l = go (listed tb e) refl
  where
    go : (b : Bool) → listed tb e ≡ b → PartOf f e.start (cond (listed tb e) (run f e.start e.len) []) a m
    go true q =
        let n : length (run f e.start e.len) ≡ min e.len (length f - e.start) = run_length f e.start e.len in
        let x : a < length (run f e.start e.len) = rw q at p in
        let y : a + m ≤ length (run f e.start e.len) = rw q at l in
        rw q (record { inside = omega arith; same = sym (run-run f e.start e.len a m (omega arith)) })
    go false q = let x : a < 0 = rw q at p in absurd (omega arith)

-- the same, for a tag of a file
pub tag-part : (f : List ℕ) (t a m : ℕ) → a < length (bytes_of t (view f).held) → a + m ≤ length (bytes_of t (view f).held)
    → PartOf f (start_in f t) (bytes_of t (view f).held) a m
unfolding view view_at
tag-part f t a m p l =
    let e : bytes_of t (view f).held ≡ (hold table f (find t (view f).held).entry).bytes = held_bytes table f t (entries_in f (head_in f)) in
    rw e (hold-part table f (find t (view f).held).entry a m (rw e at p) (rw e at l))
