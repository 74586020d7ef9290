-- The first byte and the entry of a key row are numbers below 2 ^ 32 where rule 17 is kept and the three values lie below that. Assumes nothing.
use Prim.Native.Nat.{ℕ, ◌+◌, ◌*◌, ◌≤◌, ◌<◌}
use mathlib.Core.Path.{◌≡◌, refl}
use mathlib.Core.Bool.{Bool, true, false, cond, ◌&&◌, ◌||◌}
use mathlib.Core.List.{List}
use native.Mathlib.Omega.{arith}
use native.Mathlib.Nat.{zero-add}
use lib.Dec.{eqb}
use lib.ListN.{length, get_or}
use borrow.Author.Tests.{eqb-true, eqb-false, ne_eqb, not-false}
use Rattle.paper.specs.Tag
use Rattle.paper.specs.Keys.{Runs, short, kind_of, room, within, in_entry, ends_in_bar, right_place, misplaced, key_at, minor_revision, key_count, keys, rule15, rule17, no_key_entry}
use Rattle.paper.specs.Bytes.{build}
use Rattle.paper.specs.Calls.{Starts, row_of}
use Rattle.paper.specs.declared.KeyEntry.{KeyEntry}
use Rattle.paper.specs.declared.Outcome.TheVariants.{Kept as kept}
use Rattle.paper.proofs.Laws.{and-eq, kept-all, length-build, get_or-build}
use Rattle.keys.specs.Pass.{runs}
use Rattle.keys.specs.Rows.{RowAsked}
use Rattle.keys.proofs.Head.{headed}
use Rattle.keys.proofs.Placed.{within-gives}

-- a value that is not in its entry lies within the tag that its location names
pub placed-within : (r : Runs) (e : KeyEntry) (k : ℕ) → right_place r e k ≡ true → (e.location ≡ 0 → ⊥) → within r e ≡ true
unfolding right_place
placed-within r e k h out = go (eqb k 0) (eqb k 1) (eqb k 2) h
  where
    go : (a b c : Bool)
        → cond a (in_entry e)
        (cond b (eqb e.location Tag.doubles && (eqb e.count 1 && within r e))
        (cond c (eqb e.location Tag.characters && (within r e && ends_in_bar r e)) (in_entry e || within r e)))
        ≡ true
        → within r e ≡ true
    go true b c p = absurd (out (eqb-true _ _ (and-eq (eqb e.location 0) (eqb e.count 1) p).0))
    go false true c p =
        (and-eq (eqb e.count 1) (within r e) (and-eq (eqb e.location Tag.doubles) (eqb e.count 1 && within r e) p).1).1
    go false false true p =
        (and-eq (within r e) (ends_in_bar r e) (and-eq (eqb e.location Tag.characters) (within r e && ends_in_bar r e) p).1).0
    go false false false p = rw (ne_eqb e.location 0 out) at p

module _ (r : Runs) (s : Starts) (i : ℕ) (d-low : s.directory + length r.directory < 4294967296) (x-low : s.doubles + length r.doubles < 4294967296)
    (c-low : s.characters + length r.characters < 4294967296) (here : 8 * i + 16 ≤ length r.directory) where
  first-low : (e : KeyEntry) → misplaced r e ≡ false → (row_of s i e).first < 4294967296
  unfolding misplaced row_of room
  first-low e m = at_entry (eqb e.location 0) refl
    where
      inside : (e.location ≡ 0 → ⊥) → (1 ≤ e.count) × (e.index + e.count ≤ room r e.location)
      inside out = within-gives (within r e) e.count e.index (room r e.location) refl (placed-within r e (kind_of e.key) (not-false _ m) out)

      in-characters : (c : Bool) → eqb e.location Tag.characters ≡ c → eqb e.location 0 ≡ false → eqb e.location Tag.key_directory ≡ false
          → eqb e.location Tag.doubles ≡ false → s.characters + e.index < 4294967296
      in-characters true p o q t =
          let w = rw (q, t, p) at (inside (eqb-false _ _ o)) in
          omega (arith, w.0, w.1)
      in-characters false p o q t =
          let w = rw (q, t, p) at (inside (eqb-false _ _ o)) in
          absurd (omega (arith, w.0, w.1))

      in-doubles : (c : Bool) → eqb e.location Tag.doubles ≡ c → eqb e.location 0 ≡ false → eqb e.location Tag.key_directory ≡ false
          → (row_of s i e).first < 4294967296
      in-doubles true p o q =
          let w = rw (q, p) at (inside (eqb-false _ _ o)) in
          rw (o, q, p) (omega (arith, w.0, w.1))
      in-doubles false p o q = rw (o, q, p) (in-characters (eqb e.location Tag.characters) refl o q p)

      in-directory : (c : Bool) → eqb e.location Tag.key_directory ≡ c → eqb e.location 0 ≡ false → (row_of s i e).first < 4294967296
      in-directory true p o =
          let w = rw p at (inside (eqb-false _ _ o)) in
          rw (o, p) (omega (arith, w.0, w.1))
      in-directory false p o = in-doubles (eqb e.location Tag.doubles) refl o p

      at_entry : (c : Bool) → eqb e.location 0 ≡ c → (row_of s i e).first < 4294967296
      at_entry true p = rw p (omega arith)
      at_entry false p = in-directory (eqb e.location Tag.key_directory) refl p

  row_low : rule17 r (keys r) ≡ kept → i < key_count r → (row_of s i (key_at r i)).first < 4294967296
  unfolding rule17 keys
  row_low h l =
      let n : i < length (build (key_at r) 0 (key_count r)) = rw (length-build (key_at r) 0 (key_count r)) l in
      let b : misplaced r (get_or (build (key_at r) 0 (key_count r)) i no_key_entry) ≡ false = kept-all (misplaced r) _ (build (key_at r) 0 (key_count r)) no_key_entry h i n in
      first-low (key_at r i) (rw (get_or-build (key_at r) no_key_entry 0 (key_count r) i l, zero-add i) at b)

-- all that `row` asks, at each key of a directory that keeps rules 15 and 17
pub row-asks : (big : Bool) (d x t : List ℕ) (s : Starts) (i : ℕ) → s.directory + length d < 4294967296 → s.doubles + length x < 4294967296
    → s.characters + length t < 4294967296 → rule15 (runs big d x t) ≡ kept → rule17 (runs big d x t) (keys (runs big d x t)) ≡ kept
    → i < key_count (runs big d x t)
    → RowAsked big d s i
unfolding rule15 minor_revision key_count short key_at
row-asks big d x t s i a b c p q l =
    let h = headed big d (rule15 (runs big d x t)) refl p in
    let few : i < 256 = omega (arith, h.few) in
    let here : 8 * i + 16 ≤ length d = omega (arith, h.whole) in
    (few, here, omega arith, row_low (runs big d x t) s i a b c here q l)
