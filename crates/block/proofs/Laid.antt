-- The whole block as it is written: its five pieces one behind the other, and their lengths. Assumes nothing.
use Prim.Native.Nat.{ℕ, ◌+◌, ◌*◌, zero-le}
use mathlib.Core.Path.{◌≡◌, ap}
use mathlib.Core.Bool.{Bool}
use mathlib.Core.List.{List, [], ◌∷◌, ◌++◌, append_assoc}
use native.Mathlib.Omega.{arith}
use lib.ListN.{length, length-append}
use Rattle.paper.specs.Keys.{key_at}
use Rattle.paper.specs.Block.{joined, encs, moved, entry_numbers}
use Rattle.paper.proofs.Laws.{length-build}
use Rattle.paper.proofs.Codec.{length-encs, length_moved}
use Rattle.paper.proofs.RoundTrip.{length-entries}
use Rattle.keys.specs.Pass.{runs}
use Rattle.block.specs.Splice.{splice, entries_of, entry_bytes}
use Rattle.block.proofs.Writing.{splice_behind}

-- eight bytes for the header
pub header_long : (m k : ℕ) → length (encs 2 (1 ∷ 1 ∷ m ∷ k ∷ [])) ≡ 8
header_long m k = length-encs 2 (1 ∷ 1 ∷ m ∷ k ∷ [])

-- eight bytes for each entry
pub entries_long : (directory : List ℕ) (big : Bool) (n : ℕ) → length (entry_bytes big directory n) ≡ 8 * n
entries_long directory big n =
    let es = entries_of big directory n in
    let a = length-encs 2 (joined entry_numbers (moved (4 + 4 * n) 0 0 es)) in
    let b = length-entries (moved (4 + 4 * n) 0 0 es) in
    let c = length_moved (4 + 4 * n) 0 0 es in
    let e = length-build (key_at (runs big directory [] [])) 0 n in
    omega arith

-- five runs, each behind the one before
pub five_laid : (out h e s d c : List ℕ) (i j k l : ℕ) → i ≡ length h → j ≡ i + length e → k ≡ j + length s → l ≡ k + length d
    → splice (splice (splice (splice (splice out 0 h) i e) j s) k d) l c ≡ splice out 0 (h ++ (e ++ (s ++ (d ++ c))))
five_laid out h e s d c i j k l is-i is-j is-k is_l =
    let two : j ≡ 0 + length (h ++ e) = omega (arith, length-append h e) in
    let three : k ≡ 0 + length (h ++ e ++ s) = omega (arith, length-append (h ++ e) s, length-append h e) in
    let four : l ≡ 0 + length (h ++ e ++ s ++ d) = omega (arith, length-append (h ++ e ++ s) d, length-append (h ++ e) s, length-append h e) in
    let end : h ++ e ++ s ++ d ++ c ≡ h ++ (e ++ (s ++ (d ++ c))) = simp append_assoc in
    rw (
      splice_behind out 0 h i e zero-le (omega (arith, is-i)),
      splice_behind out 0 (h ++ e) j s zero-le two,
      splice_behind out 0 (h ++ e ++ s) k d zero-le three,
      splice_behind out 0 (h ++ e ++ s ++ d) l c zero-le four,
    )
    (ap (splice out 0) end)

-- what `put_block` asks of all that
pub ruleset block_laid = (header_long, entries_long, five_laid)
