-- Bytes laid into a list: none, a run right behind another, a part that is written over, and what is laid in from the start. Assumes nothing.
use Prim.Native.Nat.{ℕ, ◌+◌, ◌-◌, ◌≤◌}
use mathlib.Core.Path.{◌≡◌, sym, ap, ◌∙◌}
use mathlib.Core.List.{List, [], ◌++◌, append_assoc, append-nil}
use native.Mathlib.Nat.{add-zero, zero-add}
use native.Mathlib.Omega.{arith}
use lib.ListN.{length, take, drop, length-append, take-append-drop}
use lib.Seq.{length-take-le, take_at, drop_at, drop-drop}
use borrow.Rule.Slice.PartMut.{put_mid, Post-is}
use Rattle.block.specs.Splice.{splice}

-- nothing laid in
pub splice_nil : (d : List ℕ) (at : ℕ) → splice d at [] ≡ d
unfolding splice
splice_nil d at =
    ap (λ (k : ℕ). take at d ++ [] ++ drop k d) (add-zero at) ∙ ap (λ (r : List ℕ). r ++ drop at d) (append-nil (take at d)) ∙ take-append-drop at d

-- w, and then v right behind it
pub splice_behind : (d : List ℕ) (at : ℕ) (w : List ℕ) (o : ℕ) (v : List ℕ) → at ≤ length d → o ≡ at + length w
    → splice (splice d at w) o v ≡ splice d at (w ++ v)
unfolding splice
splice_behind d at w o v h e =
    let p : List ℕ = take at d ++ w in
    let n : ℕ = at + length w in
    let len : length p ≡ n = length-append (take at d) w ∙ ap (λ (k : ℕ). k + length w) (length-take-le at d h) in
    let end : n + length v ≡ at + length (w ++ v) = omega (arith, length-append w v) in
    ap (λ (k : ℕ). splice (splice d at w) k v) e
    ∙ ap (λ (x : List ℕ). x ++ v ++ drop (n + length v) (p ++ drop n d)) (take_at p (drop n d) n len)
    ∙ ap (λ (x : List ℕ). p ++ v ++ x)
    (sym (drop-drop (length v) n (p ++ drop n d)) ∙ ap (drop (length v)) (drop_at p (drop n d) n len) ∙ drop-drop (length v) n d)
    ∙ ap (λ (x : List ℕ). x ++ drop (n + length v) d) (append_assoc (take at d) w v)
    ∙ ap (λ (k : ℕ). take at d ++ (w ++ v) ++ drop k d) end

-- a part that is written over
pub written-over : (d : List ℕ) (at k : ℕ) (w : List ℕ) → length w ≡ k → put_mid at (at + k - at) d w ≡ splice d at w
unfolding splice
written-over d at k w h =
    ap (λ (r : List ℕ). take at d ++ (w ++ r)) (Post-is at (at + k) d (omega arith) ∙ ap (λ (n : ℕ). drop (at + n) d) (sym h))
    ∙ sym (append_assoc (take at d) w (drop (at + length w) d))

-- laid in from the start: the bytes, and what was behind them
pub splice_front : (d w : List ℕ) → splice d 0 w ≡ w ++ drop (length w) d
unfolding splice
splice_front d w = ap (λ (k : ℕ). w ++ drop k d) (zero-add (length w))
