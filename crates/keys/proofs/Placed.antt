-- Rule 17: what the test of index and count says. Assumes nothing.
use Prim.Native.Nat.{ℕ, ◌+◌, ◌≤◌}
use mathlib.Core.Path.{◌≡◌, sym, ◌∙◌}
use mathlib.Core.Bool.{Bool, true, ◌&&◌}
use lib.Dec.{leb}
use borrow.Author.Tests.{leb-true}
use Rattle.paper.proofs.Laws.{and-eq}

pub within-gives : (b : Bool) (c i n : ℕ) → b ≡ leb 1 c && leb (i + c) n → b ≡ true → (1 ≤ c) × (i + c ≤ n)
within-gives b c i n h e =
    let a = and-eq (leb 1 c) (leb (i + c) n) (sym h ∙ e) in
    (leb-true _ _ a.0, leb-true _ _ a.1)
