-- Rule 15: what a kept header says of K and of the directory's length. Assumes nothing.
use Prim.Native.Nat.{ℕ, ◌+◌, ◌*◌, ◌≤◌}
use mathlib.Core.Path.{◌≡◌, sym, ◌∙◌}
use mathlib.Core.Bool.{Bool}
use mathlib.Core.List.{List, []}
use lib.ListN.{length}
use Rattle.paper.specs.Bytes.{num}
use Rattle.paper.specs.Keys.{short, key_count, rule15}
use Rattle.paper.specs.declared.Outcome.{Outcome}
use Rattle.paper.specs.declared.Outcome.TheVariants.{Kept as kept}
use Rattle.paper.proofs.Header.{header-kept}
use Rattle.keys.specs.Pass.{runs}

-- K is at most 256, and its entries are there
pub record Headed (big : Bool) (d : List ℕ) : Type 0 where
  pub few : num big 2 d 6 ≤ 256
  pub whole : 8 + 8 * num big 2 d 6 ≤ length d

pub headed : (big : Bool) (d : List ℕ) (o : Outcome) → o ≡ rule15 (runs big d [] []) → o ≡ kept → Headed big d
unfolding short key_count
headed big d o is-o h =
    let k = header-kept (runs big d [] []) (sym is-o ∙ h) in
    record { few = k.few; whole = k.whole }
