-- The search for a key. Assumes nothing.
use Rattle.std.specs.Prelude.{ℕ, List, Option, eqb, find}
use Rattle.paper.specs.declared.KeyEntry.{KeyEntry}

-- the first entry of a key
unfoldable pub with_key : ℕ → List KeyEntry → Option KeyEntry
with_key k es = find (λ e. eqb e.key k) es
