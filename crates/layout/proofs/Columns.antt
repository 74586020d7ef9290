-- The first entries of the tags of a table: how many there are, and what a store at the slot of a tag makes of them. Assumes nothing.
use Prim.Native.Nat.{ℕ, ◌≤◌, ◌<◌}
use mathlib.Core.Path.{◌≡◌, sym, ◌∙◌}
use mathlib.Core.Bool.{true}
use mathlib.Core.List.{List, ◌∷◌}
use lib.ListN.{length, get_or, set, length-map}
use lib.Seq.{set_out}
use Rattle.std.proofs.lemmas.List.{get_or-map}
use Rattle.paper.specs.declared.Entry.{Entry}
use Rattle.paper.specs.Tests.{index_of, distinct}
use Rattle.paper.proofs.Store.{set-index}
use Rattle.layout.specs.Columns.{first_with, firsts}

pub firsts-length : (ts : List ℕ) (es : List Entry) → length (firsts ts es) ≡ length ts
unfolding firsts
firsts-length ts es = length-map ts (λ (t : ℕ). first_with t es)

pub firsts-at : (ts : List ℕ) (es : List Entry) (k : ℕ) (d : Entry) → k < length ts → get_or (firsts ts es) k d ≡ first_with (get_or ts k 0) es
unfolding firsts
firsts-at ts es k d h = get_or-map (λ (t : ℕ). first_with t es) ts k 0 d h

module _ (ts : List ℕ) (different : distinct ts ≡ true) (e : Entry) (es : List Entry) where
  -- a store at the slot of the tag of e, which comes in front
  pub put : set (firsts ts es) (index_of e.tag ts) e ≡ firsts ts (e ∷ es)
  unfolding firsts first_with
  put = set-index e.tag e (λ (t : ℕ). first_with t es) ts different

  -- a tag that is none of them changes nothing
  pub same : length ts ≤ index_of e.tag ts → firsts ts es ≡ firsts ts (e ∷ es)
  same out = sym (set_out (firsts ts es) (index_of e.tag ts) e (rw (firsts-length ts es) out)) ∙ put
