-- What one pass over a directory finds of some tags: the first entry of each, in the order of the tags. Assumes nothing.
use Rattle.std.specs.Prelude.{ℕ, cond, List, [], ◌∷◌, map, eqb}
use Rattle.paper.specs.Tags.{absent}
use Rattle.paper.specs.declared.Entry.{Entry}

-- the first entry with tag t; the one of zeros where there is none
unfoldable pub first_with : ℕ → List Entry → Entry
first_with t [] = absent.entry
first_with t (e ∷ es) = cond (eqb e.tag t) e (first_with t es)

-- of each of the tags ts
unfoldable pub firsts : List ℕ → List Entry → List Entry
firsts ts es = map (λ t. first_with t es) ts
