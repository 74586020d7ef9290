-- What the pass over the key entries finds before anything is written: the first key whose value would start too far, or else how many elements
-- each of the three parts has. Assumes nothing.
use Rattle.std.specs.Prelude.{ℕ, ◌+◌, ◌*◌, ◌≤◌, ◌≡◌, Result, Ok, Err, List, [], ◌∷◌}
use Rattle.paper.specs.Outcome.{first_bad, verdict}
use Rattle.paper.specs.Tag
use Rattle.paper.specs.Keys.{Runs, keys, rule17}
use Rattle.paper.specs.Block.{count_if_at, moved, too_far}
use Rattle.paper.specs.declared.Outcome.{Outcome}
use Rattle.paper.specs.declared.Outcome.TheVariants.{Kept as kept, Broken as broken}
use Rattle.paper.specs.declared.Verdict.{Verdict}
use Rattle.paper.specs.declared.Block.{Block}
use Rattle.block.specs.declared.Lengths.{Lengths}
use Rattle.paper.specs.declared.KeyEntry.{KeyEntry}
use Rattle.block.specs.declared.Before.{Before}

-- how many elements the entries have at a location
unfoldable pub total : ℕ → List KeyEntry → ℕ
total l [] = 0
total l (e ∷ es) = count_if_at l e + total l es

-- the numbers of header and entries alone stand before the first of k entries
abbrev pub nothing : ℕ → Before
nothing k = record { shorts = 4 + 4 * k; doubles = 0; characters = 0 }

-- what stands before the next entry
abbrev pub next_of : Before → KeyEntry → Before
next_of b e =
    record {
      shorts = b.shorts + count_if_at Tag.key_directory e;
      doubles = b.doubles + count_if_at Tag.doubles e;
      characters = b.characters + count_if_at Tag.characters e;
    }

-- what stands before i entries, at most
abbrev pub Low : ℕ → Before → Type 0
Low i b = (b.shorts ≤ 1028 + 65536 * i) × (b.doubles ≤ 65536 * i) × (b.characters ≤ 65536 * i)

abbrev pub sizes : Outcome → Before → Result Before Verdict
sizes kept b = Ok b
sizes (broken p) b = Err (verdict 24 p)

-- b stands before
unfoldable pub measured : Before → List KeyEntry → Result Before Verdict
measured b es =
    sizes (first_bad too_far (λ e. e.key) (moved b.shorts b.doubles b.characters es))
    (record {
      shorts = b.shorts + total Tag.key_directory es;
      doubles = b.doubles + total Tag.doubles es;
      characters = b.characters + total Tag.characters es;
    })

-- what is answered: on a refusal the verdict alone
abbrev pub told : Result Lengths Verdict → Block
told (Ok l) = record { verdict = verdict 0 0; directory = l.directory; doubles = l.doubles; characters = l.characters }
told (Err v) = record { verdict = v; directory = 0; doubles = 0; characters = 0 }

-- rule 17 is kept
abbrev pub Placed : Runs → Type 0
Placed r = rule17 r (keys r) ≡ kept
