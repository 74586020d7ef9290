-- Rules 9 and 10 over the rows of a table, which are the code's lines, and what was found of their tags in a directory: row by row, with the first entry that is
-- left. Assumes nothing.
use Rattle.std.specs.Prelude.{ℕ, ◌≡◌, ◌+◌, ◌-◌, ◌*◌, Bool, true, false, cond, not, ◌&&◌, ◌||◌, List, [], ◌∷◌, eqb, leb, get_or, drop}
use Rattle.paper.specs.Bytes.{num, build}
use Rattle.paper.specs.Tests.{some}
use Rattle.paper.specs.Tags.{absent}
use Rattle.paper.specs.declared.Entry.{Entry}
use Rattle.paper.specs.declared.Outcome.{Outcome}
use Rattle.paper.specs.declared.Outcome.TheVariants.{Kept as kept, Broken as broken}
use Rattle.lines.specs.declared.Needed.{Needed}
use Rattle.lines.specs.declared.Needed.TheVariants.{Never, Strips, Tiles, Always}
use Rattle.lines.specs.declared.Line.{Line as Row}

-- the tag of the first row that its entry breaks
unfoldable pub first_broken : (Row → Entry → Bool) → List Row → List Entry → Outcome
first_broken breaks [] found = kept
first_broken breaks (r ∷ rs) found = cond (breaks r (get_or found 0 absent.entry)) (broken r.tag) (first_broken breaks rs (drop 1 found))

-- a function of a row and an entry answers a test of them
abbrev pub Answers : (Row → Entry → Bool → Type 0) → (Row → Entry → Bool) → Type 0
Answers gives test = (r : Row) (e : Entry) (b : Bool) → gives r e b → b ≡ test r e

-- ---- rule 9

unfoldable pub needed_by : Needed → Bool → Bool
needed_by Never tiled = false
needed_by Strips tiled = not tiled
needed_by Tiles tiled = tiled
needed_by Always tiled = true

-- a needed tag has no value: it starts at 0
unfoldable pub lacking : Bool → Row → Entry → Bool
lacking tiled r e = needed_by r.needed tiled && eqb e.start 0

unfoldable pub nine_of : List Row → Bool → List Entry → Outcome
nine_of rows tiled found = first_broken (lacking tiled) rows found

-- ---- rule 10

-- a tag has another type or count than its line says
unfoldable pub unlike : Row → ℕ → ℕ → Bool
unlike r typ count = not ((eqb typ r.typ || eqb typ r.other) && (leb r.least count && leb count r.most))

-- and is present
unfoldable pub misfit : Row → Entry → Bool
misfit r e = not (eqb e.start 0) && unlike r e.typ e.count

unfoldable pub ten_of : List Row → List Entry → Outcome
ten_of rows found = first_broken misfit rows found

-- entry j of a run of entries is not as the row says
unfoldable pub misfit_in : Row → Bool → List ℕ → ℕ → Bool
misfit_in r big s j = unlike r (num big 2 s (12 * j + 2)) (num big 4 s (12 * j + 4))

-- one of them from entry j on, of so many, is not
unfoldable pub some_misfit : Row → Bool → List ℕ → ℕ → ℕ → Bool
some_misfit r big s j many = some (misfit_in r big s) (build (λ i. i) j (many - j))
