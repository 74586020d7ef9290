-- Where the values of 34735, 34736 and 34737 start, in the words of the key rows, and what is asked to make a row. Assumes nothing.
use Rattle.std.specs.Prelude.{ℕ, ◌+◌, ◌*◌, ◌≤◌, ◌<◌, Bool, List, [], length}
use Rattle.paper.specs.Keys.{key_at}
use Rattle.paper.specs.Calls.{Starts as FileStarts, entry_place, row_of}
use Rattle.keys.specs.Pass.{runs}
use Rattle.keys.specs.declared.Starts.{Starts}

abbrev pub starts_in : Starts → FileStarts
starts_in s = record { directory = s.directory; doubles = s.doubles; characters = s.characters }

-- entry i, one of the 256 that there can be, lies in the key directory d; its fourth number and its value begin below 2 ^ 32 in the file
abbrev pub RowAsked : Bool → List ℕ → FileStarts → ℕ → Type 0
RowAsked big d s i =
    (i < 256) × (8 * i + 16 ≤ length d) × (entry_place s i + 6 < 4294967296) × ((row_of s i (key_at (runs big d [] []) i)).first < 4294967296)
