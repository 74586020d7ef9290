-- What is known of a directory of a file and of the entries that a pass over it found of the tags of a table. Assumes nothing.
use Rattle.std.specs.Prelude.{ℕ, ◌+◌, ◌≤◌, ◌<◌, ◌≡◌, Bool, List, map, length, get_or}
use Rattle.paper.specs.Bytes.{run}
use Rattle.paper.specs.Layout.{dir_len, entries, rule6, rule7}
use Rattle.paper.specs.Tags.{Line, Held, hold, absent}
use Rattle.paper.specs.declared.Entry.{Entry}
use Rattle.paper.specs.declared.Outcome.TheVariants.{Kept as kept}
use Rattle.layout.specs.Columns.{firsts}
use Rattle.layout.specs.Repeats.{further_of}
use Rattle.layout.specs.declared.Further.{Further}
use Rattle.lines.specs.Lined.{line_tags}

-- the entries of the directory at a place of the file, and these with the value bytes of the table's tags
unfoldable pub entries_at : List ℕ → Bool → ℕ → ℕ → List Entry
entries_at f big at c = entries big at c (run f at (dir_len c))

unfoldable pub held_at : List Line → List ℕ → Bool → ℕ → ℕ → List Held
held_at tb f big at c = map (hold tb f) (entries_at f big at c)

-- what was found of the tag of a line: the first entry of the tag, and one of zeros where there is none
abbrev pub at_slot : List Entry → ℕ → Entry
at_slot found k = get_or found k absent.entry

-- the directory lies in the file and keeps rule 7, and what was found is the first entry of each tag
pub record Ready (tb : List Line) (f : List ℕ) (big : Bool) (at c : ℕ) (found : List Entry) : Type 0 where
  pub size : length f ≤ 4294967295
  pub low : 8 ≤ at
  pub some : 0 < c
  pub few : c ≤ 1024
  pub whole : at + dir_len c ≤ length f
  pub found_are : found ≡ firsts (line_tags tb) (entries_at f big at c)
  pub seven : rule7 (length f) (entries_at f big at c) ≡ kept

-- rule 6 is kept, and r says where the further entries of 50909 stand
pub record Behind (f : List ℕ) (big : Bool) (at c : ℕ) (r : Further) : Type 0 where
  pub six : rule6 (entries_at f big at c) ≡ kept
  pub is : r ≡ further_of at (entries_at f big at c)
