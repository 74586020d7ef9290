-- The entries of tag 50909 behind the first of them: they stand side by side where rule 6 is kept. Assumes nothing.
use Rattle.std.specs.Prelude.{ℕ, suc, ◌+◌, ◌-◌, ◌*◌, Bool, cond, List, [], ◌∷◌, eqb, ltb, length, drop}
use Rattle.paper.specs.Bytes.{build}
use Rattle.paper.specs.Tests.{keep}
use Rattle.paper.specs.Tag
use Rattle.paper.specs.Layout.{entry_of}
use Rattle.paper.specs.declared.Entry.{Entry}
use Rattle.layout.specs.declared.Further.{Further}

abbrev pub is_text : Entry → Bool
is_text e = eqb e.tag Tag.metadata

-- how many there are, the first too
unfoldable pub text_count : List Entry → ℕ
text_count es = length (keep is_text es)

-- the index of the first; the list's length where there is none
unfoldable pub first_text : List Entry → ℕ
first_text [] = 0
first_text (e ∷ es) = cond (is_text e) 0 (suc (first_text es))

abbrev pub no_further : Further
no_further = record { start = 0; many = 0 }

-- where the second starts in the file, in a directory that stands at `at`, and how many there are from it on
unfoldable pub further_of : ℕ → List Entry → Further
further_of at es =
    cond (ltb 1 (text_count es)) (record { start = at + (2 + 12 * (first_text es + 1)); many = text_count es - 1 }) no_further

-- the entries themselves
abbrev pub later_texts : List Entry → List Entry
later_texts es = drop 1 (keep is_text es)

-- so many entries as they stand in a run of bytes that starts at a place of the file
unfoldable pub entries_from : Bool → ℕ → List ℕ → ℕ → List Entry
entries_from big start bytes many = build (λ j. entry_of big start bytes (12 * j)) 0 many
