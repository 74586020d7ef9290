-- The tags of the rows are those of the table, and what is found of them tag by tag is the first entry of each. Assumes nothing.
use Prim.Native.Nat.{ℕ, ◌<◌}
use mathlib.Core.Path.{◌≡◌, refl, ap, ap₂, ◌∙◌, subst, sym}
use mathlib.Core.Bool.{true}
use mathlib.Core.List.{List, [], ◌∷◌}
use lib.Dec.{eqb}
use lib.ListN.{length, get_or, length-map}
use borrow.Author.Tests.{eqb-true}
use Rattle.std.proofs.lemmas.List.{get_or-map}
use Rattle.paper.specs.Tags.{Line}
use Rattle.paper.specs.declared.Entry.{Entry}
use Rattle.paper.proofs.Laws.{and-eq}
use Rattle.layout.specs.Columns.{first_with, firsts}
use Rattle.layout.proofs.Columns.{firsts-length, firsts-at}
use Rattle.lines.specs.declared.Line.{Line as Row}
use Rattle.lines.specs.Lined.{line_tags, row_tags, says, all_say}

-- rows that say what the lines of a table say have its tags
pub tags-are : (rows : List Row) (tb : List Line) → all_say rows tb ≡ true → row_tags rows ≡ line_tags tb
unfolding row_tags line_tags all_say says
tags-are [] [] h = refl
tags-are [] (l ∷ ls) h = cc
tags-are (r ∷ rs) [] h = cc
tags-are (r ∷ rs) (l ∷ ls) h =
    let both = and-eq (says r l) (all_say rs ls) h in
    ap₂ (λ (t : ℕ) (ts : List ℕ). t ∷ ts) (eqb-true r.tag l.tag (and-eq (eqb r.tag l.tag) _ both.0).0) (tags-are rs ls both.1)

rows-long : (rows : List Row) → length (row_tags rows) ≡ length rows
unfolding row_tags
rows-long rows = length-map rows (λ (r : Row). r.tag)

module _ (rows : List Row) (es : List Entry) where
  -- what is found of all tags: so many entries, and that of row k
  pub gathered-long : length (firsts (row_tags rows) es) ≡ length rows
  gathered-long = firsts-length (row_tags rows) es ∙ rows-long rows

  pub gathered-at : (k : ℕ) (r : Row) (d : Entry) → k < length rows → get_or (firsts (row_tags rows) es) k d ≡ first_with (get_or rows k r).tag es
  unfolding row_tags
  gathered-at k r d h =
      firsts-at (row_tags rows) es k d (subst (λ (n : ℕ). k < n) (sym (rows-long rows)) h)
      ∙ ap (λ (t : ℕ). first_with t es) (get_or-map (λ (r : Row). r.tag) rows k r 0 h)
