-- `image_laid` passes over the directory and goes on with what it found. What a table's cells must satisfy is computed here for the image's, by `refl`.
-- Assumes nothing.
use mathlib.Core.Path.{refl, ◌∙◌}
use mathlib.Core.Bool.{true}
use mathlib.Core.List.{List}
use lib.ListN.{replicate}
use Rattle.std.proofs.lemmas.Result.{err_from_is_err_and}
use Rattle.paper.specs.Bytes.{build}
use Rattle.paper.specs.Tests.{all, index_of}
use Rattle.paper.specs.Tags.{table, absent}
use Rattle.paper.specs.declared.Entry.{Entry}
use Rattle.layout.specs.Columns.{first_with, firsts}
use Rattle.layout.specs.Finding.{cell_of, in_cell, slot_tags, right}
use Rattle.lines.specs.Lined.{line_tags}
use Rattle.layout.proofs.Stages.{entries-asked}
use Rattle.image.proofs.Imaging.{scan-bad, scan-passed, scan_good}
use Rattle.tags.specs.Index
use Rattle.image.proofs.image_laid.Goals as goal

-- no entry was found yet
abbrev None : List Entry
None = replicate Index.many absent.entry

pub entries-entries-requires : goal.entries-entries-requires
entries-entries-requires c = entries-asked c.requires

pub scan-s-requires : goal.scan-s-requires
unfolding firsts first_with slot_tags cell_of in_cell right all index_of build
scan-s-requires c = (record { different = refl {a = true}; stand = refl {a = true}; rights = refl {a = true} }, rw c.absent-found.ensures (refl {a = None}))

pub returns-in_err-s : goal.returns-in_err-s
returns-in_err-s c =
    let s = rw (c.entries-entries.ensures.directory, c.entries-entries.ensures.bytes) at c.scan-s.ensures.scanned in
    let p = err_from_is_err_and c.from_residual.result c.from_residual.ensures.1 in
    rw (p.1, p.2) (scan-bad c.requires s _ c.in_err-s.was)

pub image_found-requires : goal.image_found-requires
unfolding slot_tags index_of build line_tags table
image_found-requires c =
    let s = rw (c.entries-entries.ensures.directory, c.entries-entries.ensures.bytes) at c.scan-s.ensures in
    scan-passed c.requires s.scanned c.in_ok-s.was refl s.columns

pub returns : goal.returns
returns c =
    let s = rw (c.entries-entries.ensures.directory, c.entries-entries.ensures.bytes) at c.scan-s.ensures.scanned in
    c.image_found.ensures ∙ scan_good c.requires s c.in_ok-s.was
