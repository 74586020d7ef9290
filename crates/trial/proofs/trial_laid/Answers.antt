-- `trial_laid` passes over the directory, and judges what it finds by the rows of the table. Assumes nothing.
use mathlib.Core.Path.{refl}
use mathlib.Core.Bool.{true}
use Rattle.std.proofs.lemmas.Result.{err_from_is_err_and}
use Rattle.paper.specs.Bytes.{build}
use Rattle.paper.specs.Tests.{all, index_of}
use Rattle.layout.specs.Columns.{first_with, firsts}
use Rattle.layout.specs.Finding.{cell_of, in_cell, slot_tags, right}
use Rattle.lines.specs.Rows.{needed_by}
use Rattle.lines.specs.Lined.{line_tags, says, all_say}
use Rattle.trial.specs.Trial.{trial}
use Rattle.layout.proofs.Stages.{entries-asked}
use Rattle.trial.proofs.Trying.{scan-bad, nine-bad, ten-told}
use Rattle.trial.proofs.trial_laid.Goals as goal

pub entries-requires : goal.entries-requires
entries-requires c = entries-asked c.requires

-- what a table's cells must satisfy, and what is found in no entry: both are computed
pub scan-s-requires : goal.scan-s-requires
unfolding cell_of in_cell slot_tags right build all index_of first_with firsts
scan-s-requires c = (record { different = refl {a = true}; stand = refl {a = true}; rights = refl {a = true} }, rw c.absent-found.ensures refl)

pub returns-in_err-s : goal.returns-in_err-s
returns-in_err-s c =
    let o = c.requires in
    let s = rw (c.entries.ensures.directory, c.entries.ensures.bytes) at c.scan-s.ensures in
    let p = err_from_is_err_and c.from_residual.result c.from_residual.ensures.1 in
    rw (p.1, p.2) (scan-bad o s.scanned c.in_err-s.was)

-- the tags of the slots are those of the table's lines, and the rows say what the lines say: both are computed
pub returns-in_err-rule : goal.returns-in_err-rule
unfolding slot_tags build index_of line_tags trial all_say says needed_by all
returns-in_err-rule c =
    let o = c.requires in
    let s = rw (c.entries.ensures.directory, c.entries.ensures.bytes) at c.scan-s.ensures in
    let p = err_from_is_err_and c.from_residual-in_err-rule.result c.from_residual-in_err-rule.ensures.1 in
    rw (p.1, p.2) (nine-bad o s.scanned c.in_ok-s.was s.columns _ refl refl c.needed_tags.ensures c.in_err-rule.ensures)

pub returns : goal.returns
unfolding slot_tags build index_of line_tags trial all_say says needed_by all
returns c =
    let o = c.requires in
    let s = rw (c.entries.ensures.directory, c.entries.ensures.bytes) at c.scan-s.ensures in
    rw c.rule-2.ensures (ten-told o s.scanned c.in_ok-s.was s.columns _ refl refl c.needed_tags.ensures c.in_ok-rule.ensures c.fitting_tags.ensures)
