-- `mask_laid` passes over the directory, tests the next offset, gathers the entries and goes on with them. Assumes nothing.
use mathlib.Core.Path.{refl}
use Rattle.std.proofs.Common.{◌≡◌, Ok, rules}
use Rattle.paper.specs.Tags.{mask_table}
use Rattle.lines.specs.Lined.{all_say, says}
use Rattle.lines.specs.Rows.{needed_by}
use Rattle.lines.proofs.Gathered.{tags-are}
use Rattle.second.proofs.Staged.{entries-asked, scan-bad, next-bad, gathered}
use Rattle.second.proofs.mask_laid.Goals as goal

pub entries-entries-requires : goal.entries-entries-requires
entries-entries-requires c = entries-asked c.requires

pub returns-in_err-map_err : goal.returns-in_err-map_err
returns-in_err-map_err c =
    let s = rw (c.entries-entries.ensures.directory, c.entries-entries.ensures.bytes) at c.judge-s.ensures in
    search (rules, scan-bad, s)

pub returns-then-s-ne0 : goal.returns-then-s-ne0
returns-then-s-ne0 c =
    let s = rw (c.entries-entries.ensures.directory, c.entries-entries.ensures.bytes) at c.judge-s.ensures in
    let k : c.judge-s.result.judged ≡ Ok _ = search rules in
    next-bad c.requires s k c.if-s-ne0.true

pub mask_found-requires : goal.mask_found-requires
unfolding all_say says needed_by mask_table
mask_found-requires c =
    let s = rw (c.entries-entries.ensures.directory, c.entries-entries.ensures.bytes) at c.judge-s.ensures in
    let g = rw (c.entries-entries.ensures.directory, c.entries-entries.ensures.bytes) at c.gather.ensures in
    let k : c.judge-s.result.judged ≡ Ok _ = search rules in
    gathered c.requires s k c.if-s-ne0.false (tags-are _ (mask_table _ _) refl) g
