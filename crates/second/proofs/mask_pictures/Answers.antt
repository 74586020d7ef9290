-- `mask_pictures` gathers the image's entries anew and hands both directories' to the rules over the two pictures. Assumes nothing.
use mathlib.Core.Path.{refl, ap, ◌∙◌}
use Rattle.paper.specs.Tags.{table}
use Rattle.paper.specs.declared.Verdict.{Verdict}
use Rattle.lines.specs.Lined.{all_say, says}
use Rattle.lines.specs.Rows.{needed_by}
use Rattle.lines.proofs.Gathered.{tags-are}
use Rattle.mask.specs.Masking.{numbered}
use Rattle.second.proofs.Pictured.{count-asked, count_room, entries-asked, image-shown, mask-named, crossed-is}
use Rattle.second.proofs.mask_pictures.Goals as goal

pub value-requires : goal.value-requires
value-requires c = search count-asked

pub short-requires : goal.short-requires
short-requires c = search count_room

pub entries-entries-requires : goal.entries-entries-requires
entries-entries-requires c = entries-asked c.requires.known.second.before c.value.ensures c.short.ensures.0

pub judge_pictures-requires : goal.judge_pictures-requires
unfolding all_say says needed_by table
judge_pictures-requires c =
    let p = c.requires in
    let g = rw (c.entries-entries.ensures.directory, c.entries-entries.ensures.bytes) at c.gather.ensures in
    let s = rw (c.entries-entries.ensures.directory, c.entries-entries.ensures.bytes) at c.judge-s.ensures in
    let k = image-shown p.known.second.before c.value.ensures c.short.ensures.0 s (tags-are _ table refl) g c.has_tiles.ensures refl refl in
    let m = mask-named p refl refl in
    let i = c.new-pictured.ensures in
    let j = c.new-masked.ensures in
    rw (i.0, i.1, i.2, i.3, j.0, j.1, j.2, j.3) (search (k, m))

pub returns : goal.returns
returns c =
    let p = c.requires in
    let r = rw (c.new-pictured.ensures.0, c.new-masked.ensures.0) at c.judge_pictures.ensures in
    r
    ∙ ap (λ (v : Verdict). numbered v (tt {0})) (crossed-is p.known.second.before c.value.ensures c.short.ensures.0 p.known.view_is)
