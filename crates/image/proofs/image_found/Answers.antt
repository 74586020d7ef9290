-- `image_found` asks the layer of the tags, then that of the pieces. Assumes nothing.
use Rattle.std.proofs.Common.{rules}
use Rattle.std.specs.Prelude.{◌≡◌, option_map}
use mathlib.Core.Path.{refl}
use Rattle.pieces.specs.declared.Span.{Span}
use Rattle.image.proofs.Imaging.{next_at, table-refuses, pieces-refuse, image-good}
use Rattle.image.proofs.image_found.Goals as goal

pub returns-in_err-picture : goal.returns-in_err-picture
returns-in_err-picture c = search (rules, table-refuses)

pub returns-in_err-span : goal.returns-in_err-span
returns-in_err-span c = search (rules, pieces-refuse)

pub returns : goal.returns
returns c =
    let n : c.map.result ≡ option_map (λ (s : Span). next_at c.args.next s) c.in_ok-span.span = search rules in
    rw (n, c.part_of.ensures, c.part_of-2.ensures, c.part_of-3.ensures, c.part_of-4.ensures, c.part_of-5.ensures, c.part_of-6.ensures, c.part_if.ensures)
    (image-good c.requires c.in_ok-picture.ensures c.args.next _ c.in_ok-span.ensures refl)
