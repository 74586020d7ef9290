-- `judge_pictures` asks rule 13 of the mask's picture, then whether it meets either list, then whether the image's meets the mask's. Assumes nothing.
use Rattle.std.proofs.Common.{◌≡◌, Ok, rules, ◌∙◌, ap}
use Rattle.pieces.specs.Spans.{within_of}
use Rattle.crossing.proofs.Apart.{mask-spanned, mask-listing, image-listing, image-inside, image-spanned, thirteen-broken, mask-meets, image-meets, both-clear}
use Rattle.crossing.proofs.judge_pictures.Goals.{then-mask_crosses-via-then-mask_crosses, then-mask_crosses-via-else-mask_crosses+then-image_crosses}
use Rattle.crossing.proofs.judge_pictures.Goals as goal

pub returns-in_err-reach : goal.returns-in_err-reach
returns-in_err-reach c =
    let p = c.requires in
    let w = c.judge_within.ensures ∙ ap (within_of _) c.places.ensures in
    search (rules, thirteen-broken p.1 p.0, w)

pub mask_crosses-requires : goal.mask_crosses-requires
mask_crosses-requires c =
    let p = c.requires in
    let k : Ok c.in_ok-reach.reach ≡ c.judge_within.result = search rules in
    let s = mask-spanned p.1 p.0 _ (k ∙ c.judge_within.ensures ∙ ap (within_of _) c.places.ensures) in
    (p.1.named.standing, s, image-listing p.1 p.0, image-inside p.1 p.0, mask-listing p.1)

pub image_crosses-requires : goal.image_crosses-requires
image_crosses-requires c = let p = c.requires in (p.0.named.standing, image-spanned p.1 p.0, mask-listing p.1)

pub returns-then-mask_crosses : goal.returns-then-mask_crosses
returns-then-mask_crosses c =
    let p = c.requires in
    let k : Ok c.in_ok-reach.reach ≡ c.judge_within.result = search rules in
    let w = k ∙ c.judge_within.ensures ∙ ap (within_of _) c.places.ensures in
    elim c.then-mask_crosses.branch [
      | then-mask_crosses-via-then-mask_crosses v ↦ mask-meets p.1 p.0 _ w _ c.mask_crosses.ensures v.if-mask_crosses.true
      | then-mask_crosses-via-else-mask_crosses+then-image_crosses v ↦ image-meets p.1 p.0 _ w _ c.mask_crosses.ensures v.if-mask_crosses.false _ v.image_crosses.ensures v.if-image_crosses.true
    ]

pub returns : goal.returns
returns c =
    let p = c.requires in
    let k : Ok c.in_ok-reach.reach ≡ c.judge_within.result = search rules in
    both-clear p.1 p.0 _ (k ∙ c.judge_within.ensures ∙ ap (within_of _) c.places.ensures) _ c.mask_crosses.ensures c.if-mask_crosses.false _ c.image_crosses.ensures
    c.if-image_crosses.false
