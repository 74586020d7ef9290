-- `read_full`: a further read goes on where the last one ended. Assumes nothing.
use Rattle.std.proofs.Common.{◌≡◌, ℕ, ◌+◌, ◌≤◌, List, ◌++◌, rules, length, take, sym, ap, ◌∙◌, subst, length-take-le}
use Rattle.std.proofs.Math.Seq.{take-append-add}
use Rattle.std.proofs.lemmas.List.{take-append-le}
use Rattle.std.proofs.KnownBytes.{Consumes-trans}
use Rattle.std.specs.Io.KnownBytes.{Consumes}
use borrow.Rule.Slice.PartMut.{put_mid, post_of}
use Rattle.report.proofs.read_full.Goals as goal

-- n bytes more, read into the part of k bytes from a on
take_filled : (a k n : ℕ) (xs ys : List ℕ) → a ≤ length xs → n ≤ length ys → take (a + n) (put_mid a k xs ys) ≡ take a xs ++ take n ys
take_filled a k n xs ys within fits =
    let joined = take-append-add (take a xs) (ys ++ post_of a k xs) n ∙ ap (λ l. take a xs ++ l) (take-append-le n ys (post_of a k xs) fits) in
    subst (λ (m : ℕ). take (m + n) (put_mid a k xs ys) ≡ take a xs ++ take n ys) (length-take-le a xs within) joined

pub loop-n-preserved : goal.loop-n-preserved
loop-n-preserved g c =
    let filled = take_filled c.loop-n.n _ c.in_ok-more.more c.loop-n.buf c.read.new.buf c.loop-n.invariant.filled c.in_ok-more.ensures.bound.0 in
    record {
      filled = search rules;
      bytes = subst (Consumes _ _) (sym filled) (Consumes-trans _ _ _ _ _ c.loop-n.invariant.bytes c.in_ok-more.ensures.bytes.0);
    }
