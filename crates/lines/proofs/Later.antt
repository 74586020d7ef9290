-- Rule 10 of entries that stand side by side, against one row. Assumes nothing.
use Prim.Native.Nat.{ℕ, ◌+◌, ◌-◌, ◌*◌, ◌≤◌, ◌<◌}
use mathlib.Core.Path.{◌≡◌, sym, ◌∙◌}
use mathlib.Core.Bool.{Bool, true, false, ◌||◌}
use mathlib.Core.List.{List}
use native.Mathlib.Omega.{arith}
use Rattle.paper.specs.Bytes.{num, build}
use Rattle.paper.specs.Tests.{some}
use Rattle.paper.proofs.Laws.{build-step}
use Rattle.lines.specs.Rows.{unlike, misfit_in, some_misfit}
use Rattle.lines.specs.declared.Line.{Line as Row}

-- none before entry j is at fault
pub record Fine (r : Row) (big : Bool) (s : List ℕ) (many j : ℕ) : Type 0 where
  pub so_far : some_misfit r big s 0 many ≡ some_misfit r big s j many

module _ {r : Row} {big : Bool} {s : List ℕ} {many : ℕ} where
  module _ {j : ℕ} (fine : Fine r big s many j) where
    module _ (more : j < many) {typ count : ℕ} (is-typ : typ ≡ num big 2 s (12 * j + 2)) (is-count : count ≡ num big 4 s (12 * j + 4))
        {bad : Bool} (is-bad : bad ≡ unlike r typ count) where
      bad-is : misfit_in r big s j ≡ bad
      unfolding misfit_in
      bad-is = rw (is-bad, is-typ, is-count)

      step : some_misfit r big s 0 many ≡ bad || some_misfit r big s (j + 1) many
      unfolding some_misfit some
      step = fine.so_far ∙ rw (build-step (λ i. i) j many, bad-is)

      pub fine-bad : bad ≡ true → true ≡ some_misfit r big s 0 many
      fine-bad e = sym (step ∙ rw e)

      pub fine_more : bad ≡ false → Fine r big s many (j + 1)
      fine_more e = record { so_far = step ∙ rw e }

    pub fine_end : many ≤ j → false ≡ some_misfit r big s 0 many
    unfolding some_misfit some build
    fine_end done = let e : many - j ≡ 0 = omega arith in sym (fine.so_far ∙ rw e)
