-- A rule is kept, or broken at a place. A judgement is the first broken rule of a list, with its number. Assumes nothing.
use Rattle.std.specs.Prelude.{ℕ, Bool, true, false, cond, List, [], ◌∷◌, map, ltb, eqb}
use Rattle.paper.specs.declared.Verdict.{Verdict}
pub use Rattle.paper.specs.declared.Outcome.{Outcome}
pub use Rattle.paper.specs.declared.Outcome.TheVariants.{Kept as kept, Broken as broken}

-- ---- one rule

-- broken at p where the test passes
abbrev pub breaks : Bool → ℕ → Outcome
breaks true p = broken p
breaks false p = kept

-- the first that is broken
unfoldable pub first_of : List Outcome → Outcome
first_of [] = kept
first_of (kept ∷ os) = first_of os
first_of (broken p ∷ os) = broken p

-- a fault that a rule looks for: whether it is there, and its place
pub record Fault : Type 0 where
  pub there : Bool
  pub place : ℕ

abbrev pub fault : Bool → ℕ → Fault
fault b p = record { there = b; place = p }

-- broken at the place of the first that is there
abbrev pub first_there : List Fault → Outcome
first_there xs = first_of (map (λ x. breaks x.there x.place) xs)

-- broken at the place of the first element that is bad
unfoldable pub first_bad : {A : Type 0} → (A → Bool) → (A → ℕ) → List A → Outcome
first_bad bad place [] = kept
first_bad bad place (x ∷ xs) = cond (bad x) (broken (place x)) (first_bad bad place xs)

-- each number follows the one before it; broken at the later of the first pair where it does not
unfoldable pub ordered_from : (ℕ → ℕ → Bool) → ℕ → List ℕ → Outcome
ordered_from follows a [] = kept
ordered_from follows a (b ∷ bs) = cond (follows a b) (ordered_from follows b bs) (broken b)

unfoldable pub ordered : (ℕ → ℕ → Bool) → List ℕ → Outcome
ordered follows [] = kept
ordered follows (b ∷ bs) = ordered_from follows b bs

-- each number is greater than the one before
abbrev pub ascending_from : ℕ → List ℕ → Outcome
ascending_from a bs = ordered_from ltb a bs

abbrev pub ascending : List ℕ → Outcome
ascending ns = ordered ltb ns

-- ---- rules in order, each with its number

pub record Rule : Type 0 where
  pub number : ℕ
  pub outcome : Outcome

infix 80 ◌▸◌
abbrev pub ◌▸◌ : ℕ → Outcome → Rule
◌▸◌ k o = record { number = k; outcome = o }

abbrev pub verdict : ℕ → ℕ → Verdict
verdict k p = record { number = k; place = p }

-- rule k's verdict where it is broken, and else what the later rules give
abbrev pub or_else : ℕ → Outcome → Verdict → Verdict
or_else k kept v = v
or_else k (broken p) v = verdict k p

-- the first broken rule with its place; 0 where all are kept
unfoldable pub first : List Rule → Verdict
first [] = verdict 0 0
first (r ∷ rs) = or_else r.number r.outcome (first rs)

-- the first verdict, or the second where the first is 0
infixr 20 ◌▷◌
abbrev pub ◌▷◌ : Verdict → Verdict → Verdict
◌▷◌ v w = cond (eqb v.number 0) w v
