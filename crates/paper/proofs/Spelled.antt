-- A file is spelled out, each byte as a number, before an example computes with it: the answer is the same, and takes less time than where each
-- reading of a byte computes the byte. Assumes nothing.
use Prim.Native.Nat.{ℕ, zero, suc}
use mathlib.Core.Path.{◌≡◌, refl, ap₂, ◌∙◌}
use mathlib.Core.List.{List, [], ◌∷◌, map}

-- what k makes of n, once n is a number
unfoldable pub number : {A : Type 0} → ℕ → (ℕ → A) → A
number zero k = k zero
number (suc n) k = k (suc n)

-- what k makes of a file, once its bytes are numbers
unfoldable pub spelled : {A : Type 0} → List ℕ → (List ℕ → A) → A
unfolding number
spelled [] k = k []
spelled (x ∷ xs) k = number x (λ y. spelled xs (λ ys. k (y ∷ ys)))

number_same : {A : Type 0} (n : ℕ) (k : ℕ → A) → k n ≡ number n k
unfolding number
number_same zero k = refl
number_same (suc n) k = refl

pub spelled_same : {A : Type 0} (f : List ℕ) (k : List ℕ → A) → k f ≡ spelled f k
unfolding spelled
spelled_same [] k = refl
spelled_same (x ∷ xs) k = spelled_same xs (λ ys. k (x ∷ ys)) ∙ number_same x (λ y. spelled xs (λ ys. k (y ∷ ys)))

-- a table of files
pub table-spelled : {X A : Type 0} (file : X → List ℕ) (answer : X → List ℕ → A) (gives : X → A) (xs : List X)
    → map (λ x. spelled (file x) (answer x)) xs ≡ map gives xs → map (λ x. answer x (file x)) xs ≡ map gives xs
table-spelled {X} {A} file answer gives xs h = each xs ∙ h
  where
    each : (ys : List X) → map (λ x. answer x (file x)) ys ≡ map (λ x. spelled (file x) (answer x)) ys
    each [] = refl
    each (y ∷ ys) = ap₂ (λ (b : A) (bs : List A). b ∷ bs) (spelled_same (file y) (answer y)) (each ys)
