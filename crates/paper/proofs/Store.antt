-- A store at the place of a number in a table of distinct numbers changes what stands for that number, and nothing else. Assumes nothing.
use Prim.Native.Nat.{ℕ}
use mathlib.Core.Path.{◌≡◌, refl, ap}
use mathlib.Core.Bool.{Bool, true, false, cond}
use mathlib.Core.List.{List, [], ◌∷◌, map}
use lib.Dec.{eqb}
use lib.ListN.{set}
use borrow.Author.Tests.{eqb-true}
use Rattle.paper.specs.Tests.{index_of, not_in, distinct}
use Rattle.paper.proofs.Laws.{and-eq}

unchanged : {A : Type 0} (x : ℕ) (v : A) (f : ℕ → A) (ts : List ℕ) → not_in x ts ≡ true → map f ts ≡ map (λ t. cond (eqb x t) v (f t)) ts
unchanged x v f [] h = refl
unchanged {A} x v f (t ∷ ts) h = go (eqb x t) refl (unchanged x v f ts)
  where
    go : (b : Bool) → eqb x t ≡ b → (not_in x ts ≡ true → map f ts ≡ map (λ (y : ℕ). cond (eqb x y) v (f y)) ts)
        → map f (t ∷ ts) ≡ map (λ (y : ℕ). cond (eqb x y) v (f y)) (t ∷ ts)
    go true p ih = let z : false ≡ true = rw p at h in cc
    go false p ih = let z : not_in x ts ≡ true = rw p at h in rw p (ap (λ (l : List A). f t ∷ l) (ih z))

pub set-index : {A : Type 0} (x : ℕ) (v : A) (f : ℕ → A) (ts : List ℕ) → distinct ts ≡ true → set (map f ts) (index_of x ts) v ≡ map (λ t. cond (eqb x t) v (f t)) ts
unfolding index_of
set-index x v f [] h = refl
set-index {A} x v f (t ∷ ts) h = go (eqb x t) refl (set-index x v f ts (and-eq (not_in t ts) (distinct ts) h).1)
  where
    go : (b : Bool) → eqb x t ≡ b → set (map f ts) (index_of x ts) v ≡ map (λ (y : ℕ). cond (eqb x y) v (f y)) ts
        → set (map f (t ∷ ts)) (index_of x (t ∷ ts)) v ≡ map (λ (y : ℕ). cond (eqb x y) v (f y)) (t ∷ ts)
    go true e ih =
        let n : not_in x ts ≡ true = rw (eqb-true x t e) (and-eq (not_in t ts) (distinct ts) h).0 in
        rw e (ap (λ (l : List A). v ∷ l) (unchanged x v f ts n))
    go false e ih = rw e (ap (λ (l : List A). f t ∷ l) ih)
