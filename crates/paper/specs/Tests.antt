-- Tests over lists, and the values that a table allows. Assumes nothing.
use Rattle.std.specs.Prelude.{ℕ, suc, Bool, true, false, cond, not, ◌&&◌, ◌||◌, List, [], ◌∷◌, eqb, leb}

unfoldable pub all : {A : Type 0} → (A → Bool) → List A → Bool
all ok [] = true
all ok (x ∷ xs) = ok x && all ok xs

unfoldable pub some : {A : Type 0} → (A → Bool) → List A → Bool
some is [] = false
some is (x ∷ xs) = is x || some is xs

unfoldable pub keep : {A : Type 0} → (A → Bool) → List A → List A
keep is [] = []
keep is (x ∷ xs) = cond (is x) (x ∷ keep is xs) (keep is xs)

-- the index of a number in a list, counted from 0; the list's length where it is not there
unfoldable pub index_of : ℕ → List ℕ → ℕ
index_of x [] = 0
index_of x (y ∷ ys) = cond (eqb x y) 0 (suc (index_of x ys))

-- a number that is none of a list's, and a list in which none stands twice
abbrev pub not_in : ℕ → List ℕ → Bool
not_in x [] = true
not_in x (y ∷ ys) = not (eqb x y) && not_in x ys

abbrev pub distinct : List ℕ → Bool
distinct [] = true
distinct (y ∷ ys) = not_in y ys && distinct ys

-- ---- which values are allowed: those in one of some ranges

pub record Range : Type 0 where
  pub low : ℕ
  pub high : ℕ

abbrev pub between : ℕ → ℕ → Range
between a b = record { low = a; high = b }

abbrev pub just : ℕ → Range
just a = between a a

abbrev pub in_range : ℕ → Range → Bool
in_range v r = leb r.low v && leb v r.high

unfoldable pub allows : List Range → ℕ → Bool
allows rs v = some (in_range v) rs
