-- The key table's rules, each one test that is computed over the whole table: it ascends, each entry has the kind of its key, and each known key
-- stands at its slot, so that what does not stand there is no known key. Assumes nothing.
use Prim.Native.Nat.{ℕ, ◌<◌}
use mathlib.Core.Path.{◌≡◌, refl, sym, ap, ◌∙◌}
use mathlib.Core.Bool.{Bool, true, false, ◌&&◌, true≢false}
use mathlib.Core.List.{List, [], ◌∷◌, map}
use lib.Dec.{eqb, ltb}
use lib.ListN.{get_or, get_or-map}
use borrow.Author.Tests.{eqb-true, ne_eqb}
use native.Mathlib.Omega.{arith}
use Rattle.std.proofs.lemmas.Bool.Decides.{nat_tests}
use Rattle.std.specs.Prelude.{Option, Some, None, IfSome}
use Rattle.paper.specs.Outcome.{ascending, ordered, ordered_from}
use Rattle.paper.specs.Tests.{all}
use Rattle.paper.specs.Keys.{Known, known, known_keys, kind_in, kind_of, short_kind, other_kind}
use Rattle.paper.specs.declared.Outcome.TheVariants.{Kept as kept}
use Rattle.paper.proofs.Laws.{and-eq, all-at}
use Rattle.keys.specs.declared.TheConstants.{KNOWN}
use Rattle.keys.specs.declared.Kind.TheVariants.{Short}
use Rattle.keys.specs.declared.Kind.{Kind}
use Rattle.keys.specs.Table.{number, numbered, slot_of}

-- the table of the code is the paper's
pub table-is : map numbered KNOWN ≡ known_keys
unfolding known_keys
table-is = refl

pub sorted : ascending (map (λ x. x.0) KNOWN) ≡ kept
unfolding ordered ordered_from
sorted = refl

-- each entry has its key's kind
abbrev right : Known → Bool
right x = eqb (kind_of x.key) x.kind

each_right : all right known_keys ≡ true
unfolding all known_keys kind_of kind_in
each_right = refl

-- what stands at a place of the table, which has an end
abbrev at : ℕ → ℕ × Kind
at p = get_or KNOWN p (0, Short)

-- whether a key stands at a place, if there is one
abbrev stands : ℕ → Option ℕ → Bool
stands k None = false
stands k (Some p) = ltb p 45 && eqb (at p).0 k

-- each known key stands at its slot
abbrev there : ℕ → Bool
there k = stands k (slot_of k)

each-there : all (λ x. there x.key) known_keys ≡ true
unfolding all known_keys slot_of
each-there = refl

-- a test that passes at each key of a table fails only at what is none of them
unknown-in : (f : ℕ → Bool) (xs : List Known) (k : ℕ) → all (λ x. f x.key) xs ≡ true → f k ≡ false → kind_in k xs ≡ other_kind
unfolding all kind_in
unknown-in f [] k t h = refl
unknown-in f (x ∷ xs) k t h =
    let b = and-eq (f x.key) (all (λ y. f y.key) xs) t in
    rw (ne_eqb x.key k (λ e. true≢false (sym b.0 ∙ (ap f e ∙ h)))) (unknown-in f xs k b.1 h)

unknown : (k : ℕ) → there k ≡ false → kind_of k ≡ other_kind
unfolding kind_of
unknown k h = unknown-in there known_keys k each-there h

-- ---- the answers of the lookup, from what it finds at the slot

pub found : (k p w : ℕ) → p < 45 → w ≡ (at p).0 → w ≡ k → number (at p).1 ≡ kind_of k
unfolding known_keys
found k p w h is-w e =
    let t : get_or known_keys p (known 0 short_kind) ≡ numbered (at p) =
    ap (λ (l : List Known). get_or l p (known 0 short_kind)) (sym table-is) ∙ get_or-map numbered KNOWN p (0, Short) in
    let r : right (numbered (at p)) ≡ true = rw t at (all-at right known_keys (known 0 short_kind) each_right p h) in
    sym (eqb-true _ _ r) ∙ ap kind_of (sym is-w ∙ e)

-- at no place, past the table's end, or where another key stands
pub other : (k : ℕ) → IfSome (slot_of k) (λ p. p < 45 → (at p).0 ≡ k → ⊥) → other_kind ≡ kind_of k
other k h = sym (unknown k (go (slot_of k) h))
  where
    go : (o : Option ℕ) → IfSome o (λ p. p < 45 → (at p).0 ≡ k → ⊥) → stands k o ≡ false
    go None h = refl
    go (Some p) h = grind (arith, nat_tests)
