-- Rules over whole tables, each by one test that is computed over the table: the kinds of the 45 keys are document 01's three lists, for every
-- key there is, and each table stands in ascending order, so that the first at fault is the lowest. And how a key row lies in memory, for C. Assumes nothing.
use Prim.Native.Nat.{ℕ, ◌+◌}
use mathlib.Core.Path.{◌≡◌, refl, sym, ap, ◌∙◌}
use mathlib.Core.Bool.{Bool, true, false, cond, false≢true}
use mathlib.Core.List.{List, [], ◌∷◌, ◌++◌, map}
use lib.Dec.{eqb}
use lib.ListN.{length}
use mir.Syntax.{w32}
use mir.Val.{Vals, vstruct, vnil, vcons, vint}
use prog.Memory.{size}
use borrow.Author.Tests.{eqb-true}
use Rattle.paper.specs.Bytes.{build}
use Rattle.paper.specs.Outcome.{kept, ascending}
use Rattle.paper.specs.Tests.{all, some}
use Rattle.paper.specs.Tags.{table}
use Rattle.paper.specs.Keys.{Known, known_keys, kind_in, kind_of, fixed_keys, short_kind, double_kind, ascii_kind, other_kind}
use Rattle.paper.proofs.Laws.{and-eq}
use Rattle.paper.proofs.Computed.{computed}
use Rattle.paper.proofs.Row.TheLaws as InMemory
use Rattle.paper.specs.declared.Row.{Row}

-- ---- document 01's lists

-- from a up to b
abbrev to : ℕ → ℕ → List ℕ
to a k = build (λ i. i) a k

unfoldable pub ascii_keys : List ℕ
ascii_keys = 1026 ∷ 2049 ∷ 3073 ∷ 4097 ∷ []

-- 2057-2059 and 3077-3095 are 3 and 19 in a row
unfoldable pub double_keys : List ℕ
unfolding build
double_keys = 2053 ∷ 2055 ∷ to 2057 3 ++ (2061 ∷ to 3077 19)

-- 2050-2052 and 3074-3076 are 3 in a row
unfoldable pub short_keys : List ℕ
unfolding build
short_keys = 1024 ∷ 1025 ∷ 2048 ∷ to 2050 3 ++ (2054 ∷ 2056 ∷ 2060 ∷ 3072 ∷ to 3074 3 ++ (4096 ∷ 4098 ∷ 4099 ∷ []))

-- as many as the table has
pub forty-five : length known_keys ∷ (length ascii_keys + length double_keys + length short_keys) ∷ [] ≡ 45 ∷ 45 ∷ []
unfolding known_keys ascii_keys double_keys short_keys build
forty-five = refl

-- ---- the lookup

unfoldable pub is_in : ℕ → List ℕ → Bool
is_in k xs = some (λ x. eqb x k) xs

-- the kind, in the document's words
unfoldable pub kind_listed : ℕ → ℕ
kind_listed k = cond (is_in k short_keys) short_kind (cond (is_in k double_keys) double_kind (cond (is_in k ascii_keys) ascii_kind other_kind))

abbrev keys_of : List Known → List ℕ
keys_of xs = map (λ x. x.key) xs

-- a test that passes at each member of a list fails only at what is none
none : (p : ℕ → Bool) (xs : List ℕ) (k : ℕ) → all p xs ≡ true → p k ≡ false → is_in k xs ≡ false
unfolding all is_in some
none p [] k h q = refl
none p (x ∷ xs) k h q = go (eqb x k) refl (none p xs k (and-eq (p x) _ h).1 q)
  where
    go : (b : Bool) → eqb x k ≡ b → is_in k xs ≡ false → is_in k (x ∷ xs) ≡ false
    go true e r = absurd (false≢true (sym q ∙ ap p (sym (eqb-true x k e)) ∙ (and-eq (p x) _ h).0))
    go false e r = rw e r

-- each entry of a table has what `want` says of its key; so has every key that is found there
found : (want : ℕ → ℕ) (xs : List Known) (k : ℕ) → all (λ x. eqb (want x.key) x.kind) xs ≡ true → is_in k (keys_of xs) ≡ true → kind_in k xs ≡ want k
unfolding all is_in some kind_in
found want [] k h q = absurd (false≢true q)
found want (x ∷ xs) k h q = go (eqb x.key k) refl (found want xs k (and-eq (eqb (want x.key) x.kind) _ h).1)
  where
    go : (b : Bool) → eqb x.key k ≡ b → (is_in k (keys_of xs) ≡ true → kind_in k xs ≡ want k) → kind_in k (x ∷ xs) ≡ want k
    go true e r = rw e (sym (eqb-true _ _ (and-eq (eqb (want x.key) x.kind) _ h).0) ∙ ap want (eqb-true x.key k e))
    go false e r = rw e (r (rw e at q))

unfound : (xs : List Known) (k : ℕ) → is_in k (keys_of xs) ≡ false → kind_in k xs ≡ other_kind
unfolding is_in some kind_in
unfound [] k q = refl
unfound (x ∷ xs) k q = go (eqb x.key k) refl (unfound xs k)
  where
    go : (b : Bool) → eqb x.key k ≡ b → (is_in k (keys_of xs) ≡ false → kind_in k xs ≡ other_kind) → kind_in k (x ∷ xs) ≡ other_kind
    go true e r = let w : true ≡ false = rw e at q in absurd (false≢true (sym w))
    go false e r = rw e (r (rw e at q))

unlisted : (k : ℕ) → is_in k (keys_of known_keys) ≡ false → kind_listed k ≡ other_kind
unfolding kind_listed short_keys double_keys ascii_keys build known_keys is_in some all
unlisted k q =
    rw (
      none (λ j. is_in j (keys_of known_keys)) short_keys k refl q,
      none (λ j. is_in j (keys_of known_keys)) double_keys k refl q,
      none (λ j. is_in j (keys_of known_keys)) ascii_keys k refl q,
    )

-- every key has the kind of the list that it stands in, and kind 3 where it stands in none
pub kinds : (k : ℕ) → kind_of k ≡ kind_listed k
unfolding kind_of known_keys kind_listed short_keys double_keys ascii_keys build is_in some all
kinds k = go (is_in k (keys_of known_keys)) refl
  where
    go : (b : Bool) → is_in k (keys_of known_keys) ≡ b → kind_in k known_keys ≡ kind_listed k
    go true q = found kind_listed known_keys k refl q
    go false q = unfound known_keys k q ∙ sym (unlisted k q)

-- ---- the order of the tables

pub known-order : ascending (map (λ x. x.key) known_keys) ≡ kept
unfolding computed
known-order = refl

pub table-order : ascending (map (λ l. l.tag) table) ≡ kept
unfolding computed
table-order = refl

pub fixed-order : ascending (map (λ x. x.key) fixed_keys) ≡ kept
unfolding computed
fixed-order = refl

-- ---- a key row in memory

-- a number of 4 bytes, then others
abbrev then : ℕ → Vals → Vals
then n vs = vcons (vint w32 n) vs

-- rows that C lends are five numbers of 4 bytes each in this order: key, kind, first byte, length, entry
pub row_laid : (r : Row) → InMemory.lowered r ≡ vstruct (then r.key (then r.kind (then r.first (then r.len (then r.entry vnil)))))
row_laid r = refl

pub row-size : size InMemory.mir ≡ 20
row-size = refl
