-- Both sides of every number of document 01's layout: the head, the count, the sizes of the types, entries and their values, the next offset. Each line
-- is one definition over some numbers, computed. Assumes nothing.
use Prim.Native.Nat.{ℕ, ◌+◌, ◌-◌}
use mathlib.Core.Path.{◌≡◌, refl}
use mathlib.Core.Bool.{Bool, true, false}
use mathlib.Core.List.{List, [], ◌∷◌, ◌++◌, map}
use lib.ListN.{replicate}
use Rattle.paper.specs.Bytes.{build}
use Rattle.paper.specs.Outcome.{Outcome, kept, broken}
use Rattle.paper.specs.Layout.{dir_at, rule1, rule2, rule3, rule4, rule5, size_of, entries, rule6, rule7, next_offset, rule8}
use Rattle.paper.proofs.Computed.{computed}
use Rattle.paper.proofs.Files.{written}
use Rattle.paper.specs.declared.Entry.{Entry}

-- a to b
unfoldable pub to : ℕ → ℕ → List ℕ
unfolding build
to a b = build (λ i. i) a (b + 1 - a)

-- ---- the head

pub rule-1 : map rule1 (0 ∷ 7 ∷ 8 ∷ 9 ∷ 4294967294 ∷ 4294967295 ∷ 4294967296 ∷ [])
    ≡ broken 0 ∷ broken 0 ∷ kept ∷ kept ∷ kept ∷ kept ∷ broken 0 ∷ []
unfolding computed
rule-1 = refl

-- bytes 0 and 1: 49 49 and 4D 4D
pub rule-2 : map (λ b. rule2 (b ∷ b ∷ [])) (0 ∷ 0x48 ∷ 0x49 ∷ 0x4A ∷ 0x4C ∷ 0x4D ∷ 0x4E ∷ [])
    ≡ broken 0 ∷ broken 0 ∷ kept ∷ broken 0 ∷ broken 0 ∷ kept ∷ broken 0 ∷ []
unfolding computed
rule-2 = refl

pub rule-2-mixed : map rule2 ((0x49 ∷ 0x4D ∷ []) ∷ (0x4D ∷ 0x49 ∷ []) ∷ (0x49 ∷ 0 ∷ []) ∷ (0 ∷ 0x4D ∷ []) ∷ [])
    ≡ broken 0 ∷ broken 0 ∷ broken 0 ∷ broken 0 ∷ []
unfolding computed
rule-2-mixed = refl

-- the orders, each with bytes 2 to 7
unfoldable pub heads : ℕ → ℕ → List (List ℕ)
heads a b =
    (0x49 ∷ 0x49 ∷ a ∷ b ∷ 1 ∷ 2 ∷ 3 ∷ 4 ∷ []) ∷ (0x4D ∷ 0x4D ∷ a ∷ b ∷ 1 ∷ 2 ∷ 3 ∷ 4 ∷ []) ∷ []

pub rule-3 : map rule3 (heads 42 0 ++ heads 0 42 ++ heads 41 0 ++ heads 43 0 ++ heads 0 41 ++ heads 0 43 ++ heads 42 1 ++ heads 1 42)
    ≡ kept ∷ broken 0 ∷ broken 0 ∷ kept ∷ replicate 12 (broken 0)
unfolding heads computed
rule-3 = refl

-- the directory's offset, in the file's order
pub offsets : map dir_at (heads 42 0) ≡ 0x04030201 ∷ 0x01020304 ∷ []
unfolding heads computed
offsets = refl

-- in a file of 100 bytes, and of 99
pub rule-4 : map (rule4 100) (0 ∷ 6 ∷ 7 ∷ 8 ∷ 9 ∷ 10 ∷ 96 ∷ 97 ∷ 98 ∷ 99 ∷ 100 ∷ [])
    ≡ broken 0 ∷ broken 0 ∷ broken 0 ∷ kept ∷ broken 0 ∷ kept ∷ kept ∷ broken 0 ∷ kept ∷ broken 0 ∷ broken 0 ∷ []
unfolding computed
rule-4 = refl

pub rule-4-end : map (λ n. rule4 n 98) (99 ∷ 100 ∷ 101 ∷ []) ≡ broken 0 ∷ kept ∷ kept ∷ []
unfolding computed
rule-4-end = refl

-- ---- the count

-- the directory at 8 needs 8 + 2 + 12c + 4 bytes: 26 with one entry, 12,302 with 1,024
pub rule-5 : map (rule5 26 8) (0 ∷ 1 ∷ 2 ∷ []) ++ map (λ n. rule5 n 8 1) (25 ∷ 26 ∷ 27 ∷ [])
    ≡ broken 0 ∷ kept ∷ broken 0 ∷ broken 0 ∷ kept ∷ kept ∷ []
unfolding computed
rule-5 = refl

pub rule-5-most : map (λ n. rule5 n 8 1024) (12301 ∷ 12302 ∷ 12314 ∷ []) ++ map (rule5 20000 8) (1023 ∷ 1024 ∷ 1025 ∷ [])
    ≡ broken 0 ∷ kept ∷ kept ∷ kept ∷ kept ∷ broken 0 ∷ []
unfolding computed
rule-5-most = refl

pub rule-5-at : map (λ at. rule5 100 at 7) (9 ∷ 10 ∷ 11 ∷ []) ≡ kept ∷ kept ∷ broken 0 ∷ []
unfolding computed
rule-5-at = refl

-- ---- entries

-- a directory of entries: tag, type, count and the four bytes of value or offset; then the next offset
unfoldable pub entry : Bool → ℕ → ℕ → ℕ → List ℕ → List ℕ
unfolding written
entry big t y c value = written big 2 t ++ written big 2 y ++ written big 4 c ++ value

unfoldable pub directory : Bool → List ℕ → List ℕ → ℕ → List ℕ
unfolding written
directory big a b next = written big 2 2 ++ a ++ b ++ written big 4 next

unfoldable pub entered : ℕ → ℕ → ℕ → ℕ → ℕ → Entry
entered t y c s l = record { tag = t; typ = y; count = c; start = s; len = l }

-- two entries of a directory at 8, in either order: a value of 4 bytes in the second's bytes 8 to 11, and one of 5 at the offset; no bytes for type 13
pub read : map (λ big. entries big 8 2 (directory big (entry big 258 1 5 (written big 4 0x01020304)) (entry big 513 3 2 (1 ∷ 2 ∷ 3 ∷ 4 ∷ [])) 0)) (false ∷ true ∷ [])
    ++ map (λ big. entries big 100 2 (directory big (entry big 1 13 9 (written big 4 50)) (entry big 2 12 65537 (written big 4 70)) 0)) (false ∷ true ∷ [])
    ≡ (entered 258 1 5 0x01020304 5 ∷ entered 513 3 2 30 4 ∷ [])
    ∷ (entered 258 1 5 0x01020304 5 ∷ entered 513 3 2 30 4 ∷ [])
    ∷ (entered 1 13 9 110 0 ∷ entered 2 12 65537 70 524296 ∷ [])
    ∷ (entered 1 13 9 110 0 ∷ entered 2 12 65537 70 524296 ∷ [])
    ∷ []
unfolding directory entry entered written computed
read = refl

-- types 0 to 13, and the largest
pub sizes : map size_of (to 0 13 ++ 65535 ∷ []) ≡ 0 ∷ 1 ∷ 1 ∷ 2 ∷ 4 ∷ 8 ∷ 1 ∷ 1 ∷ 2 ∷ 4 ∷ 8 ∷ 4 ∷ 8 ∷ 0 ∷ 0 ∷ []
unfolding to computed
sizes = refl

-- tags
unfoldable pub tagged : List ℕ → List Entry
unfolding entered
tagged ts = map (λ t. entered t 1 1 0 1) ts

pub rule-6 : map (λ ts. rule6 (tagged ts)) ((5 ∷ 6 ∷ []) ∷ (5 ∷ 5 ∷ []) ∷ (6 ∷ 5 ∷ []) ∷ (5 ∷ []) ∷ (0 ∷ 1 ∷ 1 ∷ 0 ∷ []) ∷ (0 ∷ 0 ∷ []) ∷ [])
    ≡ kept ∷ broken 5 ∷ broken 5 ∷ kept ∷ broken 1 ∷ broken 0 ∷ []
unfolding tagged entered computed
rule-6 = refl

-- whether n bytes are too few for one entry of a type, a count and an offset: rule 7 names its tag, 300
unfoldable pub seven : ℕ → ℕ → ℕ → ℕ → Outcome
unfolding entry written
seven n y c at = rule7 n (entries false 8 1 (1 ∷ 0 ∷ entry false 300 y c (written false 4 at) ++ 0 ∷ 0 ∷ 0 ∷ 0 ∷ []))

-- nine elements of each type at 100: the least n that is enough, and one less
unfoldable pub enough : ℕ → ℕ → List Outcome
unfolding seven
enough y n = seven (n - 1) y 9 100 ∷ seven n y 9 100 ∷ []

pub rule-7-end : enough 1 109
    ++ enough 2 109
    ++ enough 3 118
    ++ enough 4 136
    ++ enough 5 172
    ++ enough 6 109
    ++ enough 7 109
    ++ enough 8 118
    ++ enough 9 136
    ++ enough 10 172
    ++ enough 11 136
    ++ enough 12 172
    ≡ broken 300 ∷ kept ∷ broken 300 ∷ kept ∷ broken 300 ∷ kept ∷ broken 300 ∷ kept ∷ broken 300 ∷ kept ∷ broken 300 ∷ kept
    ∷ broken 300 ∷ kept ∷ broken 300 ∷ kept ∷ broken 300 ∷ kept ∷ broken 300 ∷ kept ∷ broken 300 ∷ kept ∷ broken 300 ∷ kept ∷ []
unfolding enough seven computed
rule-7-end = refl

-- count 0 is refused for types 1 to 12 and not for another, which has no value
pub rule-7-count : map (λ y. seven 1000 y 0 100) (to 0 13) ≡ kept ∷ replicate 12 (broken 300) ++ kept ∷ []
unfolding to seven computed
rule-7-count = refl

pub rule-7-other : map (λ y. seven 10 y 9 3) (0 ∷ 1 ∷ 12 ∷ 13 ∷ []) ≡ kept ∷ broken 300 ∷ broken 300 ∷ kept ∷ []
unfolding seven computed
rule-7-other = refl

-- five bytes that start at 6 to 10; four bytes, which stand in their entry, whatever these are
pub rule-7-start : map (seven 1000 1 5) (to 6 10) ++ map (seven 1000 1 4) (to 6 10) ≡ broken 300 ∷ broken 300 ∷ kept ∷ broken 300 ∷ kept ∷ replicate 5 kept
unfolding to seven computed
rule-7-start = refl

-- the next offset, behind two entries: each of its four bytes
pub rule-8 : map (λ next. rule8 (next_offset false 2 (directory false (replicate 12 1) (replicate 12 1) next))) (0 ∷ 1 ∷ 256 ∷ 65536 ∷ 16777216 ∷ [])
    ++ map (λ next. rule8 (next_offset true 2 (directory true (replicate 12 1) (replicate 12 1) next))) (0 ∷ 1 ∷ 16777216 ∷ [])
    ≡ kept ∷ broken 0 ∷ broken 0 ∷ broken 0 ∷ broken 0 ∷ kept ∷ broken 0 ∷ broken 0 ∷ []
unfolding directory written computed
rule-8 = refl
