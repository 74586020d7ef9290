-- Both sides of every number of document 01's keys, ground and calls: the key directory's header, locations, counts and indexes by kind, needed keys,
-- allowed values, the doubles of scale, tiepoint and matrix, rules 23 and 24. Each line is one definition over some numbers, computed. Assumes nothing.
use Prim.Native.Nat.{ℕ}
use mathlib.Core.Path.{◌≡◌, refl}
use mathlib.Core.Bool.{Bool, true, false}
use mathlib.Core.List.{List, [], ◌∷◌, ◌++◌, map}
use lib.ListN.{replicate, take}
use lib.Seq.{sets}
use Rattle.paper.specs.Tests.{keep}
use Rattle.paper.specs.Keys.{Runs, keys, rule15, rule16, rule17, rule18, rule19}
use Rattle.paper.specs.Ground.{Survey, rule21}
use Rattle.paper.specs.Calls.{rule23}
use Rattle.paper.specs.Block.{encs, too_far, rule24}
use Rattle.paper.proofs.Computed.{computed}
use Rattle.paper.proofs.Boundaries.{to}
use Rattle.paper.specs.declared.KeyEntry.{KeyEntry}
use Rattle.paper.specs.declared.Outcome.{Outcome}
use Rattle.paper.specs.declared.Outcome.TheVariants.{Kept as kept, Broken as broken}

-- ---- the key directory

-- the directory of some numbers, with nothing else
unfoldable pub numbered : List ℕ → Runs
unfolding computed
numbered ns = record { big = false; directory = encs 2 ns; doubles = []; characters = [] }

-- the first two numbers
pub rule-15 : map (λ ns. rule15 (numbered ns))
    ((1 ∷ 1 ∷ 0 ∷ 0 ∷ []) ∷ (0 ∷ 1 ∷ 0 ∷ 0 ∷ []) ∷ (2 ∷ 1 ∷ 0 ∷ 0 ∷ []) ∷ (1 ∷ 0 ∷ 0 ∷ 0 ∷ []) ∷ (1 ∷ 2 ∷ 0 ∷ 0 ∷ []) ∷ (257 ∷ 1 ∷ 0 ∷ 0 ∷ []) ∷ [])
    ≡ kept ∷ replicate 5 (broken 0)
unfolding numbered computed
rule-15 = refl

-- the minor revision: 0 and 1 alone, and 1 excuses no other number
pub rule-15-minor : map (λ n. rule15 (numbered (1 ∷ 1 ∷ n ∷ 0 ∷ []))) (0 ∷ 1 ∷ 2 ∷ 3 ∷ 256 ∷ 257 ∷ 65535 ∷ [])
    ++ map (λ ns. rule15 (numbered ns)) ((0 ∷ 1 ∷ 1 ∷ 0 ∷ []) ∷ (1 ∷ 0 ∷ 1 ∷ 0 ∷ []) ∷ (1 ∷ 2 ∷ 1 ∷ 0 ∷ []) ∷ (1 ∷ 1 ∷ 1 ∷ 1 ∷ []) ∷ [])
    ≡ kept ∷ kept ∷ replicate 9 (broken 0)
unfolding numbered computed
rule-15-minor = refl

-- count 4 + 4K: K = 0, 1, 256 and 257, with that many numbers, and with one fewer
unfoldable pub sized : ℕ → ℕ → Outcome
unfolding numbered
sized k m = rule15 (numbered (1 ∷ 1 ∷ 0 ∷ k ∷ replicate m 0))

pub rule-15-count : sized 0 0 ∷ sized 1 3 ∷ sized 1 4 ∷ sized 1 5 ∷ sized 2 7 ∷ sized 2 8 ∷ sized 256 1023 ∷ sized 256 1024 ∷ sized 257 1028 ∷ sized 257 2000 ∷ []
    ≡ kept ∷ broken 0 ∷ kept ∷ kept ∷ broken 0 ∷ kept ∷ broken 0 ∷ kept ∷ broken 0 ∷ broken 0 ∷ []
unfolding sized computed
rule-15-count = refl

-- by bytes: under 4 numbers, and a byte left over
pub rule-15-bytes : map (λ n. rule15 (record { big = false; directory = take n (1 ∷ 0 ∷ 1 ∷ 0 ∷ 0 ∷ 0 ∷ 0 ∷ 0 ∷ 0 ∷ []); doubles = []; characters = [] })) (0 ∷ 6 ∷ 7 ∷ 8 ∷ 9 ∷ [])
    ≡ broken 0 ∷ broken 0 ∷ broken 0 ∷ kept ∷ kept ∷ []
unfolding computed
rule-15-bytes = refl

-- key, location, count, index
unfoldable pub key : ℕ → ℕ → ℕ → ℕ → KeyEntry
key k l c i = record { key = k; location = l; count = c; index = i }

-- the entries, in either byte order
pub read : keys (numbered (1 ∷ 1 ∷ 0 ∷ 2 ∷ 1024 ∷ 0 ∷ 1 ∷ 7 ∷ 3072 ∷ 34735 ∷ 515 ∷ 9 ∷ []))
    ∷ keys (record { big = true; directory = 0 ∷ 1 ∷ 0 ∷ 1 ∷ 0 ∷ 0 ∷ 0 ∷ 1 ∷ 4 ∷ 1 ∷ 1 ∷ 2 ∷ 3 ∷ 4 ∷ 5 ∷ 6 ∷ []; doubles = []; characters = [] })
    ∷ []
    ≡ (key 1024 0 1 7 ∷ key 3072 34735 515 9 ∷ []) ∷ (key 1025 258 772 1286 ∷ []) ∷ []
unfolding numbered key computed
read = refl

pub rule-16 : map (λ ks. rule16 (map (λ k. key k 0 1 0) ks)) ((5 ∷ 6 ∷ []) ∷ (5 ∷ 5 ∷ []) ∷ (6 ∷ 5 ∷ []) ∷ (0 ∷ 0 ∷ []) ∷ (0 ∷ 1 ∷ 1 ∷ 0 ∷ []) ∷ [] ∷ [])
    ≡ kept ∷ broken 5 ∷ broken 5 ∷ broken 0 ∷ broken 1 ∷ kept ∷ []
unfolding key computed
rule-16 = refl

-- ---- locations, counts and indexes

-- 10 SHORTs and a byte; 2 doubles and 7 bytes; the characters a, |, {, }, |
unfoldable pub runs : Runs
runs =
    record { big = false; directory = replicate 21 0; doubles = replicate 23 0; characters = 97 ∷ 124 ∷ 123 ∷ 125 ∷ 124 ∷ [] }

-- a key with each location, count and index is in its place
unfoldable pub fits : ℕ → List (ℕ → KeyEntry) → List Outcome
unfolding runs
fits k es = map (λ e. rule17 runs (e k ∷ [])) es

unfoldable pub at : ℕ → ℕ → ℕ → ℕ → KeyEntry
unfolding key
at l c i k = key k l c i

pub rule-17-short : fits 1024 (at 0 1 9 ∷ at 0 0 9 ∷ at 0 2 9 ∷ at 1 1 0 ∷ at 34735 1 0 ∷ at 34736 1 0 ∷ at 34737 1 1 ∷ [])
    ≡ kept ∷ replicate 6 (broken 1024)
unfolding fits at key runs computed
rule-17-short = refl

pub rule-17-double : fits 2057 (at 34736 1 0 ∷ at 34736 1 1 ∷ at 34736 1 2 ∷ at 34736 2 0 ∷ at 34736 0 0 ∷ at 0 1 0 ∷ at 34735 1 0 ∷ at 34737 1 1 ∷ [])
    ≡ kept ∷ kept ∷ replicate 6 (broken 2057)
unfolding fits at key runs computed
rule-17-double = refl

pub rule-17-ascii : fits 1026 (at 34737 1 1 ∷ at 34737 2 0 ∷ at 34737 5 0 ∷ at 34737 1 4 ∷ [])
    ++ fits 1026 (at 34737 1 0 ∷ at 34737 3 0 ∷ at 34737 4 0 ∷ at 34737 6 0 ∷ at 34737 1 5 ∷ at 34737 0 2 ∷ at 34737 0 5 ∷ at 0 1 0 ∷ at 34735 2 0 ∷ at 34736 2 0 ∷ [])
    ≡ kept ∷ kept ∷ kept ∷ kept ∷ replicate 10 (broken 1026)
unfolding fits at key runs computed
rule-17-ascii = refl

pub rule-17-other : fits 5000 (at 0 1 9 ∷ at 34735 1 0 ∷ at 34735 10 0 ∷ at 34735 1 9 ∷ at 34736 2 0 ∷ at 34736 1 1 ∷ at 34737 5 0 ∷ at 34737 1 4 ∷ at 34737 1 0 ∷ [])
    ++ fits 5000 (at 0 0 9 ∷ at 0 2 9 ∷ at 34735 0 0 ∷ at 34735 11 0 ∷ at 34735 1 10 ∷ at 34736 0 0 ∷ at 34736 3 0 ∷ at 34736 1 2 ∷ [])
    ++ fits 5000 (at 34737 0 0 ∷ at 34737 6 0 ∷ at 34737 1 5 ∷ at 1 1 0 ∷ at 34734 1 0 ∷ at 34738 1 0 ∷ [])
    ≡ replicate 9 kept ++ replicate 14 (broken 5000)
unfolding fits at key runs computed
rule-17-other = refl

-- an absent tag has no element
pub rule-17-absent : map (λ e. rule17 (numbered []) (e ∷ [])) (key 2057 34736 1 0 ∷ key 1026 34737 1 0 ∷ key 5000 34735 1 0 ∷ key 5000 34736 1 0 ∷ key 5000 34737 1 0 ∷ [])
    ≡ broken 2057 ∷ broken 1026 ∷ broken 5000 ∷ broken 5000 ∷ broken 5000 ∷ []
unfolding numbered key computed
rule-17-absent = refl

-- ---- needed keys and allowed values

-- SHORT keys with their values
unfoldable pub short : ℕ → ℕ → KeyEntry
unfolding key
short k v = key k 0 1 v

-- with 1024 and 1025 present 3072 is needed for 1, 2048 for 2, none for another
pub rule-18 : map rule18
    ([]
    ∷ (short 1025 1 ∷ short 2048 4326 ∷ short 3072 32633 ∷ [])
    ∷ (short 1024 1 ∷ short 3072 32633 ∷ [])
    ∷ (short 1024 1 ∷ short 1025 1 ∷ [])
    ∷ (short 1024 1 ∷ short 1025 1 ∷ short 2048 4326 ∷ [])
    ∷ (short 1024 1 ∷ short 1025 1 ∷ short 3072 32633 ∷ [])
    ∷ (short 1024 2 ∷ short 1025 1 ∷ [])
    ∷ (short 1024 2 ∷ short 1025 1 ∷ short 3072 32633 ∷ [])
    ∷ (short 1024 2 ∷ short 1025 1 ∷ short 2048 4326 ∷ [])
    ∷ (short 1024 0 ∷ short 1025 1 ∷ [])
    ∷ (short 1024 3 ∷ short 1025 1 ∷ [])
    ∷ [])
    ≡ broken 1024 ∷ broken 1024 ∷ broken 1025 ∷ broken 3072 ∷ broken 3072 ∷ kept ∷ broken 2048 ∷ broken 2048 ∷ kept ∷ kept ∷ kept ∷ []
unfolding short key computed
rule-18 = refl

-- which of some values a key may have, and that a value that it may not have is refused with the key as place
unfoldable pub allowed : ℕ → List ℕ → List ℕ
unfolding short
allowed k vs = keep (λ v. is_kept (rule19 (short k v ∷ []))) vs
  where
    is_kept : Outcome → Bool
    is_kept kept = true
    is_kept (broken p) = false

pub rule-19 : map (λ k. allowed k (to 0 5)) (1024 ∷ 1025 ∷ [])
    ++ allowed 2048 (0 ∷ 4325 ∷ 4326 ∷ 4327 ∷ [])
    ∷ allowed 2054 (0 ∷ 9101 ∷ 9102 ∷ 9103 ∷ [])
    ∷ allowed 3072 (0 ∷ 32600 ∷ 32601 ∷ 32602 ∷ 32660 ∷ 32661 ∷ 32662 ∷ 32700 ∷ 32701 ∷ 32702 ∷ 32760 ∷ 32761 ∷ 32762 ∷ 65535 ∷ [])
    ∷ allowed 3076 (0 ∷ 9000 ∷ 9001 ∷ 9002 ∷ [])
    ∷ allowed 4096 (0 ∷ 3854 ∷ 3855 ∷ 3856 ∷ 4978 ∷ 4979 ∷ 4980 ∷ 5713 ∷ 5714 ∷ 5715 ∷ 5716 ∷ 5772 ∷ 5773 ∷ 5774 ∷ 5797 ∷ 5798 ∷ 5799 ∷ [])
    ∷ map (λ k. allowed k (0 ∷ 1 ∷ 65535 ∷ [])) (1023 ∷ 1026 ∷ 2047 ∷ 2049 ∷ 2053 ∷ 2055 ∷ 3071 ∷ 3073 ∷ 3075 ∷ 3077 ∷ 4095 ∷ 4097 ∷ [])
    ≡ (1 ∷ 2 ∷ [])
    ∷ (1 ∷ 2 ∷ [])
    ∷ (4326 ∷ [])
    ∷ (9102 ∷ [])
    ∷ (32601 ∷ 32602 ∷ 32660 ∷ 32661 ∷ 32701 ∷ 32702 ∷ 32760 ∷ 32761 ∷ [])
    ∷ (9001 ∷ [])
    ∷ (3855 ∷ 4979 ∷ 5714 ∷ 5715 ∷ 5773 ∷ 5798 ∷ [])
    ∷ replicate 12 (0 ∷ 1 ∷ 65535 ∷ [])
unfolding allowed short key to computed
rule-19 = refl

pub rule-19-place : map (λ k. rule19 (short k 0 ∷ [])) (1024 ∷ 1025 ∷ 2048 ∷ 2054 ∷ 3072 ∷ 3076 ∷ 4096 ∷ [])
    ≡ broken 1024 ∷ broken 1025 ∷ broken 2048 ∷ broken 2054 ∷ broken 3072 ∷ broken 3076 ∷ broken 4096 ∷ []
unfolding short key computed
rule-19-place = refl

-- ---- the place on the ground

-- the numbers 1, 1.5 and 2; infinity; not a number
abbrev one : ℕ
one = 0x3FF0000000000000

abbrev endless : ℕ
endless = 0x7FF0000000000000

abbrev strange : ℕ
strange = 0x7FF8000000000001

-- scale and tiepoint, or matrix, by 64 bits each
unfoldable pub survey : List ℕ → List ℕ → List ℕ → Survey
unfolding computed
survey s t m =
    record { big = false; scale = encs 8 s; tiepoint = encs 8 t; matrix = encs 8 m; width = 4; length = 2; point = false }

unfoldable pub scaled : List ℕ → Outcome
unfolding survey
scaled s = rule21 (survey s (replicate 6 0) [])

unfoldable pub tied : ℕ → ℕ → Outcome
unfolding survey
tied i b = rule21 (survey (one ∷ one ∷ 0 ∷ []) (sets (replicate 6 0) i (b ∷ [])) [])

-- (1, 2; 3, 4) with other doubles from a place on, counted from 0
unfoldable pub spanned : ℕ → List ℕ → Outcome
unfolding survey
spanned i bs =
    rule21 (survey [] [] (sets (one ∷ 0x4000000000000000 ∷ 0 ∷ 0 ∷ 0x4008000000000000 ∷ 0x4010000000000000 ∷ replicate 9 0 ++ one ∷ []) i bs))

-- above 0: the least double, and the largest; 0, -0, the least below 0, -1, infinity; the third is only to be finite
pub rule-21-scale : map (λ x. scaled (x ∷ one ∷ 0 ∷ [])) (1 ∷ 0x7FEFFFFFFFFFFFFF ∷ 0 ∷ 0x8000000000000000 ∷ 0x8000000000000001 ∷ 0xBFF0000000000000 ∷ endless ∷ strange ∷ [])
    ++ map (λ y. scaled (one ∷ y ∷ 0 ∷ [])) (1 ∷ 0x7FEFFFFFFFFFFFFF ∷ 0 ∷ 0x8000000000000000 ∷ 0x8000000000000001 ∷ 0xBFF0000000000000 ∷ endless ∷ strange ∷ [])
    ++ map (λ z. scaled (one ∷ one ∷ z ∷ [])) (1 ∷ 0x7FEFFFFFFFFFFFFF ∷ 0 ∷ 0x8000000000000000 ∷ 0x8000000000000001 ∷ 0xBFF0000000000000 ∷ endless ∷ strange ∷ [])
    ≡ kept ∷ kept ∷ replicate 6 (broken 33550) ++ kept ∷ kept ∷ replicate 6 (broken 33550) ++ replicate 6 kept ++ broken 33550 ∷ broken 33550 ∷ []
unfolding scaled survey computed
rule-21-scale = refl

-- each of the six finite or not
pub rule-21-tiepoint : map (λ i. tied i 0xFFEFFFFFFFFFFFFF) (to 0 5) ++ map (λ i. tied i 0xFFF0000000000000) (to 0 5) ++ map (λ i. tied i strange) (to 0 5)
    ≡ replicate 6 kept ++ replicate 12 (broken 33922)
unfolding tied survey to computed
rule-21-tiepoint = refl

-- each of the sixteen is finite; the unused ones are free, and the last four are 0, 0, 0, 1, of which -0 compares equal to 0
pub rule-21-finite : map (λ i. spanned i (endless ∷ [])) (to 0 15) ++ map (λ i. spanned i (one ∷ [])) (2 ∷ 3 ∷ to 6 15)
    ≡ replicate 16 (broken 34264) ++ replicate 8 kept ++ broken 34264 ∷ broken 34264 ∷ broken 34264 ∷ kept ∷ []
unfolding spanned survey to computed
rule-21-finite = refl

pub rule-21-last : map (λ i. spanned i (0x8000000000000000 ∷ [])) (to 12 15) ++ map (λ b. spanned 15 (b ∷ [])) (0x3FEFFFFFFFFFFFFF ∷ one ∷ 0x3FF0000000000001 ∷ [])
    ≡ kept ∷ kept ∷ kept ∷ broken 34264 ∷ broken 34264 ∷ kept ∷ broken 34264 ∷ []
unfolding spanned survey to computed
rule-21-last = refl

-- 1 × 6 and 2 × 3 compare equal; 4 × 1 and 2 × 3 do not; (1 + e) × (1 - e / 2), e the last bit of 1, is rounded to 1 × 1
pub rule-21-products : spanned 5 (0x4018000000000000 ∷ [])
    ∷ spanned 5 (0x4010000000000000 ∷ [])
    ∷ spanned 0 (0x3FF0000000000001 ∷ one ∷ 0 ∷ 0 ∷ one ∷ 0x3FEFFFFFFFFFFFFF ∷ [])
    ∷ spanned 0 (0x3FF0000000000001 ∷ one ∷ 0 ∷ 0 ∷ one ∷ one ∷ [])
    ∷ []
    ≡ broken 34264 ∷ kept ∷ broken 34264 ∷ kept ∷ []
unfolding spanned survey computed
rule-21-products = refl

-- ---- calls

-- rows lent, and K
pub rule-23 : map (λ m. rule23 m 3) (0 ∷ 2 ∷ 3 ∷ 4 ∷ []) ++ rule23 0 0 ∷ [] ≡ broken 3 ∷ broken 3 ∷ kept ∷ kept ∷ kept ∷ []
unfolding computed
rule-23 = refl

-- a start index of 65,535 and of 65,536, at each location; at location 0 the number is a value
pub far : map (λ l. too_far (key 5000 l 1 65535)) (34735 ∷ 34736 ∷ 34737 ∷ 0 ∷ []) ++ map (λ l. too_far (key 5000 l 1 65536)) (34735 ∷ 34736 ∷ 34737 ∷ 0 ∷ [])
    ≡ false ∷ false ∷ false ∷ false ∷ true ∷ true ∷ true ∷ false ∷ []
unfolding key computed
far = refl

-- The arrays of 34735 start behind the entries: with three keys at 16. The third key's array starts at 65,535, and at 65,536; that of doubles and of
-- characters, of which nothing stands before, at as many as the first two have.
unfoldable pub pushed : ℕ → ℕ → ℕ → Outcome
unfolding numbered
pushed l a b = rule24 (numbered (1 ∷ 1 ∷ 0 ∷ 3 ∷ 5000 ∷ l ∷ a ∷ 0 ∷ 5001 ∷ l ∷ b ∷ 0 ∷ 5002 ∷ l ∷ 1 ∷ 0 ∷ []))

pub rule-24 : pushed 34735 30000 35519
    ∷ pushed 34735 30000 35520
    ∷ pushed 34736 30000 35535
    ∷ pushed 34736 30000 35536
    ∷ pushed 34737 65535 0
    ∷ pushed 34737 65535 1
    ∷ []
    ≡ kept ∷ broken 5002 ∷ kept ∷ broken 5002 ∷ kept ∷ broken 5002 ∷ []
unfolding pushed numbered computed
rule-24 = refl
