-- Both sides of every number of the tables of tags, the image's and a mask's: needed tags, types, counts and values; strips or tiles; where pieces may
-- lie. Each line is one definition over some numbers, computed. Assumes nothing.
use Prim.Native.Nat.{ℕ}
use mathlib.Core.Path.{◌≡◌, refl}
use mathlib.Core.Bool.{true, false, cond}
use mathlib.Core.List.{List, [], ◌∷◌, ◌++◌, map}
use lib.Dec.{eqb}
use lib.ListN.{replicate, take}
use Rattle.paper.specs.Tests.{keep}
use Rattle.paper.specs.Tags.{Line, line, table, mask_table, no, any, listed, Held, rule27, offsets_tag, byte_counts_tag, rounded_up, fits_the_line}
use Rattle.paper.specs.Pieces.{part, shares, full_list, Piece, rule13, rule14}
use Rattle.paper.specs.declared.Outcome.TheVariants.{Kept as kept, Broken as broken}
use Rattle.paper.proofs.Computed.{computed}
use Rattle.paper.proofs.Boundaries.{to, entered}

pub tags : map (λ l. l.tag) table
    ≡ 256 ∷ 257 ∷ 258 ∷ 259 ∷ 262 ∷ 273 ∷ 277 ∷ 278 ∷ 279 ∷ 284 ∷ 322 ∷ 323 ∷ 324 ∷ 325 ∷ 33550 ∷ 33922 ∷ 34264 ∷ 34735 ∷ 34736 ∷ 34737 ∷ 50909 ∷ []
unfolding computed
tags = refl

-- needed in a picture of strips, and in one of tiles
pub needed : map (λ tiled. map (λ l. l.tag) (keep (λ l. l.needed tiled) table)) (false ∷ true ∷ [])
    ≡ (256 ∷ 257 ∷ 258 ∷ 259 ∷ 262 ∷ 273 ∷ 277 ∷ 278 ∷ 279 ∷ 34735 ∷ [])
    ∷ (256 ∷ 257 ∷ 258 ∷ 259 ∷ 262 ∷ 277 ∷ 322 ∷ 323 ∷ 324 ∷ 325 ∷ 34735 ∷ [])
    ∷ []
unfolding computed
needed = refl

-- the line of a tag
unfoldable pub no_line : Line
no_line = line 0 no 0 0 0 0 any

unfoldable pub line_of : ℕ → List Line → Line
unfolding no_line
line_of t [] = no_line
line_of t (l ∷ ls) = cond (eqb l.tag t) l (line_of t ls)

-- which of types 0 to 13 a line takes, with a count: one, and the counts of scale, tiepoint, matrix and key directory
unfoldable pub types_at : ℕ → Line → List ℕ
unfolding to entered
types_at c l = keep (λ y. fits_the_line l (entered l.tag y c 0 0)) (to 0 13)

pub types : map (types_at 1) table
    ≡ (3 ∷ 4 ∷ []) ∷ (3 ∷ 4 ∷ []) ∷ (3 ∷ []) ∷ (3 ∷ []) ∷ (3 ∷ []) ∷ (3 ∷ 4 ∷ []) ∷ (3 ∷ []) ∷ (3 ∷ 4 ∷ []) ∷ (3 ∷ 4 ∷ []) ∷ (3 ∷ [])
    ∷ (3 ∷ 4 ∷ []) ∷ (3 ∷ 4 ∷ []) ∷ (4 ∷ []) ∷ (3 ∷ 4 ∷ [])
    ∷ [] ∷ [] ∷ [] ∷ [] ∷ (12 ∷ []) ∷ (2 ∷ []) ∷ (1 ∷ []) ∷ []
unfolding types_at to entered computed
types = refl

pub types_more : types_at 3 (line_of 33550 table)
    ∷ types_at 6 (line_of 33922 table)
    ∷ types_at 16 (line_of 34264 table)
    ∷ types_at 4 (line_of 34735 table)
    ∷ []
    ≡ (12 ∷ []) ∷ (12 ∷ []) ∷ (12 ∷ []) ∷ (3 ∷ []) ∷ []
unfolding types_at line_of to entered computed
types_more = refl

-- which counts each line takes in which type: these are tried
unfoldable pub counts : List ℕ
counts = 0 ∷ 1 ∷ 2 ∷ 3 ∷ 4 ∷ 5 ∷ 6 ∷ 7 ∷ 15 ∷ 16 ∷ 17 ∷ 4294967295 ∷ []

unfoldable pub counts_at : ℕ → Line → List ℕ
unfolding counts entered
counts_at y l = keep (λ c. fits_the_line l (entered l.tag y c 0 0)) counts

-- one; any from one on; any from four on
unfoldable pub only : List ℕ
only = 1 ∷ []

unfoldable pub some : List ℕ
some = 1 ∷ 2 ∷ 3 ∷ 4 ∷ 5 ∷ 6 ∷ 7 ∷ 15 ∷ 16 ∷ 17 ∷ 4294967295 ∷ []

unfoldable pub four : List ℕ
four = 4 ∷ 5 ∷ 6 ∷ 7 ∷ 15 ∷ 16 ∷ 17 ∷ 4294967295 ∷ []

-- as SHORT, LONG, DOUBLE, ASCII, BYTE
pub counts-short : map (counts_at 3) table
    ≡ only ∷ only ∷ some ∷ only ∷ only ∷ some ∷ only ∷ only ∷ some ∷ only ∷ only ∷ only ∷ [] ∷ some ∷ [] ∷ [] ∷ [] ∷ four ∷ [] ∷ [] ∷ [] ∷ []
unfolding counts_at counts only some four entered computed
counts-short = refl

pub counts_long : map (counts_at 4) table
    ≡ only ∷ only ∷ [] ∷ [] ∷ [] ∷ some ∷ [] ∷ only ∷ some ∷ [] ∷ only ∷ only ∷ some ∷ some ∷ [] ∷ [] ∷ [] ∷ [] ∷ [] ∷ [] ∷ [] ∷ []
unfolding counts_at counts only some entered computed
counts_long = refl

pub counts-double : map (counts_at 12) table ≡ replicate 14 [] ++ (3 ∷ []) ∷ (6 ∷ []) ∷ (16 ∷ []) ∷ [] ∷ some ∷ [] ∷ [] ∷ []
unfolding counts_at counts some entered computed
counts-double = refl

pub counts-text : map (counts_at 2) table ++ map (counts_at 1) table ≡ replicate 19 [] ++ some ∷ [] ∷ replicate 20 [] ++ some ∷ []
unfolding counts_at counts some entered computed
counts-text = refl

-- which of some values the line of a tag allows, in a table
unfoldable pub allowed : List Line → ℕ → List ℕ → List ℕ
unfolding line_of
allowed tb t vs = keep (line_of t tb).values vs

pub values : map (λ t. allowed table t (0 ∷ 1 ∷ 2 ∷ 999999 ∷ 1000000 ∷ 1000001 ∷ [])) (256 ∷ 257 ∷ [])
    ++ allowed table 258 (to 0 40)
    ∷ allowed table 259 (to 0 9 ++ 32772 ∷ 32773 ∷ 32774 ∷ [])
    ∷ allowed table 262 (to 0 9)
    ∷ allowed table 277 (to 0 10)
    ∷ allowed table 278 (0 ∷ 1 ∷ 2 ∷ 4294967294 ∷ 4294967295 ∷ [])
    ∷ allowed table 284 (to 0 9)
    ∷ map (λ t. allowed table t (to 0 49 ++ 4294967279 ∷ 4294967280 ∷ 4294967281 ∷ [])) (322 ∷ 323 ∷ [])
    ++ map (λ t. allowed table t (0 ∷ 1 ∷ 4294967295 ∷ [])) (273 ∷ 279 ∷ 324 ∷ 325 ∷ 33550 ∷ 33922 ∷ 34264 ∷ 34735 ∷ 34736 ∷ 34737 ∷ 50909 ∷ [])
    ≡ (1 ∷ 2 ∷ 999999 ∷ 1000000 ∷ [])
    ∷ (1 ∷ 2 ∷ 999999 ∷ 1000000 ∷ [])
    ∷ (1 ∷ 8 ∷ 16 ∷ 32 ∷ [])
    ∷ (1 ∷ 2 ∷ 32773 ∷ [])
    ∷ (0 ∷ 1 ∷ 2 ∷ 3 ∷ [])
    ∷ to 1 8
    ∷ (1 ∷ 2 ∷ 4294967294 ∷ 4294967295 ∷ [])
    ∷ (1 ∷ [])
    ∷ (16 ∷ 32 ∷ 48 ∷ 4294967280 ∷ [])
    ∷ (16 ∷ 32 ∷ 48 ∷ 4294967280 ∷ [])
    ∷ replicate 11 (0 ∷ 1 ∷ 4294967295 ∷ [])
unfolding allowed line_of to computed
values = refl

-- ---- the table of a mask

-- for an image of 4 by 70000, behind the lines of a picture 254
unfoldable pub mask_lines : List Line
unfolding mask_table
mask_lines = mask_table 4 70000

pub mask-needed : map (λ tiled. map (λ l. l.tag) (keep (λ l. l.needed tiled) mask_lines)) (false ∷ true ∷ [])
    ≡ (256 ∷ 257 ∷ 258 ∷ 259 ∷ 262 ∷ 273 ∷ 277 ∷ 278 ∷ 279 ∷ 254 ∷ [])
    ∷ (256 ∷ 257 ∷ 258 ∷ 259 ∷ 262 ∷ 277 ∷ 322 ∷ 323 ∷ 324 ∷ 325 ∷ 254 ∷ [])
    ∷ []
unfolding mask_lines computed
mask-needed = refl

-- the lines of a picture take the types and counts of the image's; 254 is one LONG
pub mask-types : map (types_at 1) mask_lines ≡ map (types_at 1) (take 14 table) ++ (4 ∷ []) ∷ []
unfolding mask_lines types_at to entered computed
mask-types = refl

pub mask-counts : map (counts_at 3) mask_lines ++ map (counts_at 4) mask_lines
    ≡ map (counts_at 3) (take 14 table) ++ [] ∷ map (counts_at 4) (take 14 table) ++ only ∷ []
unfolding mask_lines counts_at counts only entered computed
mask-counts = refl

pub mask-values : allowed mask_lines 254 (to 0 9 ++ 4294967295 ∷ [])
    ∷ allowed mask_lines 256 (0 ∷ 1 ∷ 3 ∷ 4 ∷ 5 ∷ 1000000 ∷ [])
    ∷ allowed mask_lines 257 (1 ∷ 4 ∷ 69999 ∷ 70000 ∷ 70001 ∷ 1000000 ∷ [])
    ∷ allowed mask_lines 258 (to 0 40)
    ∷ allowed mask_lines 259 (to 0 9 ++ 32772 ∷ 32773 ∷ 32774 ∷ [])
    ∷ allowed mask_lines 262 (to 0 9)
    ∷ allowed mask_lines 277 (to 0 10)
    ∷ allowed mask_lines 278 (0 ∷ 1 ∷ 2 ∷ 4294967294 ∷ 4294967295 ∷ [])
    ∷ allowed mask_lines 284 (to 0 9)
    ∷ map (λ t. allowed mask_lines t (to 0 49 ++ 4294967279 ∷ 4294967280 ∷ 4294967281 ∷ [])) (322 ∷ 323 ∷ [])
    ++ map (λ t. allowed mask_lines t (0 ∷ 1 ∷ 4294967295 ∷ [])) (273 ∷ 279 ∷ 324 ∷ 325 ∷ [])
    ≡ (4 ∷ [])
    ∷ (4 ∷ [])
    ∷ (70000 ∷ [])
    ∷ (1 ∷ [])
    ∷ (1 ∷ 2 ∷ 32773 ∷ [])
    ∷ (4 ∷ [])
    ∷ (1 ∷ [])
    ∷ (1 ∷ 2 ∷ 4294967294 ∷ 4294967295 ∷ [])
    ∷ (1 ∷ [])
    ∷ (16 ∷ 32 ∷ 48 ∷ 4294967280 ∷ [])
    ∷ (16 ∷ 32 ∷ 48 ∷ 4294967280 ∷ [])
    ∷ replicate 4 (0 ∷ 1 ∷ 4294967295 ∷ [])
unfolding mask_lines allowed line_of to computed
mask-values = refl

-- its value bytes on the reading list: not those of tags that the image's table has alone
pub mask-listed : map (λ t. listed mask_lines (entered t 4 1 0 4)) (0 ∷ 253 ∷ 254 ∷ 255 ∷ 256 ∷ 284 ∷ 325 ∷ 33550 ∷ 34735 ∷ 50909 ∷ [])
    ≡ false ∷ false ∷ true ∷ false ∷ true ∷ true ∷ true ∷ false ∷ false ∷ false ∷ []
unfolding mask_lines entered computed
mask-listed = refl

-- ---- the reading list

-- the value bytes of an entry are on the reading list: tags of the table and beside it, types 0 to 13
pub listed-tags : map (λ t. listed table (entered t 3 1 0 2)) (0 ∷ 255 ∷ 256 ∷ 260 ∷ 325 ∷ 326 ∷ 50908 ∷ 50909 ∷ 50910 ∷ [])
    ≡ false ∷ false ∷ true ∷ false ∷ true ∷ false ∷ false ∷ true ∷ false ∷ []
unfolding entered computed
listed-tags = refl

pub listed-types : map (λ y. listed table (entered 256 y 1 0 2)) (to 0 13) ≡ false ∷ replicate 12 true ++ false ∷ []
unfolding to entered computed
listed-types = refl

-- ---- strips or tiles

-- entries with tags, and nothing else
unfoldable pub holding : List ℕ → List Held
unfolding entered
holding ts = map (λ t. record { entry = entered t 3 1 0 2; bytes = 0 ∷ 0 ∷ [] }) ts

-- one tag of a family is of that family; one of each is of both; others are of neither
pub rule-27 : map (λ t. rule27 (holding (t ∷ []))) (272 ∷ 273 ∷ 274 ∷ 277 ∷ 278 ∷ 279 ∷ 280 ∷ 321 ∷ 322 ∷ 323 ∷ 324 ∷ 325 ∷ 326 ∷ [])
    ≡ broken 0 ∷ kept ∷ broken 0 ∷ broken 0 ∷ kept ∷ kept ∷ broken 0 ∷ broken 0 ∷ kept ∷ kept ∷ kept ∷ kept ∷ broken 0 ∷ []
unfolding holding entered computed
rule-27 = refl

pub rule-27-both : map (λ t. rule27 (holding (273 ∷ t ∷ []))) (277 ∷ 278 ∷ 279 ∷ 322 ∷ 323 ∷ 324 ∷ 325 ∷ [])
    ≡ kept ∷ kept ∷ kept ∷ broken 0 ∷ broken 0 ∷ broken 0 ∷ broken 0 ∷ []
unfolding holding entered computed
rule-27-both = refl

pub families : map (λ t. offsets_tag (holding (t ∷ []))) (273 ∷ 322 ∷ 325 ∷ []) ++ map (λ t. byte_counts_tag (holding (t ∷ []))) (279 ∷ 323 ∷ 324 ∷ [])
    ≡ 273 ∷ 324 ∷ 324 ∷ 279 ∷ 325 ∷ 325 ∷ []
unfolding holding entered computed
families = refl

pub rounded : map (λ a. rounded_up a 16) (1 ∷ 15 ∷ 16 ∷ 17 ∷ 32 ∷ 33 ∷ []) ++ map (λ b. rounded_up 7 b) (1 ∷ 2 ∷ 3 ∷ 6 ∷ 7 ∷ 8 ∷ [])
    ≡ 1 ∷ 1 ∷ 1 ∷ 2 ∷ 2 ∷ 3 ∷ 7 ∷ 4 ∷ 3 ∷ 2 ∷ 1 ∷ 1 ∷ []
unfolding computed
rounded = refl

-- ---- pieces

-- ten bytes from 20 on, against others: before, touching the first, within, holding, touching the last, behind, and none
pub sharing : map (λ p. shares (part 20 10) p) (part 10 10 ∷ part 10 11 ∷ part 22 3 ∷ part 10 40 ∷ part 29 1 ∷ part 30 5 ∷ part 25 0 ∷ [])
    ≡ false ∷ true ∷ true ∷ true ∷ true ∷ false ∷ false ∷ []
unfolding computed
sharing = refl

unfoldable pub piece : ℕ → ℕ → ℕ → Piece
piece i s l = record { index = i; place = part s l }

-- in a file of 100 bytes
pub rule-13 : map (λ p. rule13 100 (p ∷ [])) (piece 5 8 0 ∷ piece 5 7 1 ∷ piece 5 8 1 ∷ piece 5 8 92 ∷ piece 5 8 93 ∷ piece 5 99 1 ∷ piece 5 100 1 ∷ piece 5 100 0 ∷ [])
    ≡ broken 5 ∷ broken 5 ∷ kept ∷ kept ∷ broken 5 ∷ kept ∷ broken 5 ∷ broken 5 ∷ []
unfolding piece computed
rule-13 = refl

-- the second part, and the second piece
pub rule-14 : map (rule14 (part 0 8 ∷ part 50 2 ∷ [])) ((piece 0 8 42 ∷ piece 1 52 8 ∷ []) ∷ (piece 0 8 42 ∷ piece 1 51 8 ∷ []) ∷ (piece 0 8 43 ∷ piece 1 51 8 ∷ []) ∷ [])
    ≡ kept ∷ broken 1 ∷ broken 0 ∷ []
unfolding piece computed
rule-14 = refl

-- the full list of a directory of 3 entries at 100 that has no values: the first 8 bytes, the count's 2, the directory's 42
pub full : full_list table 100 3 [] ≡ part 0 8 ∷ part 100 2 ∷ part 100 42 ∷ []
unfolding computed
full = refl

-- a piece from 8 up to it, and from its end on; and one byte nearer
pub rule-14-directory : map (λ p. rule14 (full_list table 100 3 []) (p ∷ [])) (piece 0 8 92 ∷ piece 0 142 8 ∷ piece 0 7 8 ∷ piece 0 8 93 ∷ piece 0 141 1 ∷ [])
    ≡ kept ∷ kept ∷ broken 0 ∷ broken 0 ∷ broken 0 ∷ []
unfolding piece computed
rule-14-directory = refl
