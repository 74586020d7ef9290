-- Tiled deliveries: file T, which is file A with its picture in one tile, files that differ from T, what the calls answer for each, what may be read,
-- and that the definitions give just that, computed. Assumes nothing.
use Prim.Native.Nat.{ℕ, ◌+◌, ◌*◌}
use mathlib.Core.Path.{◌≡◌, refl}
use mathlib.Core.Bool.{true, false}
use mathlib.Core.List.{List, [], ◌∷◌, ◌++◌, map}
use lib.ListN.{length, replicate}
use lib.Seq.{sets}
use Rattle.paper.specs.Bytes.{enc, build}
use Rattle.paper.specs.Outcome.{verdict}
use Rattle.paper.specs.Pieces.{part}
use Rattle.paper.specs.Judge.{verdict_of, reading_list}
use Rattle.paper.specs.Block.{joined}
use Rattle.paper.specs.Asked.{on_list}
use Rattle.paper.specs.declared.Part.{Part}
use Rattle.paper.proofs.Computed.{computed}
use Rattle.paper.proofs.Spelled.{spelled, spelled_same, table-spelled}
use Rattle.paper.proofs.Kept.{among, always, before, rule12_before, strips, rules_before, verdict_before, carries, verdict-kept}
use Rattle.paper.proofs.Marked.{file_a, shorts, longs, entry, head, ground, keys, halves, area, accepted, refused, Example, answered, Reading, reading, allowed_of}

-- ---- file T

-- a file of the entries es and of A's for scale, tiepoint and keys, whose values stand behind the directory, with the picture's bytes at the end
delivered : List (List ℕ) → List ℕ → List ℕ
unfolding shorts longs entry head ground keys joined
delivered es picture =
    let c : ℕ = length es + 3 in
    let at : ℕ = 14 + 12 * c in
    head
    ++ shorts (c ∷ [])
    ++ joined (λ e. e) es
    ++ entry 33550 12 3 at
    ++ entry 33922 12 6 (at + 24)
    ++ entry 34735 3 16 (at + 72)
    ++ longs (0 ∷ [])
    ++ ground
    ++ keys
    ++ picture

-- 256 to 262, for a width and a length; 277; 322 and 323, for tiles of 16 by 16
front : ℕ → ℕ → List (List ℕ)
unfolding entry
front w l = entry 256 3 1 w ∷ entry 257 3 1 l ∷ entry 258 3 1 8 ∷ entry 259 3 1 1 ∷ entry 262 3 1 1 ∷ []

samples : List ℕ
unfolding entry
samples = entry 277 3 1 1

sides : List (List ℕ)
unfolding entry
sides = entry 322 3 1 16 ∷ entry 323 3 1 16 ∷ []

-- where the one tile lies
lies : ℕ → List (List ℕ)
unfolding entry
lies at = entry 324 4 1 at ∷ entry 325 3 1 8 ∷ []

unfoldable pub file_t : List ℕ
unfolding delivered front samples sides lies
file_t = delivered (front 4 2 ++ samples ∷ sides ++ lies 274) (replicate 8 0)

pub length-T : length file_t ≡ 282
unfolding file_t
length-T = refl

-- T with other bytes from a place on
changed : ℕ → List ℕ → List ℕ
unfolding file_t
changed i bs = sets file_t i bs

-- T with 278 beside its tiles, of a type, and T without its tiles
both : ℕ → List ℕ
unfolding delivered front samples sides lies entry
both type = delivered (front 4 2 ++ samples ∷ entry 278 type 1 2 ∷ sides ++ lies 286) (replicate 8 0)

neither : List ℕ
unfolding delivered front samples
neither = delivered (front 4 2 ++ samples ∷ []) (replicate 8 0)

-- a picture of 17 by 17 in k tiles of 16 by 16, of one byte each: the offsets, the byte counts, the tiles
pub spread : ℕ → List ℕ
unfolding delivered front samples sides entry longs build
spread k =
    delivered (front 17 17 ++ samples ∷ sides ++ entry 324 4 k 274 ∷ entry 325 4 k (274 + 4 * k) ∷ [])
    (longs (build (λ i. 274 + 8 * k + i) 0 k) ++ longs (replicate k 1) ++ replicate k 0)

-- ---- what the calls answer

pub examples : List Example
unfolding accepted refused halves area file_t changed both neither spread delivered front samples sides lies entry enc
examples =
    -- T
    accepted file_t 3 0 area
    -- a strip tag beside the tiles, also of a type that is none; a tile tag beside the strips; tags of neither
    ∷ refused (both 3) 27 0
    ∷ refused (both 13) 27 0
    ∷ refused (delivered (front 4 2 ++ entry 273 3 1 274 ∷ samples ∷ entry 278 3 1 2 ∷ entry 279 3 1 8 ∷ entry 322 3 1 16 ∷ []) (replicate 8 0)) 27 0
    ∷ refused neither 27 0
    -- next offset 8 with tags of both, and of neither: 27 stands before 28
    ∷ refused (sets (both 3) 178 (enc 4 8)) 27 0
    ∷ refused (sets neither 118 (enc 4 8)) 27 0
    -- 256 is 255, so that 256 is absent, with tags of both, and of neither: 27 stands before 9
    ∷ refused (sets (both 3) 10 (enc 2 255)) 27 0
    ∷ refused (sets neither 10 (enc 2 255)) 27 0
    -- no 324; neither 259 nor 324; of the tiles 325 alone
    ∷ refused (delivered (front 4 2 ++ samples ∷ sides ++ entry 325 3 1 8 ∷ []) []) 9 324
    ∷ refused (delivered (entry 256 3 1 4 ∷ entry 257 3 1 2 ∷ entry 258 3 1 8 ∷ entry 262 3 1 1 ∷ samples ∷ sides ++ entry 325 3 1 8 ∷ []) []) 9 259
    ∷ refused (delivered (front 4 2 ++ samples ∷ entry 325 3 1 8 ∷ []) []) 9 322
    -- 324 a SHORT; 325 a BYTE; 322 twice
    ∷ refused (changed 108 (enc 2 3)) 10 324
    ∷ refused (changed 120 (enc 2 1)) 10 325
    ∷ refused (changed 86 (enc 4 2)) 10 322
    -- 322 = 0, 15 and 17; 323 = 17
    ∷ refused (changed 90 (enc 2 0)) 11 322
    ∷ refused (changed 90 (enc 2 15)) 11 322
    ∷ refused (changed 90 (enc 2 17)) 11 322
    ∷ refused (changed 102 (enc 2 17)) 11 323
    -- 322 = 323 = 4294967280, as LONG
    ∷ accepted (sets (changed 84 (enc 2 4 ++ enc 4 1 ++ enc 4 4294967280)) 96 (enc 2 4 ++ enc 4 1 ++ enc 4 4294967280)) 3 0 area
    -- two offsets; two byte counts
    ∷ refused (changed 110 (enc 4 2 ++ enc 4 170)) 12 324
    ∷ refused (changed 122 (enc 4 2)) 12 325
    -- two across times two down is four: the area alone, rounded up once, would be two
    ∷ accepted (spread 4) 3 0 (halves 1000000 8000000 1000017 7999983)
    ∷ refused (spread 2) 12 324
    ∷ refused (spread 3) 12 324
    -- tile at 275, and at 273
    ∷ refused (changed 114 (enc 4 275)) 13 0
    ∷ refused (changed 114 (enc 4 273)) 14 0
    -- the last of four with two bytes; the third at 305
    ∷ refused (sets (spread 4) 302 (enc 4 2)) 13 3
    ∷ refused (sets (spread 4) 282 (enc 4 305)) 14 2
    ∷ []

pub marked : map (λ x. answered x.lent x.file) examples ≡ map (λ x. x.gives) examples
unfolding examples answered spelled computed
marked = table-spelled (λ x. x.file) (λ x. answered x.lent) (λ x. x.gives) examples refl

-- ---- the reading list

-- the whole list, with c entries of which the last three are those of scale, tiepoint and keys, and the others have the values vs
whole : ℕ → List Part → List Part
whole c vs =
    let at : ℕ = 14 + 12 * c in
    part 0 8 ∷ part 8 2 ∷ part 8 (6 + 12 * c) ∷ vs ++ part at 24 ∷ part (at + 24) 48 ∷ part (at + 72) 32 ∷ []

-- the values of 256 to 277
firsts : List Part
firsts = part 18 2 ∷ part 30 2 ∷ part 42 2 ∷ part 54 2 ∷ part 66 2 ∷ part 78 2 ∷ []

-- those of the tiles of T
tiles : List Part
tiles = part 90 2 ∷ part 102 2 ∷ part 114 4 ∷ part 126 2 ∷ []

whole_t : List Part
unfolding whole firsts tiles
whole_t = whole 13 (firsts ++ tiles)

whole_both : List Part
unfolding whole firsts
whole_both = whole 14 (firsts ++ part 90 2 ∷ part 102 2 ∷ part 114 2 ∷ part 126 4 ∷ part 138 2 ∷ [])

-- with verdict 27 the list is that of verdict 9, and with next offset 8 it holds nothing of a mask; with 28 and place 8 it does
pub readings : List Reading
unfolding reading whole firsts tiles whole_t whole_both file_t changed both neither enc
readings =
    reading file_t 0 whole_t
    ∷ reading (changed 166 (enc 4 8)) 28 (whole_t ++ (part 8 2 ∷ part 8 162 ∷ firsts) ++ tiles)
    ∷ reading (both 3) 27 whole_both
    ∷ reading (sets (both 3) 178 (enc 4 8)) 27 whole_both
    ∷ reading neither 27 (whole 9 firsts)
    ∷ reading (sets neither 118 (enc 4 8)) 27 (whole 9 firsts)
    ∷ []

pub allowed : map (λ x. allowed_of x.file) readings ≡ map (λ x. x.gives) readings
unfolding readings allowed_of spelled computed
allowed = table-spelled (λ x. x.file) (λ x. allowed_of) (λ x. x.gives) readings refl

-- of T it is bytes 0 to 273: no byte of the tile
pub listed-T : build (λ i. on_list i (reading_list file_t)) 0 282 ≡ replicate 274 true ++ replicate 8 false
unfolding file_t spelled computed
listed-T = spelled_same file_t (λ f. build (λ i. on_list i (reading_list f)) 0 282)

-- ---- the judgement without C-11

-- it has no tiles, so that T lacks a needed tag
pub before-T : verdict_before file_t ≡ verdict 9 273
unfolding file_t spelled computed among always before rule12_before strips rules_before verdict_before
before-T = spelled_same file_t verdict_before

-- A is a file of strips, whose verdict is the same
pub kept-A : verdict_of file_a ≡ verdict_before file_a
unfolding file_a computed among carries
kept-A = verdict-kept file_a refl refl
