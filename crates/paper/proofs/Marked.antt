-- Document 01, 'File A', 'Marked examples', 'Reading list' and 'Errors that tempt': files, what the calls answer for each, what may be read of
-- each, and that the definitions give just that, computed. Assumes nothing.
use Prim.Native.Nat.{ℕ}
use mathlib.Core.Path.{◌≡◌, refl}
use mathlib.Core.Bool.{true, false}
use mathlib.Core.List.{List, [], ◌∷◌, ◌++◌, map}
use lib.ListN.{length, replicate, take}
use lib.Seq.{sets}
use lib.Ieee as Ieee
use lib.Ieee.{Float, fin, binary64}
use lib.IntN.{negsuc}
use Rattle.paper.specs.Bytes.{enc, build}
use Rattle.paper.specs.Outcome.{verdict}
use Rattle.paper.specs.Pieces.{Part, part}
use Rattle.paper.specs.Ground.{of_nat}
use Rattle.paper.specs.Judge.{verdict_of, reading_list}
use Rattle.paper.specs.Calls.{no_corners, judged_of, rows_of, left_rows, cited_of}
use Rattle.paper.specs.Block.{joined, encs}
use Rattle.paper.specs.Asked.{on_list}
use Rattle.paper.proofs.Computed.{computed}
use Rattle.paper.proofs.Spelled.{spelled, spelled_same, table-spelled}
use Rattle.paper.specs.declared.Verdict.{Verdict}
use Rattle.paper.specs.declared.Corners.{Corners}
use Rattle.paper.specs.declared.Judged.{Judged}
use Rattle.paper.specs.declared.Counted.{Counted}
use Rattle.paper.specs.declared.Row.{Row}

-- ---- file A

unfoldable pub shorts : List ℕ → List ℕ
unfolding encs joined enc
shorts ns = encs 2 ns

unfoldable pub longs : List ℕ → List ℕ
unfolding encs joined enc
longs ns = encs 4 ns

unfoldable pub doubles : List ℕ → List ℕ
unfolding encs joined enc
doubles ns = encs 8 ns

-- tag, type, count, value or offset
unfoldable pub entry : ℕ → ℕ → ℕ → ℕ → List ℕ
unfolding shorts longs
entry tag type count value = shorts (tag ∷ type ∷ []) ++ longs (count ∷ value ∷ [])

-- an offset of the directory at 8, and the scale and tiepoint of A
unfoldable pub head : List ℕ
unfolding shorts longs
head = 0x49 ∷ 0x49 ∷ shorts (42 ∷ []) ++ longs (8 ∷ [])

unfoldable pub ground : List ℕ
unfolding doubles
ground =
    doubles (0x3FE0000000000000 ∷ 0x3FE0000000000000 ∷ 0 ∷ [])
    ++ doubles (0 ∷ 0 ∷ 0 ∷ 0x411E848000000000 ∷ 0x414E848000000000 ∷ 0 ∷ [])

-- and its key directory
unfoldable pub keys : List ℕ
unfolding shorts
keys =
    shorts (1 ∷ 1 ∷ 0 ∷ 3 ∷ [])
    ++ shorts (1024 ∷ 0 ∷ 1 ∷ 1 ∷ [])
    ++ shorts (1025 ∷ 0 ∷ 1 ∷ 1 ∷ [])
    ++ shorts (3072 ∷ 0 ∷ 1 ∷ 32633 ∷ [])

unfoldable pub file_a : List ℕ
unfolding shorts longs entry head ground keys
file_a =
    head
    ++ shorts (12 ∷ [])
    ++ entry 256 3 1 4
    ++ entry 257 3 1 2
    ++ entry 258 3 1 8
    ++ entry 259 3 1 1
    ++ entry 262 3 1 1
    ++ entry 273 3 1 262
    ++ entry 277 3 1 1
    ++ entry 278 3 1 2
    ++ entry 279 3 1 8
    ++ entry 33550 12 3 158
    ++ entry 33922 12 6 182
    ++ entry 34735 3 16 230
    ++ longs (0 ∷ [])
    ++ ground
    ++ keys
    ++ replicate 8 0

pub length-A : length file_a ≡ 270
unfolding file_a
length-A = refl

-- A with other bytes from a place on
unfoldable pub changed : ℕ → List ℕ → List ℕ
unfolding file_a
changed i bs = sets file_a i bs

-- ---- the table of marked examples

-- a file, the rows that are lent, and what two calls answer: the judgement its verdict with place, K, the minor revision and the corners, the rows call its
-- verdict and K
pub record Answers : Type 0 where
  pub judged : Counted
  pub minor : ℕ
  pub corners : Corners
  pub rows : Counted

pub record Example : Type 0 where
  pub file : List ℕ
  pub lent : ℕ
  pub gives : Answers

unfoldable pub count : Verdict → ℕ → Counted
count v k = record { verdict = v; keys = k }

-- the same verdict and K from both
unfoldable pub answers : Verdict → ℕ → ℕ → Corners → Answers
unfolding count
answers v k m c = record { judged = count v k; minor = m; corners = c; rows = count v k }

-- k halves, as a double
unfoldable pub half : ℕ → Float
unfolding Ieee.mul Ieee.of_int Ieee.round
half k = Ieee.mul binary64 (of_nat k) (fin false 1 (negsuc 0))

unfoldable pub halves : ℕ → ℕ → ℕ → ℕ → Corners
unfolding half
halves a b c d = record { x0 = half a; y0 = half b; x1 = half c; y1 = half d }

-- (500000, 4000000) and (500002, 3999999)
unfoldable pub area : Corners
unfolding halves
area = halves 1000000 8000000 1000004 7999998

-- (500000, 4000000) and (500001.5, 3999999.5)
point : Corners
unfolding halves
point = halves 1000000 8000000 1000003 7999999

unfoldable pub accepted : List ℕ → ℕ → ℕ → Corners → Example
unfolding answers
accepted f k m c = record { file = f; lent = 256; gives = answers (verdict 0 0) k m c }

unfoldable pub refused : List ℕ → ℕ → ℕ → Example
unfolding answers
refused f k p = record { file = f; lent = 256; gives = answers (verdict k p) 0 0 no_corners }

pub examples : List Example
unfolding accepted refused count area point file_a changed enc
examples =
    -- A
    accepted file_a 3 0 area
    -- 1025 = 2
    ∷ accepted (changed 252 (enc 2 2)) 3 0 point
    -- empty
    ∷ refused [] 1 0
    -- 4D 4D at the start
    ∷ refused (changed 0 (0x4D ∷ 0x4D ∷ [])) 3 0
    -- next offset 8: the image's own directory as a mask, with that next offset
    ∷ refused (changed 154 (enc 4 8)) 28 8
    -- strip at 263, and at 261
    ∷ refused (changed 78 (enc 2 263)) 13 0
    ∷ refused (changed 78 (enc 2 261)) 14 0
    -- minor revision 1: accepted by C-13, and the judgement shows it
    ∷ accepted (changed 234 (enc 2 1)) 3 1 area
    -- minor revision 2
    ∷ refused (changed 234 (enc 2 2)) 15 0
    -- 1024 and 1025 exchanged
    ∷ refused (changed 238 (enc 2 1025 ++ enc 2 0 ++ enc 2 1 ++ enc 2 1 ++ enc 2 1024)) 16 1024
    -- key 1025 at location 34737
    ∷ refused (changed 248 (enc 2 34737)) 17 1025
    -- 1024 = 2
    ∷ refused (changed 244 (enc 2 2)) 18 2048
    -- 3072 = 32662
    ∷ refused (changed 260 (enc 2 32662)) 19 3072
    -- scale X = 0
    ∷ refused (changed 158 (enc 8 0)) 21 33550
    -- two rows lent: the rows call alone refuses, with no K; the judgement of A is as before
    ∷ record { file = file_a; lent = 2; gives = record { judged = count (verdict 0 0) 3; minor = 0; corners = area; rows = count (verdict 23 3) 0 } }
    ∷ []

-- what the definitions answer for a file, with m rows lent
unfoldable pub answered : ℕ → List ℕ → Answers
answered m f =
    let j : Judged = judged_of f in
    record {
      judged = record { verdict = j.verdict; keys = j.keys };
      minor = j.minor;
      corners = j.corners;
      rows = rows_of f m;
    }

pub marked : map (λ x. answered x.lent x.file) examples ≡ map (λ x. x.gives) examples
unfolding examples answered spelled computed
marked = table-spelled (λ x. x.file) (λ x. answered x.lent) (λ x. x.gives) examples refl

-- the rows of A, with four lent: the last keeps its content
unfoldable pub row : ℕ → ℕ → ℕ → ℕ → ℕ → Row
row k n f l e = record { key = k; kind = n; first = f; len = l; entry = e }

pub rows-A : left_rows file_a (replicate 4 (row 7 7 7 7 7)) ≡ row 1024 0 244 2 238 ∷ row 1025 0 252 2 246 ∷ row 3072 0 260 2 254 ∷ row 7 7 7 7 7 ∷ []
unfolding file_a spelled computed row
rows-A = spelled_same file_a (λ f. left_rows f (replicate 4 (row 7 7 7 7 7)))

-- ---- the reading list

-- a file, and what may be read of it: the number of its verdict, and the whole list
pub record Allowed : Type 0 where
  pub number : ℕ
  pub list : List Part

pub record Reading : Type 0 where
  pub file : List ℕ
  pub gives : Allowed

unfoldable pub reading : List ℕ → ℕ → List Part → Reading
reading f k ps = record { file = f; gives = record { number = k; list = ps } }

-- the first 8 bytes; the count's two; the directory's 150
head8 : List Part
head8 = part 0 8 ∷ []

count2 : List Part
unfolding head8
count2 = head8 ++ part 8 2 ∷ []

dir150 : List Part
unfolding count2
dir150 = count2 ++ part 8 150 ∷ []

-- the values of A behind the width: eight more in their entries, then scale, tiepoint and key directory
inside : List Part
inside = part 30 2 ∷ part 42 2 ∷ part 54 2 ∷ part 66 2 ∷ part 78 2 ∷ part 90 2 ∷ part 102 2 ∷ part 114 2 ∷ []

others : List Part
unfolding inside
others = inside ++ part 158 24 ∷ part 182 48 ∷ part 230 32 ∷ []

unfoldable pub whole : List Part
unfolding dir150 others
whole = dir150 ++ part 18 2 ∷ others

pub readings : List Reading
unfolding reading head8 count2 dir150 inside others whole file_a changed enc
readings =
    reading file_a 0 whole
    -- empty, and 7 bytes: all n
    ∷ reading [] 1 (part 0 0 ∷ [])
    ∷ reading (take 7 file_a) 1 (part 0 7 ∷ [])
    -- 4D 49 and 4D 4D at the start, directory offset 9
    ∷ reading (changed 0 (0x4D ∷ [])) 2 head8
    ∷ reading (changed 0 (0x4D ∷ 0x4D ∷ [])) 3 head8
    ∷ reading (changed 4 (enc 4 9)) 4 head8
    -- no entries
    ∷ reading (changed 8 (enc 2 0)) 5 count2
    -- the first entry with tag 258, and with count 0
    ∷ reading (changed 10 (enc 2 258)) 6 dir150
    ∷ reading (changed 14 (enc 4 0)) 7 dir150
    -- next offset 8: the directory again as that of a mask, with the values of the tags of a mask's table
    ∷ reading (changed 154 (enc 4 8)) 28 (whole ++ part 8 2 ∷ part 8 150 ∷ part 18 2 ∷ inside)
    -- the first entry with tag 255, which is not in the table, and with type 13: it has no value on the list
    ∷ reading (changed 10 (enc 2 255)) 9 (dir150 ++ others)
    ∷ reading (changed 12 (enc 2 13)) 10 (dir150 ++ others)
    -- scale X = 0
    ∷ reading (changed 158 (enc 8 0)) 21 whole
    ∷ []

-- what the definitions allow
unfoldable pub allowed_of : List ℕ → Allowed
allowed_of f = record { number = (verdict_of f).number; list = reading_list f }

pub allowed : map (λ x. allowed_of x.file) readings ≡ map (λ x. x.gives) readings
unfolding readings allowed_of spelled computed
allowed = table-spelled (λ x. x.file) (λ x. allowed_of) (λ x. x.gives) readings refl

-- of A it is bytes 0 to 261
pub listed-A : build (λ i. on_list i (reading_list file_a)) 0 270 ≡ replicate 262 true ++ replicate 8 false
unfolding file_a spelled computed
listed-A = spelled_same file_a (λ f. build (λ i. on_list i (reading_list f)) 0 270)

-- ---- errors that tempt

-- a strip whose end, 2 to the 32nd, is 0 in 32 bits; a scale Y of -0.5
pub tempting : List Example
unfolding refused file_a changed enc
tempting =
    refused (sets (changed 72 (enc 2 4)) 78 (enc 4 4294967288)) 13 0
    ∷ refused (changed 166 (enc 8 0xBFE0000000000000)) 21 33550
    ∷ []

pub tempted : map (λ x. answered x.lent x.file) tempting ≡ map (λ x. x.gives) tempting
unfolding tempting answered spelled computed
tempted = table-spelled (λ x. x.file) (λ x. answered x.lent) (λ x. x.gives) tempting refl

-- A with two doubles, of which a key has the second, and with the characters ab|, which stand in their entry
pub file_b : List ℕ
unfolding shorts longs doubles entry head ground
file_b =
    head
    ++ shorts (14 ∷ [])
    ++ entry 256 3 1 4
    ++ entry 257 3 1 2
    ++ entry 258 3 1 8
    ++ entry 259 3 1 1
    ++ entry 262 3 1 1
    ++ entry 273 3 1 318
    ++ entry 277 3 1 1
    ++ entry 278 3 1 2
    ++ entry 279 3 1 8
    ++ entry 33550 12 3 182
    ++ entry 33922 12 6 206
    ++ entry 34735 3 24 254
    ++ entry 34736 12 2 302
    ++ entry 34737 2 3 0x7C6261
    ++ longs (0 ∷ [])
    ++ ground
    ++ shorts (1 ∷ 1 ∷ 0 ∷ 5 ∷ [])
    ++ shorts (1024 ∷ 0 ∷ 1 ∷ 1 ∷ [])
    ++ shorts (1025 ∷ 0 ∷ 1 ∷ 1 ∷ [])
    ++ shorts (1026 ∷ 34737 ∷ 3 ∷ 0 ∷ [])
    ++ shorts (2057 ∷ 34736 ∷ 1 ∷ 1 ∷ [])
    ++ shorts (3072 ∷ 0 ∷ 1 ∷ 32633 ∷ [])
    ++ doubles (0x41583FC410000000 ∷ 0x415854A640000000 ∷ [])
    ++ replicate 8 0

pub rows-B : left_rows file_b (replicate 5 (row 0 0 0 0 0))
    ≡ row 1024 0 268 2 262 ∷ row 1025 0 276 2 270 ∷ row 1026 2 174 3 278 ∷ row 2057 1 310 8 286 ∷ row 3072 0 300 2 294 ∷ []
unfolding file_b spelled computed row
rows-B = spelled_same file_b (λ f. left_rows f (replicate 5 (row 0 0 0 0 0)))

pub judged-B : (judged_of file_b).keys ≡ 5
unfolding file_b spelled computed
judged-B = spelled_same file_b (λ f. (judged_of f).keys)

-- the citation lies in its entry, and has no "|"
pub cited-B : cited_of file_b 1026 ≡ record { verdict = verdict 0 0; start = 174; len = 2 }
unfolding file_b spelled computed
cited-B = spelled_same file_b (λ f. cited_of f 1026)
