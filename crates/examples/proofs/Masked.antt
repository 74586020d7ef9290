-- Files with a mask: file N, which is file A with a mask of one strip behind it, and others with masks in strips and in tiles; what the calls answer for
-- each, files that differ from N, and what may be read of a file of each stage. Computed. Assumes nothing.
use Prim.Native.Nat.{ℕ, ◌+◌}
use mathlib.Core.Path.{◌≡◌, refl}
use mathlib.Core.Bool.{Bool, true, false, not}
use mathlib.Core.List.{List, [], ◌∷◌, ◌++◌, map}
use lib.Dec.{eqb}
use lib.ListN.{length, replicate, take}
use lib.Seq.{sets}
use Rattle.paper.specs.Bytes.{enc, build}
use Rattle.paper.specs.Outcome.{verdict}
use Rattle.paper.specs.Tests.{keep}
use Rattle.paper.specs.Pieces.{part}
use Rattle.paper.specs.Judge.{verdict_of, reading_list}
use Rattle.paper.specs.Calls.{rows_of, cited_of, text_of}
use Rattle.paper.specs.Block.{block_of}
use Rattle.paper.specs.Asked.{on_list}
use Rattle.paper.proofs.Computed.{computed}
use Rattle.paper.proofs.Spelled.{spelled, spelled_same, table-spelled}
use Rattle.paper.proofs.Marked.{area, accepted, refused, Example as Answered, answered, whole}
use Rattle.paper.proofs.Files.{Field, bytes, shorts, longs, laid, followed, fields_a, strip}
use Rattle.examples.proofs.Faults.{Example}
use Rattle.examples.proofs.Tiled.{file_t}
use Rattle.paper.specs.declared.Verdict.{Verdict}
use Rattle.paper.specs.declared.Part.{Part}

-- ---- file N

-- 254 to 262 of a mask of 4 by 2, and 277
unfoldable pub lead : List Field
unfolding shorts longs
lead =
    longs 254 (4 ∷ [])
    ∷ shorts 256 (4 ∷ [])
    ∷ shorts 257 (2 ∷ [])
    ∷ shorts 258 (1 ∷ [])
    ∷ shorts 259 (1 ∷ [])
    ∷ shorts 262 (4 ∷ [])
    ∷ []

one : Field
unfolding shorts
one = shorts 277 (1 ∷ [])

-- its picture in one strip, in two, and in one tile, of two bytes in all
unfoldable pub in_strip : ℕ → List Field
unfolding lead one shorts
in_strip at = lead ++ shorts 273 (at ∷ []) ∷ one ∷ shorts 278 (2 ∷ []) ∷ shorts 279 (2 ∷ []) ∷ []

in_strips : ℕ → List Field
unfolding lead one shorts longs
in_strips at = lead ++ longs 273 (at ∷ (at + 1) ∷ []) ∷ one ∷ shorts 278 (1 ∷ []) ∷ shorts 279 (1 ∷ 1 ∷ []) ∷ []

in_tile : ℕ → List Field
unfolding lead one shorts longs
in_tile at = lead ++ one ∷ shorts 322 (16 ∷ []) ∷ shorts 323 (16 ∷ []) ∷ longs 324 (at ∷ []) ∷ shorts 325 (2 ∷ []) ∷ []

-- A with a mask behind it, whose directory stands at 270
masked : Bool → (ℕ → List Field) → List ℕ
unfolding followed laid fields_a strip
masked big fields = followed big (laid big fields_a strip) 154 fields (replicate 2 0)

-- T with one, at 282
masked_t : (ℕ → List Field) → List ℕ
unfolding followed file_t
masked_t fields = followed false file_t 166 fields (replicate 2 0)

unfoldable pub file_n : Bool → List ℕ
unfolding masked in_strip
file_n big = masked big in_strip

pub length-N : length (file_n false) ≡ 398
unfolding file_n
length-N = refl

-- N with other bytes from a place on, and from each of two
pub changed : ℕ → List ℕ → List ℕ
unfolding file_n
changed i bs = sets (file_n false) i bs

twice : ℕ → List ℕ → ℕ → List ℕ → List ℕ
unfolding changed
twice i bs j cs = sets (changed i bs) j cs

-- ---- what the calls answer

-- an accepted file gives what A gives
same : List ℕ → Answered
unfolding accepted area
same f = accepted f 3 0 area

pub pictures : List Answered
unfolding same refused changed enc file_n masked masked_t in_strip in_strips in_tile
pictures =
    -- either order, in a strip and in a tile; in strips; behind an image in a tile
    map (λ big. same (file_n big)) (false ∷ true ∷ [])
    ++ map (λ big. same (masked big in_tile)) (false ∷ true ∷ [])
    ++ same (masked true in_strips)
    ∷ same (masked_t in_strip)
    ∷ same (masked_t in_tile)
    -- next offset of the mask 8
    ∷ refused (changed 392 (enc 4 8)) 28 8
    ∷ []

pub pictures-answered : map (λ x. answered x.lent x.file) pictures ≡ map (λ x. x.gives) pictures
unfolding pictures answered spelled computed
pictures-answered = table-spelled (λ x. x.file) (λ x. answered x.lent) (λ x. x.gives) pictures refl

-- ---- files that differ from N

-- an accepted file; one whose mask breaks a rule; one that is refused by another rule
good : List ℕ → Example
good f = record { file = f; gives = verdict 0 0 }

bad : ℕ → List ℕ → Example
bad p f = record { file = f; gives = verdict 28 p }

other : ℕ → ℕ → List ℕ → Example
other k p f = record { file = f; gives = verdict k p }

-- The next offset of A stands at 154, and A's strip is at 262. The mask's directory stands at 270: the count, the entries of 254, 256, 257, 258, 259, 262,
-- 273, 277, 278 and 279 from 272 on, of 12 bytes each, and its next offset at 392. Its strip is at 396.
pub layout : List Example
unfolding good bad other masked changed twice in_strip lead one shorts enc
layout =
    -- next offset 6, 398, which is the end, and 396, where two bytes 0 are
    bad 4 (changed 154 (enc 4 6))
    ∷ bad 4 (changed 154 (enc 4 398))
    ∷ bad 5 (changed 154 (enc 4 396))
    -- one entry more, which ends past the end; the file ends with the directory, and the mask has bytes of the image
    ∷ bad 5 (changed 270 (enc 2 11))
    ∷ good (take 396 (changed 352 (enc 2 268)))
    -- 258 before 257
    ∷ bad 6 (changed 284 (enc 2 258))
    -- next offset of the mask 270, and no 254: 8 stands before 9
    ∷ bad 8 (twice 272 (enc 2 253) 392 (enc 4 270))
    -- tags of both families; of neither; of neither and no 254: 27 stands before 9
    ∷ bad 27 (masked false (λ at. in_strip at ++ shorts 322 (16 ∷ []) ∷ []))
    ∷ bad 27 (masked false (λ at. lead ++ one ∷ []))
    ∷ bad 27 (sets (masked false (λ at. lead ++ one ∷ [])) 272 (enc 2 253))
    -- scale X = 0, or strip of the image at 261, and next offset 271: the image stands before the mask
    ∷ other 21 33550 (twice 158 (enc 8 0) 154 (enc 4 271))
    ∷ other 14 0 (twice 78 (enc 2 261) 154 (enc 4 271))
    ∷ []

pub layout-judged : map (λ x. verdict_of x.file) layout ≡ map (λ x. x.gives) layout
unfolding layout spelled computed
layout-judged = table-spelled (λ x. x.file) (λ x. verdict_of) (λ x. x.gives) layout refl

-- a mask without a tag
less : (ℕ → List Field) → ℕ → List ℕ
unfolding masked keep
less fields t = masked false (λ at. keep (λ x. not (eqb x.tag t)) (fields at))

pub tags : List Example
unfolding good bad file_n masked changed less in_strip in_tile shorts bytes enc
tags =
    -- without 258, without 324
    bad 9 (less in_strip 258)
    ∷ bad 9 (less in_tile 324)
    -- 254 a SHORT; 256 a LONG, which it may be
    ∷ bad 10 (changed 274 (enc 2 3))
    ∷ good (changed 286 (enc 2 4))
    -- 254 = 2; 256 = 5, in either order; 257 = 3; 258 = 8; 259 = 8, and 2; 262 = 1; 277 = 2; 284 = 1, and 2
    ∷ bad 11 (changed 280 (enc 4 2))
    ∷ bad 11 (changed 292 (enc 2 5))
    ∷ bad 11 (sets (file_n true) 292 (0 ∷ 5 ∷ []))
    ∷ bad 11 (changed 304 (enc 2 3))
    ∷ bad 11 (changed 316 (enc 2 8))
    ∷ bad 11 (changed 328 (enc 2 8))
    ∷ good (changed 328 (enc 2 2))
    ∷ bad 11 (changed 340 (enc 2 1))
    ∷ bad 11 (changed 364 (enc 2 2))
    ∷ good (masked false (λ at. in_strip at ++ shorts 284 (1 ∷ []) ∷ []))
    ∷ bad 11 (masked false (λ at. in_strip at ++ shorts 284 (2 ∷ []) ∷ []))
    -- two of 258, both 1, and the second 8; two of 273; two of 279
    ∷ bad 12 (changed 312 (enc 4 2 ++ enc 2 1 ++ enc 2 1))
    ∷ bad 11 (changed 312 (enc 4 2 ++ enc 2 1 ++ enc 2 8))
    ∷ bad 12 (changed 348 (enc 4 2 ++ enc 2 396 ++ enc 2 396))
    ∷ bad 12 (changed 384 (enc 4 2 ++ enc 2 1 ++ enc 2 1))
    -- tags that are in the image's table alone: 33550 a SHORT, 34735 with a wrong key directory and of a type that is none, 50909 twice as SHORT; 50910 twice
    ∷ good (masked false (λ at. in_strip at ++ shorts 33550 (0 ∷ []) ∷ shorts 34735 (9 ∷ []) ∷ []))
    ∷ good (sets (masked false (λ at. in_strip at ++ shorts 34735 (1 ∷ 1 ∷ []) ∷ [])) 394 (enc 2 13 ++ enc 4 0))
    ∷ good (masked false (λ at. in_strip at ++ shorts 50909 (1 ∷ []) ∷ shorts 50909 (2 ∷ []) ∷ []))
    ∷ bad 6 (masked false (λ at. in_strip at ++ bytes 50910 (1 ∷ []) ∷ bytes 50910 (2 ∷ []) ∷ []))
    ∷ []

pub tags-judged : map (λ x. verdict_of x.file) tags ≡ map (λ x. x.gives) tags
unfolding tags spelled computed
tags-judged = table-spelled (λ x. x.file) (λ x. verdict_of) (λ x. x.gives) tags refl

-- a mask with a key directory of 8 bytes at 408, which nobody looks for, and its strip at 416
keyed : List ℕ
unfolding masked in_strip shorts
keyed = masked false (λ at. in_strip at ++ shorts 34735 (9 ∷ 9 ∷ 9 ∷ 9 ∷ []) ∷ [])

-- a mask in two strips, whose offsets stand at 396, and whose strips are at 404 and 405
split : List ℕ
unfolding masked in_strips
split = masked false in_strips

pub places : List Example
unfolding good bad masked changed twice keyed split lead one in_tile shorts longs enc
places =
    -- byte count 0; one byte past the end; offset 7
    bad 13 (changed 388 (enc 2 0))
    ∷ bad 13 (changed 388 (enc 2 3))
    ∷ bad 13 (changed 352 (enc 2 7))
    -- the mask's strip on the first byte of its own directory, and beside it
    ∷ bad 14 (changed 352 (enc 2 269))
    ∷ good (changed 352 (enc 2 268))
    -- on the image's directory, on the image's keys, and behind them, where it shares bytes with the image's strip; a tile on the keys
    ∷ bad 14 (changed 352 (enc 2 8))
    ∷ bad 14 (changed 352 (enc 2 261))
    ∷ good (changed 352 (enc 2 262))
    ∷ bad 14 (sets (masked false in_tile) 388 (enc 4 261))
    -- the image's strip on the end of the mask's directory, and behind it, where it is the mask's strip
    ∷ bad 14 (changed 78 (enc 2 388))
    ∷ good (twice 78 (enc 2 396) 114 (enc 2 2))
    -- the image's strip on the offsets of the mask; the second strip of the mask on them, and on the first
    ∷ bad 14 (sets split 78 (enc 2 396))
    ∷ bad 14 (sets split 400 (enc 4 403))
    ∷ good (sets split 400 (enc 4 404))
    -- both strips on the key directory of the mask; that at 409, and past the end
    ∷ good (sets keyed 78 (enc 2 408))
    ∷ good (sets keyed 352 (enc 2 408))
    ∷ bad 7 (sets keyed 400 (enc 4 409))
    ∷ bad 7 (sets keyed 400 (enc 4 412))
    -- the byte counts of the mask, 1 and 2, are those of a count and a value in the image's directory
    ∷ good (sets (masked false (λ at. lead ++ shorts 273 (262 ∷ 262 ∷ []) ∷ one ∷ shorts 278 (1 ∷ []) ∷ longs 279 (9 ∷ 9 ∷ []) ∷ [])) 388 (enc 4 26))
    ∷ []

pub places-judged : map (λ x. verdict_of x.file) places ≡ map (λ x. x.gives) places
unfolding places spelled computed
places-judged = table-spelled (λ x. x.file) (λ x. verdict_of) (λ x. x.gives) places refl

-- with two rows lent, no such key or text asked, and no room for a block: an accepted file has each call's own number, and of a broken mask 28 stands before
-- them
pub verdicts : List ℕ → List Verdict
verdicts f = (rows_of f 2).verdict ∷ (cited_of f 1026).verdict ∷ (text_of f 5 0).verdict ∷ (block_of f 0).verdict ∷ []

pub own-numbers : verdicts (file_n false) ≡ verdict 23 3 ∷ verdict 26 1026 ∷ verdict 29 5 ∷ verdict 25 32 ∷ []
unfolding verdicts file_n spelled computed
own-numbers = spelled_same (file_n false) verdicts

pub own-mask : verdicts (changed 392 (enc 4 8)) ≡ replicate 4 (verdict 28 8)
unfolding verdicts changed spelled computed
own-mask = spelled_same (changed 392 (enc 4 8)) verdicts

-- ---- the reading list

-- the directory of N's mask: the count's two bytes, its 126, the value of 254, those behind it
mask2 : List Part
mask2 = part 270 2 ∷ []

mask126 : List Part
unfolding mask2
mask126 = mask2 ++ part 270 126 ∷ []

behind : List Part
behind = part 292 2 ∷ part 304 2 ∷ part 316 2 ∷ part 328 2 ∷ part 340 2 ∷ part 352 2 ∷ part 364 2 ∷ part 376 2 ∷ part 388 2 ∷ []

mask_whole : List Part
unfolding mask126 behind
mask_whole = mask126 ++ part 280 4 ∷ behind

-- a file, its verdict, and the whole list
pub record Reading : Type 0 where
  pub file : List ℕ
  pub gives : Verdict × List Part

reading : List ℕ → ℕ → ℕ → List Part → Reading
reading f k p ps = record { file = f; gives = (verdict k p, ps) }

pub readings : List Reading
unfolding reading whole mask2 mask126 behind mask_whole file_n changed keyed enc
readings =
    reading (file_n false) 0 0 (whole ++ mask_whole)
    ∷ reading (file_n true) 0 0 (whole ++ mask_whole)
    -- the mask's key directory has no value
    ∷ reading keyed 0 0 (whole ++ mask2 ++ part 270 138 ∷ part 280 4 ∷ behind)
    -- next offset 271; no entries; 254 twice; 256 with count 0
    ∷ reading (changed 154 (enc 4 271)) 28 4 whole
    ∷ reading (changed 270 (enc 2 0)) 28 5 (whole ++ mask2)
    ∷ reading (changed 284 (enc 2 254)) 28 6 (whole ++ mask126)
    ∷ reading (changed 288 (enc 4 0)) 28 7 (whole ++ mask126)
    -- the mask's own next offset; no 254, which has no value then; the mask's strip on the last byte of its directory, and the image's on the first
    ∷ reading (changed 392 (enc 4 8)) 28 8 (whole ++ mask_whole)
    ∷ reading (changed 272 (enc 2 253)) 28 9 (whole ++ mask126 ++ behind)
    ∷ reading (changed 352 (enc 2 395)) 28 14 (whole ++ mask_whole)
    ∷ reading (changed 78 (enc 2 263)) 28 14 (whole ++ mask_whole)
    -- scale X = 0: nothing of the mask
    ∷ reading (changed 158 (enc 8 0)) 21 33550 whole
    ∷ []

pub allowed : map (λ x. (verdict_of x.file, reading_list x.file)) readings ≡ map (λ x. x.gives) readings
unfolding readings spelled computed
allowed = table-spelled (λ x. x.file) (λ x f. (verdict_of f, reading_list f)) (λ x. x.gives) readings refl

-- of N it is all but the two strips
pub listed-N : build (λ i. on_list i (reading_list (file_n false))) 0 398 ≡ replicate 262 true ++ replicate 8 false ++ replicate 126 true ++ replicate 2 false
unfolding file_n spelled computed
listed-N = spelled_same (file_n false) (λ f. build (λ i. on_list i (reading_list f)) 0 398)
