-- Refused files: two faults of one rule, of which the first or the lowest is named; every needed tag left out; every set of scale, tiepoint and matrix
-- that rule 20 refuses; corners that are not finite. Computed. Assumes nothing.
use Prim.Native.Nat.{ℕ, ◌+◌}
use mathlib.Core.Path.{◌≡◌, refl}
use mathlib.Core.Bool.{true, false, not}
use mathlib.Core.List.{List, [], ◌∷◌, ◌++◌, map}
use lib.Dec.{eqb}
use lib.Seq.{sets}
use Rattle.paper.specs.Bytes.{enc}
use Rattle.paper.specs.Outcome.{verdict}
use Rattle.paper.specs.Tests.{some, keep}
use Rattle.paper.specs.Judge.{verdict_of}
use Rattle.paper.proofs.Computed.{computed}
use Rattle.paper.proofs.Spelled.{spelled, table-spelled}
use Rattle.paper.proofs.Marked.{changed}
use Rattle.paper.proofs.Files.{Field, shorts, doubles, laid, front, scale, tiepoint, key, directory, keys_a, fields_a, strip}
use Rattle.examples.proofs.Placed.{placed, turned}
use Rattle.paper.specs.declared.Verdict.{Verdict}

-- a file, and its verdict
pub record Example : Type 0 where
  pub file : List ℕ
  pub gives : Verdict

refused : List ℕ → ℕ → ℕ → Example
refused f k p = record { file = f; gives = verdict k p }

accepted : List ℕ → Example
unfolding refused
accepted f = refused f 0 0

-- ---- layout

-- A with other bytes from each of two places on
twice : ℕ → List ℕ → ℕ → List ℕ → List ℕ
unfolding changed
twice i bs j cs = sets (changed i bs) j cs

pub layout : List Example
unfolding refused changed twice enc
layout =
    -- the second tag 256 and the sixth 262; the second 300, before 258, and the eleventh 5; a pair of equals at the end
    refused (twice 22 (enc 2 256) 70 (enc 2 262)) 6 256
    ∷ refused (twice 22 (enc 2 300) 130 (enc 2 5)) 6 258
    ∷ refused (changed 142 (enc 2 33922)) 6 33922
    -- counts of 256 and 262 are 0; 262 has count 0 and scale starts odd; scale starts at 6 and tiepoint ends past n
    ∷ refused (twice 14 (enc 4 0) 62 (enc 4 0)) 7 256
    ∷ refused (twice 62 (enc 4 0) 126 (enc 4 159)) 7 262
    ∷ refused (twice 126 (enc 4 6) 138 (enc 4 224)) 7 33550
    -- the key directory ends past n, next offset 8: 7 stands before 28
    ∷ refused (twice 150 (enc 4 240) 154 (enc 4 8)) 7 34735
    ∷ []

pub layout-refused : map (λ x. verdict_of x.file) layout ≡ map (λ x. x.gives) layout
unfolding layout spelled computed
layout-refused = table-spelled (λ x. x.file) (λ x. verdict_of) (λ x. x.gives) layout refl

-- ---- tags

-- A without some tags
less : List ℕ → List ℕ
unfolding laid fields_a strip keep some
less ts = laid false (λ at. keep (λ x. not (some (eqb x.tag) ts)) (fields_a at)) strip

-- A without each needed tag, which is then named
lacking : ℕ → Example
unfolding refused less
lacking t = refused (less (t ∷ [])) 9 t

-- a file of A's kind, by the fields of its picture
pictured : (ℕ → List Field) → List ℕ
unfolding laid scale tiepoint keys_a strip
pictured xs = laid false (λ at. xs at ++ scale ∷ tiepoint ∷ keys_a ∷ []) strip

-- a picture of 4 by l: its bits, compression and samples, rows per strip, offsets and byte counts of the strips
picture : ℕ → List ℕ → ℕ → ℕ → ℕ → List ℕ → List ℕ → List ℕ
unfolding pictured shorts
picture l bits coding samples rows offsets counts =
    pictured
    (λ at.
    shorts 256 (4 ∷ [])
    ∷ shorts 257 (l ∷ [])
    ∷ shorts 258 bits
    ∷ shorts 259 (coding ∷ [])
    ∷ shorts 262 (1 ∷ [])
    ∷ shorts 273 (map (λ i. at + i) offsets)
    ∷ shorts 277 (samples ∷ [])
    ∷ shorts 278 (rows ∷ [])
    ∷ shorts 279 counts
    ∷ [])

-- one strip of 8 bytes, and two of 4
one : List ℕ → ℕ → ℕ → List ℕ
unfolding picture
one bits coding samples = picture 2 bits coding samples 2 (0 ∷ []) (8 ∷ [])

two : List ℕ → List ℕ → List ℕ
unfolding picture
two offsets counts = picture 2 (8 ∷ []) 1 1 1 offsets counts

pub tags : List Example
unfolding accepted refused lacking less changed twice one two picture enc
tags =
    map lacking (256 ∷ 257 ∷ 258 ∷ 259 ∷ 262 ∷ 273 ∷ 277 ∷ 278 ∷ 279 ∷ 34735 ∷ [])
    -- two are absent
    ++ refused (less (262 ∷ 257 ∷ [])) 9 257
    -- 256 a BYTE and 258 a LONG; 257 with count 2, and scale a LONG
    ∷ refused (twice 12 (enc 2 1) 36 (enc 2 4)) 10 256
    ∷ refused (twice 26 (enc 4 2) 120 (enc 2 4)) 10 257
    -- 256 = 0 and 262 = 4; the second of two bits is 9
    ∷ refused (twice 18 (enc 2 0) 66 (enc 2 4)) 11 256
    ∷ refused (one (8 ∷ 9 ∷ []) 1 2) 11 258
    -- two samples have two equal bits
    ∷ accepted (one (8 ∷ 8 ∷ []) 1 2)
    ∷ refused (one (8 ∷ 16 ∷ []) 1 2) 12 258
    ∷ refused (one (8 ∷ 8 ∷ []) 1 1) 12 258
    ∷ refused (one (8 ∷ []) 1 2) 12 258
    -- compression 2 and 32773 with one sample of one bit, with 8 bits, and with two samples; with another fault of 258 and of 273
    ∷ accepted (one (1 ∷ []) 2 1)
    ∷ accepted (one (1 ∷ []) 32773 1)
    ∷ accepted (one (1 ∷ 1 ∷ []) 1 2)
    ∷ refused (one (8 ∷ []) 2 1) 12 259
    ∷ refused (one (8 ∷ []) 32773 1) 12 259
    ∷ refused (one (1 ∷ 1 ∷ []) 2 2) 12 259
    ∷ refused (one (1 ∷ 1 ∷ []) 32773 2) 12 259
    ∷ refused (one (8 ∷ []) 2 2) 12 258
    ∷ refused (picture 2 (8 ∷ []) 2 1 1 (0 ∷ []) (8 ∷ [])) 12 259
    -- as many strips as length / rows per strip, rounded up
    ∷ accepted (two (0 ∷ 4 ∷ []) (4 ∷ 4 ∷ []))
    ∷ accepted (picture 2 (8 ∷ []) 1 1 3 (0 ∷ []) (8 ∷ []))
    ∷ refused (picture 3 (8 ∷ []) 1 1 2 (0 ∷ []) (8 ∷ [])) 12 273
    ∷ refused (picture 2 (8 ∷ []) 1 1 2 (0 ∷ 4 ∷ []) (4 ∷ 4 ∷ [])) 12 273
    ∷ refused (two (0 ∷ []) (4 ∷ [])) 12 273
    ∷ refused (two (0 ∷ 4 ∷ []) (4 ∷ [])) 12 279
    ∷ refused (two (0 ∷ 4 ∷ []) (4 ∷ 4 ∷ 4 ∷ [])) 12 279
    -- of two strips both or the second have byte count 0; both or the second end past n
    ∷ refused (two (0 ∷ 4 ∷ []) (0 ∷ 0 ∷ [])) 13 0
    ∷ refused (two (0 ∷ 4 ∷ []) (4 ∷ 0 ∷ [])) 13 1
    ∷ refused (two (1 ∷ 5 ∷ []) (8 ∷ 4 ∷ [])) 13 0
    ∷ refused (two (0 ∷ 5 ∷ []) (8 ∷ 4 ∷ [])) 13 1
    -- a strip at 7, which is on the reading list too, and at 8
    ∷ refused (changed 78 (enc 2 7)) 13 0
    ∷ refused (changed 78 (enc 2 8)) 14 0
    -- of two strips both or the second share a byte with the key directory; strips may share bytes with one another
    ∷ refused (sets (two (0 ∷ 4 ∷ []) (4 ∷ 4 ∷ [])) 78 (enc 2 258 ++ enc 2 260)) 14 0
    ∷ refused (sets (two (0 ∷ 4 ∷ []) (4 ∷ 4 ∷ [])) 80 (enc 2 258)) 14 1
    ∷ accepted (two (0 ∷ 0 ∷ []) (8 ∷ 8 ∷ []))
    ∷ []

pub tags-answered : map (λ x. verdict_of x.file) tags ≡ map (λ x. x.gives) tags
unfolding tags spelled computed
tags-answered = table-spelled (λ x. x.file) (λ x. verdict_of) (λ x. x.gives) tags refl

-- ---- keys

-- A with other keys
keyed : List (List ℕ) → List ℕ
unfolding laid front scale tiepoint directory strip
keyed ks = laid false (λ at. front at ++ scale ∷ tiepoint ∷ directory ks [] ∷ []) strip

pub keys : List Example
unfolding refused keyed key
keys =
    -- 3072, 1025, 1024; 1024 twice and 1025 twice; 1025 twice at the end
    refused (keyed (key 3072 0 1 32633 ∷ key 1025 0 1 1 ∷ key 1024 0 1 1 ∷ [])) 16 1025
    ∷ refused (keyed (key 1024 0 1 1 ∷ key 1024 0 1 1 ∷ key 1025 0 1 1 ∷ key 1025 0 1 1 ∷ [])) 16 1024
    ∷ refused (keyed (key 1024 0 1 1 ∷ key 1025 0 1 1 ∷ key 1025 0 1 1 ∷ [])) 16 1025
    -- 1024 and 3072 with count 2; 1025 at 34735 and 3072 at 34736
    ∷ refused (keyed (key 1024 0 2 1 ∷ key 1025 0 1 1 ∷ key 3072 0 2 32633 ∷ [])) 17 1024
    ∷ refused (keyed (key 1024 0 1 1 ∷ key 1025 34735 1 1 ∷ key 3072 34736 1 0 ∷ [])) 17 1025
    -- no key; 3072 alone; 1024 = 1 alone
    ∷ refused (keyed []) 18 1024
    ∷ refused (keyed (key 3072 0 1 32633 ∷ [])) 18 1024
    ∷ refused (keyed (key 1024 0 1 1 ∷ [])) 18 1025
    -- 1025 = 3 and 3072 = 1; 1024 = 3 and 1025 = 0
    ∷ refused (keyed (key 1024 0 1 1 ∷ key 1025 0 1 3 ∷ key 3072 0 1 1 ∷ [])) 19 1025
    ∷ refused (keyed (key 1024 0 1 3 ∷ key 1025 0 1 0 ∷ [])) 19 1024
    ∷ []

pub keys-refused : map (λ x. verdict_of x.file) keys ≡ map (λ x. x.gives) keys
unfolding keys spelled computed
keys-refused = table-spelled (λ x. x.file) (λ x. verdict_of) (λ x. x.gives) keys refl

-- ---- the place on the ground

-- A's scale and tiepoint with some doubles changed: scale X and Y; the tiepoint's I, J, X and Y
scaled : ℕ → ℕ → ℕ → ℕ → ℕ → ℕ → List ℕ
unfolding placed doubles
scaled sx sy ti tj tx ty =
    placed false (doubles 33550 (sx ∷ sy ∷ 0 ∷ []) ∷ doubles 33922 (ti ∷ tj ∷ 0 ∷ tx ∷ ty ∷ 0 ∷ []) ∷ []) 1

-- 1, 4 and 2; 2 to the 1023rd, the largest double, and infinity
abbrev unit : ℕ
unit = 0x3FF0000000000000

abbrev huge : ℕ
huge = 0x7FE0000000000000

abbrev largest : ℕ
largest = 0x7FEFFFFFFFFFFFFF

abbrev endless : ℕ
endless = 0x7FF0000000000000

pub ground : List Example
unfolding refused placed scale tiepoint turned scaled
ground =
    -- none; one of the three; two of them, or all
    refused (placed false [] 1) 20 0
    ∷ refused (placed false (scale ∷ []) 1) 20 0
    ∷ refused (placed false (tiepoint ∷ []) 1) 20 0
    ∷ refused (placed false (scale ∷ turned ∷ []) 1) 20 0
    ∷ refused (placed false (tiepoint ∷ turned ∷ []) 1) 20 0
    ∷ refused (placed true (scale ∷ tiepoint ∷ turned ∷ []) 1) 20 0
    -- scale Y = 0 and a tiepoint that is not finite; the tiepoint alone
    ∷ refused (scaled unit 0 0 0 endless 0) 21 33550
    ∷ refused (scaled unit unit 0 0 0 endless) 21 33922
    -- one corner coordinate is not finite: X of (4, 2), of (0, 0); Y of (4, 2), of (0, 0); the sum alone is not
    ∷ refused (scaled huge unit 0 0 0 0) 22 0
    ∷ refused (scaled huge unit 0x4010000000000000 0 0 0) 22 0
    ∷ refused (scaled unit huge 0 0 0 0) 22 0
    ∷ refused (scaled unit huge 0 0x4000000000000000 0 0) 22 0
    ∷ refused (scaled 0x7CA0000000000000 unit 0 0 largest 0) 22 0
    ∷ []

pub ground-refused : map (λ x. verdict_of x.file) ground ≡ map (λ x. x.gives) ground
unfolding ground spelled computed
ground-refused = table-spelled (λ x. x.file) (λ x. verdict_of) (λ x. x.gives) ground refl
