-- Files with tag 50909 more than once: what the calls answer for one with three metadata texts, in either byte order, what may be read of it, and files
-- that differ from it. Computed. Assumes nothing.
use Prim.Native.Nat.{ℕ}
use mathlib.Core.Path.{◌≡◌, refl}
use mathlib.Core.Bool.{Bool, true, false}
use mathlib.Core.List.{List, [], ◌∷◌, ◌++◌, map}
use lib.ListN.{length}
use lib.Seq.{sets}
use Rattle.paper.specs.Bytes.{enc}
use Rattle.paper.specs.Outcome.{verdict}
use Rattle.paper.specs.Pieces.{part}
use Rattle.paper.specs.Places.{pairs_from, pairs}
use Rattle.paper.specs.Judge.{verdict_of}
use Rattle.paper.specs.Calls.{text_of, metadata_text}
use Rattle.paper.proofs.Computed.{computed}
use Rattle.paper.proofs.Spelled.{spelled, spelled_same, table-spelled}
use Rattle.paper.proofs.Once.{rule6_once, misfits_once, rule10_once, entry_rules_once, directory_once, table_rules_once, picture_once, verdict_once, repeated, repeats, verdict-once}
use Rattle.paper.proofs.Marked.{Allowed, allowed_of}
use Rattle.paper.proofs.Files.{bytes, laid, front, scale, tiepoint, keys_a, strip}
use Rattle.examples.proofs.FileC.{file_c, text}
use Rattle.paper.specs.declared.Verdict.{Verdict}
use Rattle.paper.specs.declared.Text.{Text}

-- ---- file M

-- file A with some metadata texts
unfoldable pub told : Bool → List (List ℕ) → List ℕ
unfolding laid front scale tiepoint keys_a bytes strip
told big ts = laid big (λ at. front at ++ scale ∷ tiepoint ∷ keys_a ∷ map (bytes 50909) ts) strip

-- three: <md/> at an offset, ok in its entry, <more> at an offset
unfoldable pub md : List ℕ
md = 60 ∷ 109 ∷ 100 ∷ 47 ∷ 62 ∷ []

unfoldable pub ok : List ℕ
ok = 111 ∷ 107 ∷ []

unfoldable pub more : List ℕ
more = 60 ∷ 109 ∷ 111 ∷ 114 ∷ 101 ∷ 62 ∷ []

unfoldable pub file_m : Bool → List ℕ
unfolding told md ok more
file_m big = told big (md ∷ ok ∷ more ∷ [])

pub length-M : length (file_m false) ≡ 318
unfolding file_m
length-M = refl

-- ---- what the calls answer

pub record Answers : Type 0 where
  pub judged : Verdict
  pub texts : List Text
  pub metadata : List (List ℕ)
  pub may : Allowed

-- with three bytes of outside text, which no number names
unfoldable pub answered : List ℕ → Answers
unfolding allowed_of
answered f =
    record {
      judged = verdict_of f;
      texts = map (λ k. text_of f k 3) (0 ∷ 1 ∷ 2 ∷ 3 ∷ 4294967295 ∷ []);
      metadata = map (λ k. metadata_text f k (1 ∷ 2 ∷ 3 ∷ [])) (0 ∷ 1 ∷ 2 ∷ 3 ∷ []);
      may = allowed_of f;
    }

-- the texts stand at 298, at 174 in the second entry, and at 304; the reading list has the value of each
unfoldable pub answers_m : Answers
unfolding text md ok more
answers_m =
    record {
      judged = verdict 0 0;
      texts = text 0 0 0 298 5 ∷ text 0 0 0 174 2 ∷ text 0 0 0 304 6 ∷ text 29 3 0 0 0 ∷ text 29 4294967295 0 0 0 ∷ [];
      metadata = md ∷ ok ∷ more ∷ [] ∷ [];
      may =
          record {
            number = 0;
            list =
                part 0 8
                ∷ part 8 2
                ∷ part 8 186
                ∷ part 18 2 ∷ part 30 2 ∷ part 42 2 ∷ part 54 2 ∷ part 66 2 ∷ part 78 2 ∷ part 90 2 ∷ part 102 2 ∷ part 114 2
                ∷ part 194 24 ∷ part 218 48 ∷ part 266 32
                ∷ part 298 5 ∷ part 174 2 ∷ part 304 6
                ∷ [];
          };
    }

pub little-M : answered (file_m false) ≡ answers_m
unfolding file_m answered answers_m spelled computed
little-M = spelled_same (file_m false) answered

pub big-M : answered (file_m true) ≡ answers_m
unfolding file_m answered answers_m spelled computed
big-M = spelled_same (file_m true) answered

-- ---- files that differ from M

-- a file, its verdict, and what the call for number 3 gives
pub record Example : Type 0 where
  pub file : List ℕ
  pub gives : Verdict × Text

-- of an accepted one 29 with place 3, and of a refused one the file's verdict
abbrev accepted : List ℕ → Example
accepted f = record { file = f; gives = (verdict 0 0, text 29 3 0 0 0) }

abbrev refused : List ℕ → ℕ → ℕ → Example
refused f k p = record { file = f; gives = (verdict k p, text k p 0 0 0) }

-- M with other bytes from a place on, and from each of two
changed : ℕ → List ℕ → List ℕ
unfolding file_m
changed i bs = sets (file_m false) i bs

twice : ℕ → List ℕ → ℕ → List ℕ → List ℕ
unfolding changed
twice i bs j cs = sets (changed i bs) j cs

-- M with its picture in two strips of 4 bytes
stripped : ℕ → ℕ → List ℕ
unfolding twice enc
stripped a b = sets (twice 74 (enc 4 2 ++ enc 2 a ++ enc 2 b) 102 (enc 2 1)) 110 (enc 4 2 ++ enc 2 4 ++ enc 2 4)

-- the three entries stand at 154, 166 and 178: the tag, then the type, the count, and the value or its offset
pub examples : List Example
unfolding text told md ok more changed twice stripped enc
examples =
    -- 50908 and two of 50909; two of 50909 and 50910
    accepted (changed 154 (enc 2 50908))
    ∷ accepted (changed 178 (enc 2 50910))
    -- 50909, 50910, 50909; 50908 twice; 50910 twice; 34737 twice
    ∷ refused (changed 166 (enc 2 50910)) 6 50909
    ∷ refused (twice 154 (enc 2 50908) 166 (enc 2 50908)) 6 50908
    ∷ refused (twice 166 (enc 2 50910) 178 (enc 2 50910)) 6 50910
    ∷ refused (twice 154 (enc 2 34737) 166 (enc 2 34737)) 6 34737
    -- the third with count 0, with an odd offset, at 6, and past the end; the second of type 2 and the third with count 0: 7 stands before 10
    ∷ refused (changed 182 (enc 4 0)) 7 50909
    ∷ refused (changed 186 (enc 4 303)) 7 50909
    ∷ refused (changed 186 (enc 4 6)) 7 50909
    ∷ refused (changed 186 (enc 4 314)) 7 50909
    ∷ refused (twice 168 (enc 2 2) 182 (enc 4 0)) 7 50909
    -- the second of type 2; the third of type 7, and of type 13; the second of type 2 and no 262: 9 stands before 10
    ∷ refused (changed 168 (enc 2 2)) 10 50909
    ∷ refused (changed 180 (enc 2 7)) 10 50909
    ∷ refused (changed 180 (enc 2 13)) 10 50909
    ∷ refused (twice 58 (enc 2 261) 168 (enc 2 2)) 9 262
    -- the strip over the last byte of the third; over that of the second, which then is at 304 and the third in its entry; two strips, and the last of
    -- them over the third; the third ends with the file, where the strip is
    ∷ refused (changed 78 (enc 2 309)) 14 0
    ∷ refused (sets (told false (md ∷ more ∷ ok ∷ [])) 78 (enc 2 309)) 14 0
    ∷ accepted (stripped 310 314)
    ∷ refused (stripped 310 309) 14 1
    ∷ refused (changed 186 (enc 4 312)) 14 0
    ∷ []

pub marked : map (λ x. (verdict_of x.file, text_of x.file 3 3)) examples ≡ map (λ x. x.gives) examples
unfolding examples spelled computed
marked = table-spelled (λ x. x.file) (λ x f. (verdict_of f, text_of f 3 3)) (λ x. x.gives) examples refl

-- ---- the judgement without C-12

-- it lets no tag stand twice
pub before-M : verdict_once (file_m false) ≡ verdict 6 50909
unfolding file_m spelled computed rule6_once misfits_once rule10_once entry_rules_once directory_once table_rules_once picture_once verdict_once
before-M = spelled_same (file_m false) verdict_once

-- C has one metadata text, and its verdict is the same
pub kept-C : verdict_of (file_c false) ≡ verdict_once (file_c false)
unfolding file_c computed pairs_from pairs repeated repeats
kept-C = verdict-once (file_c false) refl
