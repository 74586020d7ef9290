-- Files of the newer key revision: file C with minor revision 1 in either byte order, what every call answers, the key block with the number that was read,
-- and what is read back; files whose header has other numbers; and a key whose value is the minor revision itself. Computed. Assumes nothing.
use Prim.Native.Nat.{ℕ}
use mathlib.Core.Path.{◌≡◌, refl}
use mathlib.Core.Bool.{Bool, true, false}
use mathlib.Core.List.{List, [], ◌∷◌, ◌++◌, map}
use lib.ListN.{take, drop, replicate}
use lib.Seq.{sets}
use Rattle.paper.specs.Bytes.{enc}
use Rattle.paper.specs.Outcome.{verdict}
use Rattle.paper.specs.Judge.{verdict_of}
use Rattle.paper.specs.Calls.{judged_of, left_rows, reading_back}
use Rattle.paper.specs.Block.{block_left}
use Rattle.paper.proofs.Computed.{computed}
use Rattle.paper.proofs.Spelled.{spelled, spelled_same, table-spelled}
use Rattle.paper.proofs.Minor.{wrong_zero, key_rules_zero, verdict_zero}
use Rattle.paper.proofs.Marked.{changed, row}
use Rattle.paper.proofs.Files.{written}
use Rattle.examples.proofs.FileC.{file_c, block_c, block_directory_c, block_doubles_c, block_characters_c, reads, Answers, answered, answers_c}
use Rattle.paper.specs.declared.Row.{Row}
use Rattle.paper.specs.declared.Verdict.{Verdict}

-- ---- file C with another minor revision

-- its key directory stands at 266, and the third number at 270
unfoldable pub revised : Bool → ℕ → List ℕ
unfolding file_c written
revised big m = sets (file_c big) 270 (written big 2 m)

-- what C gives, and of the block the third number, of bytes 4 and 5
unfoldable pub answers_revised : ℕ → List Row → List ℕ → Answers
unfolding answers_c block_c enc
answers_revised m rows bytes =
    let c : Answers = answers_c rows bytes in
    record {
      counted = c.counted;
      rows = c.rows;
      cited = c.cited;
      citations = c.citations;
      texts = c.texts;
      metadata = c.metadata;
      measured = c.measured;
      block = sets c.block 4 (enc 2 m);
      short = c.short;
    }

pub little-revised : answered 11 138 (revised false 1) ≡ answers_revised 1 [] (5 ∷ 5 ∷ 5 ∷ [])
unfolding revised answered answers_revised row spelled computed
little-revised = spelled_same (revised false 1) (answered 11 138)

pub big-revised : answered 12 135 (revised true 1) ≡ answers_revised 1 (row 7 7 7 7 7 ∷ []) []
unfolding revised answered answers_revised row spelled computed
big-revised = spelled_same (revised true 1) (answered 12 135)

-- the judgement shows it
pub little-shown : (judged_of (revised false 1)).minor ≡ 1
unfolding revised spelled computed
little-shown = spelled_same (revised false 1) (λ f. (judged_of f).minor)

pub big-shown : (judged_of (revised true 1)).minor ≡ 1
unfolding revised spelled computed
big-shown = spelled_same (revised true 1) (λ f. (judged_of f).minor)

-- read back: 0, 1, 2, 256 and 65535
pub back-revised : map (λ m. reading_back (sets block_directory_c 4 (enc 2 m)) block_doubles_c block_characters_c) (0 ∷ 1 ∷ 2 ∷ 256 ∷ 65535 ∷ [])
    ≡ reads 0 0 11 0 ∷ reads 0 0 11 1 ∷ replicate 3 (reads 15 0 0 0)
unfolding block_c reads enc computed
back-revised = refl

-- ---- other headers

-- file A with these as the first three numbers, its verdict, and the one without C-13
pub record Example : Type 0 where
  pub file : List ℕ
  pub gives : Verdict × Verdict

unfoldable pub header : ℕ → ℕ → ℕ → Verdict → Verdict → Example
unfolding changed enc
header a b c now before = record { file = changed 230 (enc 2 a ++ enc 2 b ++ enc 2 c); gives = (now, before) }

-- only 1, 1, 1 has another verdict than before
pub examples : List Example
unfolding header
examples =
    header 1 1 0 (verdict 0 0) (verdict 0 0)
    ∷ header 1 1 1 (verdict 0 0) (verdict 15 0)
    ∷ header 1 1 2 (verdict 15 0) (verdict 15 0)
    ∷ header 1 1 256 (verdict 15 0) (verdict 15 0)
    ∷ header 1 1 65535 (verdict 15 0) (verdict 15 0)
    ∷ header 1 0 1 (verdict 15 0) (verdict 15 0)
    ∷ header 1 2 1 (verdict 15 0) (verdict 15 0)
    ∷ header 0 1 1 (verdict 15 0) (verdict 15 0)
    ∷ header 2 1 1 (verdict 15 0) (verdict 15 0)
    ∷ []

pub marked : map (λ x. (verdict_of x.file, verdict_zero x.file)) examples ≡ map (λ x. x.gives) examples
unfolding examples spelled computed wrong_zero key_rules_zero verdict_zero
marked = table-spelled (λ x. x.file) (λ x f. (verdict_of f, verdict_zero f)) (λ x. x.gives) examples refl

-- ---- a key whose value is the minor revision

-- key 5000 of C, whose count and index stand at 326, with count 1 and index 2
unfoldable pub pointed : List ℕ
unfolding revised written
pointed = sets (revised true 1) 326 (written true 2 1 ++ written true 2 2)

-- its row names bytes 270 and 271, and its entry at 322
pub own_row : drop 6 (take 7 (left_rows pointed (replicate 11 (row 7 7 7 7 7)))) ≡ row 5000 3 270 2 322 ∷ []
unfolding pointed row spelled computed
own_row = spelled_same pointed (λ f. drop 6 (take 7 (left_rows f (replicate 11 (row 7 7 7 7 7)))))

-- in the block 1 is its value, behind the entries, at 96, and 7 that of the next key
pub own_value : take 4 (drop 96 (block_left pointed (replicate 134 5))) ≡ 1 ∷ 0 ∷ 7 ∷ 0 ∷ []
unfolding pointed spelled computed
own_value = spelled_same pointed (λ f. take 4 (drop 96 (block_left f (replicate 134 5))))
