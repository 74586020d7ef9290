-- The words in which demand 1 is put: the numbers that a call may give, a refusal with nothing beside its verdict, lent memory that keeps its
-- content, and memory that is written in front only. `proofs/Lent` shows them of every call. Assumes nothing.
use Rattle.std.specs.Prelude.{ℕ, ◌+◌, ◌≤◌, ◌<◌, ◌≡◌, Bool, true, List, [], ◌∷◌, eqb, Float, length, drop}
use Rattle.std.specs.Float.Ieee as Ieee
use Rattle.std.specs.Float.{binary64}
use Rattle.paper.specs.Outcome.{broken, verdict}
use Rattle.paper.specs.Tests.{some}
use Rattle.paper.specs.Keys.{Runs}
use Rattle.paper.specs.Judge.{view, runs_of, verdict_of}
use Rattle.paper.specs.Calls.{judged_of, rows_of, left_rows, cited_of, citation, text_of, metadata_text, read_runs}
use Rattle.paper.specs.Block.{rule24, block_of, block_left}
use Rattle.paper.specs.declared.Verdict.{Verdict}
use Rattle.paper.specs.declared.Row.{Row}
use Rattle.paper.specs.declared.Georeference.TheVariants.{Scaled}
use Rattle.paper.specs.declared.Block.{Block}

abbrev pub Accepted : Verdict → Type 0
Accepted v = v.number ≡ 0

abbrev pub Refused : Verdict → Type 0
Refused v = v.number ≡ 0 → ⊥

-- ---- which numbers a call gives

-- k is one of ks
abbrev pub among : ℕ → List ℕ → Bool
among k ks = some (eqb k) ks

-- the rules of a file: 1 to 22 of document 01, of which 8 is a mask's alone, 27 of request C-11, 28 of C-14
abbrev pub file_numbers : List ℕ
file_numbers =
    1 ∷ 2 ∷ 3 ∷ 4 ∷ 5 ∷ 6 ∷ 7 ∷ 9 ∷ 10 ∷ 11 ∷ 12 ∷ 13 ∷ 14 ∷ 15 ∷ 16 ∷ 17 ∷ 18 ∷ 19 ∷ 20 ∷ 21 ∷ 22 ∷ 27 ∷ 28 ∷ []

-- the number is 0, with place 0, or one of ks
pub record Gives (ks : List ℕ) (v : Verdict) : Type 0 where
  pub number : among v.number (0 ∷ ks) ≡ true
  pub place : Accepted v → v.place ≡ 0

-- the verdict of a call on a file: that of the file's rules first, number and place, and where they are kept the call's own
pub record CallGives (f : List ℕ) (own : List ℕ) (v : Verdict) : Type 0 where
  pub before : Refused (verdict_of f) → v ≡ verdict_of f
  pub after : Accepted (verdict_of f) → Gives own v

pub record Numbers (f : List ℕ) : Type 0 where
  pub file : Gives file_numbers (verdict_of f)
  pub judged : CallGives f [] (judged_of f).verdict
  pub rows : (m : ℕ) → CallGives f (23 ∷ []) (rows_of f m).verdict
  pub cited : (k : ℕ) → CallGives f (26 ∷ []) (cited_of f k).verdict
  pub text : (k m : ℕ) → CallGives f (29 ∷ []) (text_of f k m).verdict
  pub block : (m : ℕ) → CallGives f (24 ∷ 25 ∷ []) (block_of f m).verdict
  -- 24 before 25, whatever the room
  pub far : (m p : ℕ) → Accepted (verdict_of f) → rule24 (runs_of (view f)) ≡ broken p → (block_of f m).verdict ≡ verdict 24 p

-- ---- what stands beside a refusal

-- the double whose 64 bits are 0
abbrev pub plus_zero : Float
plus_zero = Ieee.of_bits binary64 0

-- every answer of every call is its verdict with nothing beside it; every lent row and every lent byte is as it was
pub record Refusals (f : List ℕ) : Type 0 where
  pub judged : Refused (judged_of f).verdict
      → judged_of f
      ≡ record {
        verdict = (judged_of f).verdict;
        keys = 0;
        minor = 0;
        georeference = Scaled plus_zero plus_zero plus_zero plus_zero plus_zero plus_zero;
        corners = record { x0 = plus_zero; y0 = plus_zero; x1 = plus_zero; y1 = plus_zero };
      }
  pub counted : (m : ℕ) → Refused (rows_of f m).verdict → rows_of f m ≡ record { verdict = (rows_of f m).verdict; keys = 0 }
  pub rows : (lent : List Row) → Refused (rows_of f (length lent)).verdict → left_rows f lent ≡ lent
  pub cited : (k : ℕ) → Refused (cited_of f k).verdict → cited_of f k ≡ record { verdict = (cited_of f k).verdict; start = 0; len = 0 }
  pub citation : (k : ℕ) → Refused (cited_of f k).verdict → citation f k ≡ []
  pub text : (k m : ℕ) → Refused (text_of f k m).verdict → text_of f k m ≡ record { verdict = (text_of f k m).verdict; from = 0; start = 0; len = 0 }
  pub metadata : (k : ℕ) (outside : List ℕ) → Refused (text_of f k (length outside)).verdict → metadata_text f k outside ≡ []
  pub block : (m : ℕ) → Refused (block_of f m).verdict
      → block_of f m ≡ record { verdict = (block_of f m).verdict; directory = 0; doubles = 0; characters = 0 }
  pub output : (out : List ℕ) → Refused (block_of f (length out)).verdict → block_left f out ≡ out

-- ---- what an accepting call writes

-- of what was lent the first n may be written; the others keep their content, and none is added or lost
pub record InFront {A : Type 0} (n : ℕ) (lent left : List A) : Type 0 where
  pub room : n ≤ length lent
  pub long : length left ≡ length lent
  pub behind : drop n left ≡ drop n lent

-- the bytes of the whole block, by the three lengths that the call gave
abbrev pub block_length : Block → ℕ
block_length b = b.directory + (b.doubles + b.characters)

-- the first K rows, by the K that the call gave, and the bytes of the block
pub record Writes (f : List ℕ) : Type 0 where
  pub rows : (lent : List Row) → Accepted (rows_of f (length lent)).verdict → InFront (rows_of f (length lent)).keys lent (left_rows f lent)
  pub output : (out : List ℕ) → Accepted (block_of f (length out)).verdict → InFront (block_length (block_of f (length out))) out (block_left f out)

-- ---- the places of a call's own numbers

-- m was lent, and p is named: it is more, and with p lent the call accepts and fills them all, v being its verdict then and n what it writes
pub record Needed (m p : ℕ) (v : Verdict) (n : ℕ) : Type 0 where
  pub fewer : m < p
  pub enough : Accepted v
  pub filled : n ≡ p

-- 23 and 25 name the rows and the bytes that are needed, 26 the key asked, 29 the number asked
pub record Named (f : List ℕ) : Type 0 where
  pub rows : (m p : ℕ) → (rows_of f m).verdict ≡ verdict 23 p → Needed m p (rows_of f p).verdict (rows_of f p).keys
  pub block : (m p : ℕ) → (block_of f m).verdict ≡ verdict 25 p → Needed m p (block_of f p).verdict (block_length (block_of f p))
  pub cited : (k p : ℕ) → (cited_of f k).verdict ≡ verdict 26 p → p ≡ k
  pub text : (k m p : ℕ) → (text_of f k m).verdict ≡ verdict 29 p → p ≡ k

-- ---- three runs read back, without a file

pub record Reads (r : Runs) : Type 0 where
  pub number : Gives (15 ∷ 16 ∷ 17 ∷ 18 ∷ 19 ∷ []) (read_runs r).verdict
  pub refused : Refused (read_runs r).verdict → read_runs r ≡ record { verdict = (read_runs r).verdict; keys = 0; minor = 0 }

-- ---- demand 1, of the calls on a file

pub record Guarded (f : List ℕ) : Type 0 where
  pub numbers : Numbers f
  pub named : Named f
  pub refusals : Refusals f
  pub writes : Writes f
