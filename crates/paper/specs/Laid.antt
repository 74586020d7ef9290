-- Document 01, 'Key block', with request C-13, in their own words: where each number of the block stands, how long its three runs are, and what rules 24 and 25 refuse.
-- `proofs/Laid` shows that the block which the call writes is laid out so. Assumes nothing.
use Rattle.std.specs.Prelude.{ℕ, ◌+◌, ◌*◌, ◌≤◌, ◌<◌, ◌≡◌, Bool, false, cond, not, ◌&&◌, List, [], ◌∷◌, eqb, ltb, length, take, drop}
use Rattle.paper.specs.Bytes.{num, build}
use Rattle.paper.specs.Outcome.{verdict}
use Rattle.paper.specs.Tag
use Rattle.paper.specs.Keys.{Runs, minor_revision, key_count, key_at, keys}
use Rattle.paper.specs.Asked.{Bytes, elements_of, lent_runs}
use Rattle.paper.specs.Places.{FirstFault}
use Rattle.paper.specs.declared.Verdict.{Verdict}
use Rattle.paper.specs.declared.Block.{Block}
use Rattle.paper.specs.declared.KeyEntry.{KeyEntry}

-- number i of a run, of w bytes, little-endian
unfoldable pub number_at : ℕ → List ℕ → ℕ → ℕ
number_at w s i = num false w s (w * i)

-- k of them, from number a on
unfoldable pub numbers_from : ℕ → List ℕ → ℕ → ℕ → List ℕ
numbers_from w s a k = build (number_at w s) a k

-- ---- where a value stands

-- the counts of the keys at a location, added up
unfoldable pub total : ℕ → List KeyEntry → ℕ
total l [] = 0
total l (e ∷ es) = cond (eqb e.location l) e.count 0 + total l es

-- where the values of a location begin: behind the entries of the directory, at the start of the two other runs
unfoldable pub base : Runs → ℕ → ℕ
base r l = cond (eqb l Tag.key_directory) (4 + 4 * key_count r) 0

-- the new start index of key i: right behind the values of the keys before it at the same location
unfoldable pub start_index : Runs → ℕ → ℕ
start_index r i = base r (key_at r i).location + total (key_at r i).location (take i (keys r))

-- the fourth number of key i: at location 0 the value itself, else the start index
unfoldable pub fourth : Runs → ℕ → ℕ
fourth r i = cond (eqb (key_at r i).location 0) (key_at r i).index (start_index r i)

-- ---- how long the three runs are, in bytes, and the whole block

unfoldable pub directory_length : Runs → ℕ
directory_length r = 2 * (4 + 4 * key_count r + total Tag.key_directory (keys r))

unfoldable pub doubles_length : Runs → ℕ
doubles_length r = 8 * total Tag.doubles (keys r)

unfoldable pub characters_length : Runs → ℕ
characters_length r = total Tag.characters (keys r)

unfoldable pub bytes_needed : Runs → ℕ
bytes_needed r = directory_length r + doubles_length r + characters_length r

-- ---- the layout: r has the keys of the file, s the three runs of the block

-- key i: its entry of four SHORTs, and its value, which starts at the start index of the run that its location names
pub record LaidEntry (r s : Runs) (i : ℕ) : Type 0 where
  pub entry : numbers_from 2 s.directory (4 + 4 * i) 4
      ≡ (key_at r i).key ∷ (key_at r i).location ∷ (key_at r i).count ∷ fourth r i ∷ []
  pub shorts : (key_at r i).location ≡ Tag.key_directory → numbers_from 2 s.directory (start_index r i) (key_at r i).count ≡ elements_of r (key_at r i)
  pub doubles : (key_at r i).location ≡ Tag.doubles → numbers_from 8 s.doubles (start_index r i) (key_at r i).count ≡ elements_of r (key_at r i)
  pub characters : (key_at r i).location ≡ Tag.characters → numbers_from 1 s.characters (start_index r i) (key_at r i).count ≡ elements_of r (key_at r i)

-- `left` is what the call with the answer b leaves of the lent bytes `out`
pub record LaidOut (r : Runs) (b : Block) (out left : List ℕ) : Type 0 where
  pub header : numbers_from 2 (lent_runs left b).directory 0 4 ≡ 1 ∷ 1 ∷ minor_revision r ∷ key_count r ∷ []
  pub each : (i : ℕ) → i < key_count r → LaidEntry r (lent_runs left b) i
  pub directory : b.directory ≡ directory_length r
  pub doubles : b.doubles ≡ doubles_length r
  pub characters : b.characters ≡ characters_length r
  pub bytes : Bytes (take (bytes_needed r) left)
  pub room : bytes_needed r ≤ length out
  pub after : drop (bytes_needed r) left ≡ drop (bytes_needed r) out
  pub long : length left ≡ length out

-- ---- rules 24 and 25

-- the value of key i would start past 65,535
unfoldable pub far : Runs → ℕ → Bool
far r i = not (eqb (key_at r i).location 0) && ltb 65535 (start_index r i)

-- the keys by their numbers, counted from 0
abbrev pub key_numbers : Runs → List ℕ
key_numbers r = build (λ i. i) 0 (key_count r)

-- p is the first such key
abbrev pub FirstFar : Runs → ℕ → Type 0
FirstFar r p = FirstFault (far r) (λ i. (key_at r i).key) (key_numbers r) p

-- there is none
abbrev pub NoneFar : Runs → Type 0
NoneFar r = (i : ℕ) → i < key_count r → far r i ≡ false

-- there is none, and m lent bytes are fewer than the block needs; the place p is the bytes needed
pub record TooShort (r : Runs) (m p : ℕ) : Type 0 where
  pub none : NoneFar r
  pub room : m < bytes_needed r
  pub place : p ≡ bytes_needed r

-- v is the call's own verdict, with m bytes lent
pub record BlockRefusals (r : Runs) (m : ℕ) (v : Verdict) : Type 0 where
  pub far : (p : ℕ) → FirstFar r p → v ≡ verdict 24 p
  pub far_only : (p : ℕ) → v ≡ verdict 24 p → FirstFar r p
  pub short : (p : ℕ) → TooShort r m p → v ≡ verdict 25 p
  pub short_only : (p : ℕ) → v ≡ verdict 25 p → TooShort r m p
  pub written : NoneFar r → bytes_needed r ≤ m → v ≡ verdict 0 0
