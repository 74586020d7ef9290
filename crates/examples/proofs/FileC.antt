-- File C, with keys at every location, in either byte order: its rows, citations, metadata text and key block, and what the lent memory then holds, byte
-- for byte; and what each call answers and leaves for file A and for refused files. Computed. Assumes nothing.
use Prim.Native.Nat.{ℕ, ◌+◌}
use mathlib.Core.Path.{◌≡◌, refl}
use mathlib.Core.Bool.{Bool, true, false}
use mathlib.Core.List.{List, [], ◌∷◌, ◌++◌, map}
use lib.ListN.{replicate, take}
use Rattle.paper.specs.Bytes.{build}
use Rattle.paper.specs.Outcome.{verdict}
use Rattle.paper.specs.Calls.{rows_of, left_rows, cited_of, citation, text_of, metadata_text, reading_back}
use Rattle.paper.specs.Block.{block_of, block_left}
use Rattle.paper.proofs.Computed.{computed}
use Rattle.paper.proofs.Spelled.{spelled, spelled_same}
use Rattle.paper.proofs.Marked.{file_a, keys, changed, row}
use Rattle.paper.proofs.Files.{Field, bytes, ascii, doubles, laid, front, scale, tiepoint, key, directory, strip}
use Rattle.paper.specs.declared.Counted.{Counted}
use Rattle.paper.specs.declared.BlockRead.{BlockRead}
use Rattle.paper.specs.declared.Cited.{Cited}
use Rattle.paper.specs.declared.Text.{Text}
use Rattle.paper.specs.declared.Block.{Block}
use Rattle.paper.specs.declared.Row.{Row}

-- The keys 5000 to 5004 are of kind 3. Some values stand behind others, 5000 and 5001 share a SHORT, 1026 and 5002 two characters, and 5003 has both
-- doubles. The characters are xyz|ab|, the metadata text is <md/>.
unfoldable pub fields_c : ℕ → List Field
unfolding front scale tiepoint key directory doubles ascii bytes
fields_c at =
    front at
    ++ scale
    ∷ tiepoint
    ∷ directory
    (key 1024 0 1 1
    ∷ key 1025 0 1 1
    ∷ key 1026 34737 3 4
    ∷ key 2049 34737 4 0
    ∷ key 2057 34736 1 1
    ∷ key 3072 0 1 32633
    ∷ key 5000 34735 2 49
    ∷ key 5001 34735 1 49
    ∷ key 5002 34737 2 5
    ∷ key 5003 34736 2 0
    ∷ key 5004 0 1 9
    ∷ [])
    (99 ∷ 7 ∷ 8 ∷ [])
    ∷ doubles 34736 (0x41583FC410000000 ∷ 0x415854A640000000 ∷ [])
    ∷ ascii 34737 (120 ∷ 121 ∷ 122 ∷ 124 ∷ 97 ∷ 98 ∷ 124 ∷ [])
    ∷ bytes 50909 (60 ∷ 109 ∷ 100 ∷ 47 ∷ 62 ∷ [])
    ∷ []

unfoldable pub file_c : Bool → List ℕ
unfolding laid fields_c strip
file_c big = laid big fields_c strip

-- the key directory stands at 266, the doubles at 368, the characters at 384, the metadata text at 392
unfoldable pub rows_c : List Row
unfolding row
rows_c =
    row 1024 0 280 2 274
    ∷ row 1025 0 288 2 282
    ∷ row 1026 2 388 3 290
    ∷ row 2049 2 384 4 298
    ∷ row 2057 1 376 8 306
    ∷ row 3072 0 320 2 314
    ∷ row 5000 3 364 4 322
    ∷ row 5001 3 364 2 330
    ∷ row 5002 3 389 2 338
    ∷ row 5003 3 368 16 346
    ∷ row 5004 3 360 2 354
    ∷ []

-- ---- the key block

unfoldable pub block_directory_c : List ℕ
block_directory_c =
    1 ∷ 0 ∷ 1 ∷ 0 ∷ 0 ∷ 0 ∷ 11 ∷ 0
    ∷ 0 ∷ 4 ∷ 0 ∷ 0 ∷ 1 ∷ 0 ∷ 1 ∷ 0
    ∷ 1 ∷ 4 ∷ 0 ∷ 0 ∷ 1 ∷ 0 ∷ 1 ∷ 0
    ∷ 2 ∷ 4 ∷ 177 ∷ 135 ∷ 3 ∷ 0 ∷ 0 ∷ 0
    ∷ 1 ∷ 8 ∷ 177 ∷ 135 ∷ 4 ∷ 0 ∷ 3 ∷ 0
    ∷ 9 ∷ 8 ∷ 176 ∷ 135 ∷ 1 ∷ 0 ∷ 0 ∷ 0
    ∷ 0 ∷ 12 ∷ 0 ∷ 0 ∷ 1 ∷ 0 ∷ 121 ∷ 127
    ∷ 136 ∷ 19 ∷ 175 ∷ 135 ∷ 2 ∷ 0 ∷ 48 ∷ 0
    ∷ 137 ∷ 19 ∷ 175 ∷ 135 ∷ 1 ∷ 0 ∷ 50 ∷ 0
    ∷ 138 ∷ 19 ∷ 177 ∷ 135 ∷ 2 ∷ 0 ∷ 7 ∷ 0
    ∷ 139 ∷ 19 ∷ 176 ∷ 135 ∷ 2 ∷ 0 ∷ 1 ∷ 0
    ∷ 140 ∷ 19 ∷ 0 ∷ 0 ∷ 1 ∷ 0 ∷ 9 ∷ 0
    ∷ 7 ∷ 0 ∷ 8 ∷ 0 ∷ 7 ∷ 0
    ∷ []

unfoldable pub block_doubles_c : List ℕ
block_doubles_c =
    0 ∷ 0 ∷ 0 ∷ 64 ∷ 166 ∷ 84 ∷ 88 ∷ 65
    ∷ 0 ∷ 0 ∷ 0 ∷ 16 ∷ 196 ∷ 63 ∷ 88 ∷ 65
    ∷ 0 ∷ 0 ∷ 0 ∷ 64 ∷ 166 ∷ 84 ∷ 88 ∷ 65
    ∷ []

-- ab|xyz|b|
unfoldable pub block_characters_c : List ℕ
block_characters_c = 97 ∷ 98 ∷ 124 ∷ 120 ∷ 121 ∷ 122 ∷ 124 ∷ 98 ∷ 124 ∷ []

unfoldable pub block_c : List ℕ
unfolding block_directory_c block_doubles_c block_characters_c
block_c = block_directory_c ++ block_doubles_c ++ block_characters_c

-- ---- what each call answers, and what the lent memory then holds

unfoldable pub counts : ℕ → ℕ → ℕ → Counted
counts n p k = record { verdict = verdict n p; keys = k }

unfoldable pub reads : ℕ → ℕ → ℕ → ℕ → BlockRead
reads n p k m = record { verdict = verdict n p; keys = k; minor = m }

unfoldable pub cites : ℕ → ℕ → ℕ → ℕ → Cited
cites n p s l = record { verdict = verdict n p; start = s; len = l }

unfoldable pub text : ℕ → ℕ → ℕ → ℕ → ℕ → Text
text n p from s l = record { verdict = verdict n p; from = from; start = s; len = l }

unfoldable pub lengths : ℕ → ℕ → ℕ → ℕ → ℕ → Block
lengths n p d x c = record { verdict = verdict n p; directory = d; doubles = x; characters = c }

pub record Answers : Type 0 where
  pub counted : List Counted
  pub rows : List Row
  pub cited : List Cited
  pub citations : List (List ℕ)
  pub texts : List Text
  pub metadata : List (List ℕ)
  pub measured : List Block
  pub block : List ℕ
  pub short : List ℕ

-- for so many rows and bytes lent, and for some others
unfoldable pub answered : ℕ → ℕ → List ℕ → Answers
answered rows bytes f =
    record {
      counted = map (rows_of f) (0 ∷ 10 ∷ 11 ∷ []);
      rows = left_rows f (replicate rows (row 7 7 7 7 7));
      cited = map (cited_of f) (1026 ∷ 2049 ∷ 3073 ∷ 5002 ∷ 1024 ∷ []);
      citations = map (citation f) (1026 ∷ 2049 ∷ 3073 ∷ []);
      texts = map (λ k. text_of f k 3) (0 ∷ 1 ∷ []);
      metadata = map (λ k. metadata_text f k (1 ∷ 2 ∷ 3 ∷ [])) (0 ∷ 1 ∷ []);
      measured = map (block_of f) (0 ∷ 134 ∷ 135 ∷ []);
      block = block_left f (replicate bytes 5);
      short = block_left f (replicate 134 5);
    }

-- What C gives, with some rows and bytes behind those that are written. There are 11 keys: 10 rows are too few. A citation is one character short of the
-- count; 26 for an ASCII key that is absent, and for a key of kind 3 and a SHORT that are present. The one metadata text stands in the file, and 29 for a second. The block has
-- 135 bytes: one fewer lent is 25, and the lent bytes stay.
unfoldable pub answers_c : List Row → List ℕ → Answers
unfolding counts cites text lengths rows_c block_c
answers_c rows bytes =
    record {
      counted = counts 23 11 0 ∷ counts 23 11 0 ∷ counts 0 0 11 ∷ [];
      rows = rows_c ++ rows;
      cited = cites 0 0 388 2 ∷ cites 0 0 384 3 ∷ cites 26 3073 0 0 ∷ cites 26 5002 0 0 ∷ cites 26 1024 0 0 ∷ [];
      citations = (97 ∷ 98 ∷ []) ∷ (120 ∷ 121 ∷ 122 ∷ []) ∷ [] ∷ [];
      texts = text 0 0 0 392 5 ∷ text 29 1 0 0 0 ∷ [];
      metadata = (60 ∷ 109 ∷ 100 ∷ 47 ∷ 62 ∷ []) ∷ [] ∷ [];
      measured = lengths 25 135 0 0 0 ∷ lengths 25 135 0 0 0 ∷ lengths 0 0 102 24 9 ∷ [];
      block = block_c ++ bytes;
      short = replicate 134 5;
    }

-- as many rows lent as there are keys, and 3 bytes more than the block has; in the other byte order one row more, and just as many bytes
pub little-C : answered 11 138 (file_c false) ≡ answers_c [] (5 ∷ 5 ∷ 5 ∷ [])
unfolding file_c answered answers_c row spelled computed
little-C = spelled_same (file_c false) (answered 11 138)

pub big-C : answered 12 135 (file_c true) ≡ answers_c (row 7 7 7 7 7 ∷ []) []
unfolding file_c answered answers_c row spelled computed
big-C = spelled_same (file_c true) (answered 12 135)

-- read back: 11 keys; one byte of a last element is left over; the characters are absent; a directory of three numbers, and none
pub back-C : reading_back block_directory_c block_doubles_c block_characters_c
    ∷ reading_back (block_directory_c ++ 1 ∷ []) (block_doubles_c ++ 1 ∷ 2 ∷ 3 ∷ []) block_characters_c
    ∷ reading_back block_directory_c (take 23 block_doubles_c) block_characters_c
    ∷ reading_back block_directory_c block_doubles_c []
    ∷ reading_back (take 7 block_directory_c) block_doubles_c block_characters_c
    ∷ reading_back [] [] []
    ∷ []
    ≡ reads 0 0 11 0 ∷ reads 0 0 11 0 ∷ reads 17 5003 0 0 ∷ reads 17 1026 0 0 ∷ reads 15 0 0 0 ∷ reads 15 0 0 0 ∷ []
unfolding block_c reads computed
back-C = refl

-- ---- 24

-- 53 keys of kind 3 share 1,285 characters: in the block, without sharing, 5051 starts at 65,535 and 5052 behind it
unfoldable pub many_keys : Field
unfolding key directory build
many_keys =
    directory (key 1024 0 1 1 ∷ key 1025 0 1 1 ∷ key 3072 0 1 32633 ∷ build (λ i. key (5000 + i) 34737 1285 0) 0 53) []

unfoldable pub sharing : List ℕ
unfolding laid front scale tiepoint many_keys ascii strip
sharing = laid false (λ at. front at ++ scale ∷ tiepoint ∷ many_keys ∷ ascii 34737 (replicate 1285 124) ∷ []) strip

-- 24 stands before 25
pub far-block : block_of sharing 4 ≡ lengths 24 5052 0 0 0
unfolding sharing lengths spelled computed
far-block = spelled_same sharing (λ f. block_of f 4)

-- ---- other files

-- Of A, with 3 keys at location 0 alone. Two rows lent are too few and keep their content, and so do 4 bytes; into more the block is A's own key directory.
-- There is no citation, and no metadata tag: number 0 is the whole outside text.
pub answers-A : answered 2 4 file_a
    ≡ record {
      counted = counts 23 3 0 ∷ counts 0 0 3 ∷ counts 0 0 3 ∷ [];
      rows = row 7 7 7 7 7 ∷ row 7 7 7 7 7 ∷ [];
      cited = map (λ k. cites 26 k 0 0) (1026 ∷ 2049 ∷ 3073 ∷ 5002 ∷ 1024 ∷ []);
      citations = [] ∷ [] ∷ [] ∷ [];
      texts = text 0 0 1 0 3 ∷ text 29 1 0 0 0 ∷ [];
      metadata = (1 ∷ 2 ∷ 3 ∷ []) ∷ [] ∷ [];
      measured = lengths 25 32 0 0 0 ∷ lengths 0 0 32 0 0 ∷ lengths 0 0 32 0 0 ∷ [];
      block = 5 ∷ 5 ∷ 5 ∷ 5 ∷ [];
      short = keys ++ replicate 102 5;
    }
unfolding file_a answered counts cites text lengths keys row spelled computed
answers-A = spelled_same file_a (answered 2 4)

-- of a file that the rules refuse: its verdict from every call, before 23, 25, 26 and 29; no K, no text, no lengths, and lent memory as it was
unfoldable pub nothing : ℕ → ℕ → Answers
unfolding counts cites text lengths row
nothing n p =
    record {
      counted = replicate 3 (counts n p 0);
      rows = replicate 4 (row 7 7 7 7 7);
      cited = replicate 5 (cites n p 0 0);
      citations = replicate 3 [];
      texts = replicate 2 (text n p 0 0 0);
      metadata = replicate 2 [];
      measured = replicate 3 (lengths n p 0 0 0);
      block = replicate 40 5;
      short = replicate 134 5;
    }

-- A with minor revision 2, and the empty file
pub refused-15 : answered 4 40 (changed 234 (2 ∷ 0 ∷ [])) ≡ nothing 15 0
unfolding changed answered nothing row spelled computed
refused-15 = spelled_same (changed 234 (2 ∷ 0 ∷ [])) (answered 4 40)

pub refused-1 : answered 4 40 [] ≡ nothing 1 0
unfolding answered nothing row computed
refused-1 = refl
