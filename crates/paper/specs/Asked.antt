-- The words in which the demands are put: a rule that is the first broken one, bytes on the reading list, files that agree on it, a
-- repainted file, equal answers of every call, equal keys. `proofs/Demands` states the demands in them. Assumes nothing.
use Rattle.std.specs.Prelude.{ℕ, ◌+◌, ◌≤◌, ◌<◌, ◌≡◌, Bool, true, cond, ◌&&◌, List, [], ◌∷◌, T, eqb, leb, ltb, length, get_or}
use Rattle.paper.specs.Bytes.{run}
use Rattle.paper.specs.Outcome.{kept, broken, Rule, ◌▸◌}
use Rattle.paper.specs.Tests.{some}
use Rattle.paper.specs.Tag
use Rattle.paper.specs.Pieces.{Part, part, Piece}
use Rattle.paper.specs.Keys.{Runs, key_count, key_at}
use Rattle.paper.specs.Judge.{all_pieces, has_mask, mask_rules, verdict_of}
use Rattle.paper.specs.Calls.{judged_of, rows_of, left_rows, cited_of, citation, text_of, metadata_text, back_of}
use Rattle.paper.specs.Block.{elements, block_of, block_left}
use Rattle.paper.specs.declared.Block.{Block}
use Rattle.paper.specs.declared.KeyEntry.{KeyEntry}
use Rattle.paper.specs.declared.Row.{Row}

-- ---- demand 2

abbrev pub no_rule : Rule
no_rule = 0 ▸ kept

-- no rule of the list is broken
abbrev pub AllKept : List Rule → Type 0
AllKept rs = (i : ℕ) → (get_or rs i no_rule).outcome ≡ kept

-- rule k is broken at place p, and no rule that stands before it is broken
pub record FirstBroken (rs : List Rule) (k p : ℕ) : Type 0 where
  pub at : ℕ
  pub there : get_or rs at no_rule ≡ k ▸ broken p
  pub before : (i : ℕ) → i < at → (get_or rs i no_rule).outcome ≡ kept

-- there is a mask, and rule p is the first that it breaks, of those it keeps for itself
pub record MaskBroken (f : List ℕ) (p : ℕ) : Type 0 where
  pub there : has_mask f ≡ true
  pub at : ℕ
  pub first : FirstBroken (mask_rules f) p at

-- every element is a byte
abbrev pub Bytes : List ℕ → Type 0
Bytes s = (i : ℕ) → get_or s i 0 < 256

-- the value of a key: the number in its entry, or its elements in the run that its location names, doubles as their 64 bits
unfoldable pub elements_of : Runs → KeyEntry → List ℕ
elements_of r e =
    cond (eqb e.location Tag.key_directory) (elements r.big 2 r.directory e)
    (cond (eqb e.location Tag.doubles) (elements r.big 8 r.doubles e)
    (cond (eqb e.location Tag.characters) (elements r.big 1 r.characters e) (e.index ∷ [])))

-- the same keys in the same order with the same values: equal number, location, count and elements
pub record SameKey (r s : Runs) (i : ℕ) : Type 0 where
  pub key : (key_at r i).key ≡ (key_at s i).key
  pub location : (key_at r i).location ≡ (key_at s i).location
  pub count : (key_at r i).count ≡ (key_at s i).count
  pub value : elements_of r (key_at r i) ≡ elements_of s (key_at s i)

pub record SameKeys (r s : Runs) : Type 0 where
  pub many : key_count r ≡ key_count s
  pub each : (i : ℕ) → i < key_count r → SameKey r s i

-- the key block cut out of the lent output, as three runs, by the lengths that the call gave
unfoldable pub lent_runs : List ℕ → Block → Runs
lent_runs o b =
    back_of (run o 0 b.directory) (run o b.directory b.doubles) (run o (b.directory + b.doubles) b.characters)

-- ---- demand 3

-- byte i is in the part
abbrev pub in_part : ℕ → Part → Bool
in_part i p = leb p.start i && ltb i (p.start + p.len)

-- byte i is on the list
unfoldable pub on_list : ℕ → List Part → Bool
on_list i ps = some (in_part i) ps

-- the two files have the same bytes on the list
abbrev pub Agree : List ℕ → List ℕ → List Part → Type 0
Agree f g ps = (i : ℕ) → T (on_list i ps) → get_or f i 0 ≡ get_or g i 0

-- every answer of every call, for every key and every number of a text asked, every outside text, all lent rows and every output with its contents
pub record SameAnswers (f g : List ℕ) : Type 0 where
  pub verdict : verdict_of f ≡ verdict_of g
  pub judged : judged_of f ≡ judged_of g
  pub counted : (m : ℕ) → rows_of f m ≡ rows_of g m
  pub rows : (lent : List Row) → left_rows f lent ≡ left_rows g lent
  pub cited : (k : ℕ) → cited_of f k ≡ cited_of g k
  pub citations : (k : ℕ) → citation f k ≡ citation g k
  pub texts : (k m : ℕ) → text_of f k m ≡ text_of g k m
  pub metadatas : (k : ℕ) (outside : List ℕ) → metadata_text f k outside ≡ metadata_text g k outside
  pub lengths : (m : ℕ) → block_of f m ≡ block_of g m
  pub blocks : (out : List ℕ) → block_left f out ≡ block_left g out

abbrev pub no_piece : Piece
no_piece = record { index = 0; place = part 0 0 }

-- a part that has bytes, starts at byte 8 or later, and ends within a file of n bytes
pub record Within (n : ℕ) (p : Part) : Type 0 where
  pub some : 0 < p.len
  pub low : 8 ≤ p.start
  pub high : p.start + p.len ≤ n

-- byte i of the file is in piece k, of those of the image and then of the mask
abbrev pub InPiece : List ℕ → ℕ → ℕ → Type 0
InPiece f k i = T (in_part i (get_or (all_pieces f) k no_piece).place)

-- g is f with other bytes in its strips or tiles, of the image and of the mask, and nowhere else
pub record Repainted (f g : List ℕ) : Type 0 where
  pub long : length f ≡ length g
  pub elsewhere : (i : ℕ) → ((k : ℕ) → k < length (all_pieces f) → InPiece f k i → ⊥) → get_or f i 0 ≡ get_or g i 0
