-- Document 01, 'Key block', with request C-13: what is written, rules 24 and 25. Assumes nothing.
use Rattle.std.specs.Prelude.{ℕ, ◌+◌, ◌*◌, Bool, cond, not, ◌&&◌, List, [], ◌∷◌, ◌++◌, ltb, eqb, length, drop}
use Rattle.paper.specs.Bytes.{enc, elems}
use Rattle.paper.specs.Outcome.{Outcome, breaks, first_bad, ◌▸◌, first}
use Rattle.paper.specs.Tag
use Rattle.paper.specs.Keys.{Runs, keys, minor_revision, key_count}
use Rattle.paper.specs.Judge.{runs_of}
use Rattle.paper.specs.Calls.{accepts, answer}
use Rattle.paper.specs.declared.Verdict.{Verdict}
use Rattle.paper.specs.declared.KeyEntry.{KeyEntry}
use Rattle.paper.specs.declared.Block.{Block}

-- the lists that g gives, one after the other
unfoldable pub joined : {A : Type 0} → (A → List ℕ) → List A → List ℕ
joined g [] = []
joined g (x ∷ xs) = g x ++ joined g xs

-- numbers of w bytes each, little-endian
unfoldable pub encs : ℕ → List ℕ → List ℕ
encs w ns = joined (enc w) ns

-- ---- values

-- the elements of an entry, of w bytes each, in the run that holds them
unfoldable pub elements : Bool → ℕ → List ℕ → KeyEntry → List ℕ
elements big w s e = elems big w e.count (drop (w * e.index) s)

-- those of the entries at a location; none of the others
unfoldable pub values_at : Bool → ℕ → ℕ → List ℕ → KeyEntry → List ℕ
values_at big location w s e = cond (eqb e.location location) (elements big w s e) []

unfoldable pub short_values : Runs → List ℕ
short_values r = joined (values_at r.big Tag.key_directory 2 r.directory) (keys r)

unfoldable pub double_values : Runs → List ℕ
double_values r = joined (values_at r.big Tag.doubles 8 r.doubles) (keys r)

unfoldable pub character_values : Runs → List ℕ
character_values r = joined (values_at r.big Tag.characters 1 r.characters) (keys r)

-- ---- entries with their new indexes

unfoldable pub count_if_at : ℕ → KeyEntry → ℕ
count_if_at location e = cond (eqb e.location location) e.count 0

-- a, d and c elements stand before, in the three arrays
unfoldable pub new_index : ℕ → ℕ → ℕ → KeyEntry → ℕ
new_index a d c e =
    cond (eqb e.location Tag.key_directory) a (cond (eqb e.location Tag.doubles) d (cond (eqb e.location Tag.characters) c e.index))

abbrev pub with_index : KeyEntry → ℕ → KeyEntry
with_index e i = record { key = e.key; location = e.location; count = e.count; index = i }

unfoldable pub moved : ℕ → ℕ → ℕ → List KeyEntry → List KeyEntry
moved a d c [] = []
moved a d c (e ∷ es) =
    with_index e (new_index a d c e) ∷ moved (a + count_if_at Tag.key_directory e) (d + count_if_at Tag.doubles e) (c + count_if_at Tag.characters e) es

unfoldable pub moved_keys : Runs → List KeyEntry
moved_keys r = moved (4 + 4 * key_count r) 0 0 (keys r)

unfoldable pub entry_numbers : KeyEntry → List ℕ
entry_numbers e = e.key ∷ e.location ∷ e.count ∷ e.index ∷ []

-- ---- the block

-- the header has the minor revision that was read
unfoldable pub directory_numbers : Runs → List ℕ
directory_numbers r = 1 ∷ 1 ∷ minor_revision r ∷ key_count r ∷ (joined entry_numbers (moved_keys r) ++ short_values r)

unfoldable pub block_directory : Runs → List ℕ
block_directory r = encs 2 (directory_numbers r)

unfoldable pub block_doubles : Runs → List ℕ
block_doubles r = encs 8 (double_values r)

unfoldable pub block_characters : Runs → List ℕ
block_characters r = encs 1 (character_values r)

unfoldable pub block_bytes : Runs → List ℕ
block_bytes r = block_directory r ++ (block_doubles r ++ block_characters r)

unfoldable pub too_far : KeyEntry → Bool
too_far e = not (eqb e.location 0) && ltb 65535 e.index

unfoldable pub rule24 : Runs → Outcome
rule24 r = first_bad too_far (λ e. e.key) (moved_keys r)

-- m bytes lent
unfoldable pub rule25 : Runs → ℕ → Outcome
rule25 r m = breaks (ltb m (length (block_bytes r))) (length (block_bytes r))

abbrev pub block : Verdict → ℕ → ℕ → ℕ → Block
block v d x c =
    record
    { verdict = v; directory = cond (accepts v) d 0; doubles = cond (accepts v) x 0; characters = cond (accepts v) c 0 }

unfoldable pub block_verdict : ℕ → Runs → Verdict
block_verdict m r = first (24 ▸ rule24 r ∷ 25 ▸ rule25 r m ∷ [])

unfoldable pub block_in : ℕ → Runs → Block
block_in m r =
    block (block_verdict m r) (length (block_directory r)) (length (block_doubles r)) (length (block_characters r))

unfoldable pub block_of : List ℕ → ℕ → Block
block_of f m = answer f (λ w. block_in m (runs_of w)) (λ v. block v 0 0 0)

-- what the lent bytes then hold
unfoldable pub block_over : List ℕ → Runs → List ℕ
block_over out r =
    cond (accepts (block_verdict (length out) r)) (block_bytes r ++ drop (length (block_bytes r)) out) out

unfoldable pub block_left : List ℕ → List ℕ → List ℕ
block_left f out = answer f (λ w. block_over out (runs_of w)) (λ v. out)
