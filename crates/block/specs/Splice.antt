-- What a writer leaves: bytes laid into a list at a place. The bytes of the entries, of their values and of the whole block, and what is asked to write them.
-- Assumes nothing.
use Rattle.std.specs.Prelude.{ℕ, ◌+◌, ◌*◌, ◌≤◌, ◌<◌, ◌≡◌, Bool, ◌⊎◌, List, [], ◌∷◌, ◌++◌, length, take, drop}
use Rattle.paper.specs.Bytes.{build}
use Rattle.paper.specs.Tag
use Rattle.paper.specs.Keys.{key_at}
use Rattle.paper.specs.Block.{joined, encs, values_at, moved, entry_numbers}
use Rattle.paper.specs.declared.KeyEntry.{KeyEntry}
use Rattle.keys.specs.Pass.{runs}

-- d with w laid into it from index at on
unfoldable pub splice : List ℕ → ℕ → List ℕ → List ℕ
splice d at w = take at d ++ w ++ drop (at + length w) d

-- characters, SHORTs or DOUBLEs
abbrev pub Wide : ℕ → Type 0
Wide w = (w ≡ 1) ⊎ ((w ≡ 2) ⊎ (w ≡ 8))

-- the first k entries of a key directory
abbrev pub entries_of : Bool → List ℕ → ℕ → List KeyEntry
entries_of big d k = build (key_at (runs big d [] [])) 0 k

-- their bytes, with their new indexes
abbrev pub entry_bytes : Bool → List ℕ → ℕ → List ℕ
entry_bytes big d k = encs 2 (joined entry_numbers (moved (4 + 4 * k) 0 0 (entries_of big d k)))

-- the bytes of their values at location l, of w bytes an element, out of the run s
abbrev pub value_bytes : Bool → ℕ → ℕ → List ℕ → List ℕ → ℕ → List ℕ
value_bytes big w l s d k = encs w (joined (values_at big l w s) (entries_of big d k))

-- the value of an entry at location l lies in s
abbrev pub LiesIn : ℕ → ℕ → List ℕ → KeyEntry → Type 0
LiesIn l w s e = e.location ≡ l → w * e.index + w * e.count ≤ length s

-- those of the first k entries do
abbrev pub AllLie : Bool → List ℕ → ℕ → ℕ → List ℕ → ℕ → Type 0
AllLie big d l w s k = (i : ℕ) → i < k → LiesIn l w s (key_at (runs big d [] []) i)

-- what is asked to write the values of the first k entries at location l into n bytes, from index at on
pub record Values (big : Bool) (d s : List ℕ) (w l k at n : ℕ) : Type 0 where
  pub wide : Wide w
  pub lie : AllLie big d l w s k
  pub fits : at + length (value_bytes big w l s d k) ≤ n

-- the whole block of three runs, with minor revision m and k keys: the header, the entries, and the values of each location
abbrev pub laid_bytes : Bool → List ℕ → List ℕ → List ℕ → ℕ → ℕ → List ℕ
laid_bytes big d x c m k =
    encs 2 (1 ∷ 1 ∷ m ∷ k ∷ [])
    ++ (entry_bytes big d k
    ++ (value_bytes big 2 Tag.key_directory d d k ++ (value_bytes big 8 Tag.doubles x d k ++ value_bytes big 1 Tag.characters c d k)))

-- what is asked to write it into n bytes, where the directory gets dn of them and the doubles xn
pub record Roomy (big : Bool) (d x c : List ℕ) (k dn xn n : ℕ) : Type 0 where
  pub shorts_lie : AllLie big d Tag.key_directory 2 d k
  pub doubles_lie : AllLie big d Tag.doubles 8 x k
  pub characters_lie : AllLie big d Tag.characters 1 c k
  pub directory : dn ≡ 8 + 8 * k + length (value_bytes big 2 Tag.key_directory d d k)
  pub doubles : xn ≡ length (value_bytes big 8 Tag.doubles x d k)
  pub fits : dn + xn + length (value_bytes big 1 Tag.characters c d k) ≤ n
