-- How the files of the examples are written: fields, each a tag with the elements of its value, in either byte order; that those of file A give
-- file A is computed. Assumes nothing.
use Prim.Native.Nat.{ℕ, ◌+◌, ◌*◌, ◌%◌}
use mathlib.Core.Path.{◌≡◌, refl}
use mathlib.Core.Bool.{Bool, false, cond}
use mathlib.Core.List.{List, [], ◌∷◌, ◌++◌, reverse}
use lib.Dec.{leb}
use lib.ListN.{length, replicate, take}
use lib.Seq.{sets}
use Rattle.paper.specs.Bytes.{enc}
use Rattle.paper.specs.Block.{joined}
use Rattle.paper.proofs.Marked.{file_a}

-- the number n in w bytes, in a byte order
unfoldable pub written : Bool → ℕ → ℕ → List ℕ
unfolding enc
written big w n = cond big (reverse (enc w n)) (enc w n)

-- a tag, its type, the size of an element in bytes, the elements
pub record Field : Type 0 where
  pub tag : ℕ
  pub type : ℕ
  pub size : ℕ
  pub elements : List ℕ

abbrev field : ℕ → ℕ → ℕ → List ℕ → Field
field t y s ns = record { tag = t; type = y; size = s; elements = ns }

unfoldable pub bytes : ℕ → List ℕ → Field
bytes t ns = field t 1 1 ns

unfoldable pub ascii : ℕ → List ℕ → Field
ascii t ns = field t 2 1 ns

unfoldable pub shorts : ℕ → List ℕ → Field
shorts t ns = field t 3 2 ns

unfoldable pub longs : ℕ → List ℕ → Field
longs t ns = field t 4 4 ns

-- each by its 64 bits
unfoldable pub doubles : ℕ → List ℕ → Field
doubles t ns = field t 12 8 ns

-- a value of more than 4 bytes stands behind the directory, made up to an even number of bytes
unfoldable pub values : Bool → Field → List ℕ
unfolding joined written
values big x = joined (written big x.size) x.elements

unfoldable pub bytes_of : Field → ℕ
bytes_of x = x.size * length x.elements

unfoldable pub behind : Bool → Field → List ℕ
unfolding values bytes_of
behind big x = cond (leb (bytes_of x) 4) [] (values big x ++ replicate (bytes_of x % 2) 0)

-- the entries, of which the first value behind the directory stands at `at`
unfoldable pub entries : Bool → ℕ → List Field → List ℕ
unfolding written values bytes_of behind
entries big at [] = []
entries big at (x ∷ xs) =
    written big 2 x.tag
    ++ written big 2 x.type
    ++ written big 4 (length x.elements)
    ++ cond (leb (bytes_of x) 4) (take 4 (values big x ++ replicate 4 0)) (written big 4 at)
    ++ entries big (at + length (behind big x)) xs

-- A directory at `at` with a next offset, the values behind it, the picture at the end. The fields are told where the picture starts.
unfoldable pub standing : Bool → ℕ → ℕ → (ℕ → List Field) → List ℕ → List ℕ
unfolding written behind entries joined
standing big at next fields picture =
    let from : ℕ = at + 6 + 12 * length (fields 0) in
    let xs : List Field = fields (from + length (joined (behind big) (fields 0))) in
    written big 2 (length xs)
    ++ entries big from xs
    ++ written big 4 next
    ++ joined (behind big) xs
    ++ picture

-- a file with a directory at 8
unfoldable pub laid : Bool → (ℕ → List Field) → List ℕ → List ℕ
unfolding written standing
laid big fields picture =
    cond big (0x4D ∷ 0x4D ∷ []) (0x49 ∷ 0x49 ∷ [])
    ++ written big 2 42
    ++ written big 4 8
    ++ standing big 8 0 fields picture

-- a second directory behind a file, whose next offset stands at `next`
unfoldable pub followed : Bool → List ℕ → ℕ → (ℕ → List Field) → List ℕ → List ℕ
unfolding written standing
followed big f next fields picture = sets f next (written big 4 (length f)) ++ standing big (length f) 0 fields picture

-- ---- the fields of file A

-- 256 to 279: a picture of 4 by 2 in one strip at `at`
unfoldable pub front : ℕ → List Field
unfolding shorts
front at =
    shorts 256 (4 ∷ [])
    ∷ shorts 257 (2 ∷ [])
    ∷ shorts 258 (8 ∷ [])
    ∷ shorts 259 (1 ∷ [])
    ∷ shorts 262 (1 ∷ [])
    ∷ shorts 273 (at ∷ [])
    ∷ shorts 277 (1 ∷ [])
    ∷ shorts 278 (2 ∷ [])
    ∷ shorts 279 (8 ∷ [])
    ∷ []

-- 0.5 by 0.5, and (0, 0) at (500000, 4000000)
unfoldable pub scale : Field
unfolding doubles
scale = doubles 33550 (0x3FE0000000000000 ∷ 0x3FE0000000000000 ∷ 0 ∷ [])

unfoldable pub tiepoint : Field
unfolding doubles
tiepoint = doubles 33922 (0 ∷ 0 ∷ 0 ∷ 0x411E848000000000 ∷ 0x414E848000000000 ∷ 0 ∷ [])

-- a key entry, and the key directory of some, with an array behind them
unfoldable pub key : ℕ → ℕ → ℕ → ℕ → List ℕ
key k l c i = k ∷ l ∷ c ∷ i ∷ []

unfoldable pub directory : List (List ℕ) → List ℕ → Field
unfolding shorts joined
directory ks array = shorts 34735 (1 ∷ 1 ∷ 0 ∷ length ks ∷ joined (λ k. k) ks ++ array)

unfoldable pub keys_a : Field
unfolding key directory
keys_a = directory (key 1024 0 1 1 ∷ key 1025 0 1 1 ∷ key 3072 0 1 32633 ∷ []) []

unfoldable pub fields_a : ℕ → List Field
unfolding front scale tiepoint keys_a
fields_a at = front at ++ scale ∷ tiepoint ∷ keys_a ∷ []

unfoldable pub strip : List ℕ
strip = replicate 8 0

-- written little-endian they are file A
pub same_A : laid false fields_a strip ≡ file_a
unfolding laid fields_a strip file_a
same_A = refl
