-- Document 01, 'Layout', and rules 1 to 8, rule 6 as request C-12 leaves it: the head, the count, the directory.
-- Each rule is a function of the file's length n and of runs of the file, never of the file itself. Assumes nothing.
use Rattle.std.specs.Prelude.{ℕ, ◌+◌, ◌*◌, ◌%◌, Bool, cond, not, ◌&&◌, ◌||◌, List, [], ◌∷◌, map, ltb, leb, eqb, get_or}
use Rattle.paper.specs.Bytes.{num, build}
use Rattle.paper.specs.Outcome.{Outcome, breaks, first_bad, ordered}
use Rattle.paper.specs.Tag
use Rattle.paper.specs.declared.Entry.{Entry}

abbrev pub odd : ℕ → Bool
odd x = eqb (x % 2) 1

-- ---- the head: the first 8 bytes

-- the longest file
abbrev pub most_bytes : ℕ
most_bytes = 4294967295

-- bytes 0 and 1 are both b
abbrev pub marked : List ℕ → ℕ → Bool
marked head b = eqb (get_or head 0 0) b && eqb (get_or head 1 0) b

abbrev pub little_mark : ℕ
little_mark = 0x49

abbrev pub big_mark : ℕ
big_mark = 0x4D

-- the byte order of a head that keeps rule 2
abbrev pub is_big : List ℕ → Bool
is_big head = eqb (get_or head 0 0) big_mark

-- the directory's offset
unfoldable pub dir_at : List ℕ → ℕ
dir_at head = num (is_big head) 4 head 4

unfoldable pub rule1 : ℕ → Outcome
rule1 n = breaks (ltb n 8 || ltb most_bytes n) 0

unfoldable pub rule2 : List ℕ → Outcome
rule2 head = breaks (not (marked head little_mark || marked head big_mark)) 0

unfoldable pub rule3 : List ℕ → Outcome
rule3 head = breaks (not (eqb (num (is_big head) 2 head 2) 42)) 0

unfoldable pub rule4 : ℕ → ℕ → Outcome
rule4 n at = breaks (odd at || (ltb at 8 || ltb n (at + 2))) 0

-- ---- the count c: the 2 bytes at the directory's offset

abbrev pub most_entries : ℕ
most_entries = 1024

-- the directory's length: the count, c entries of 12 bytes, the next offset
abbrev pub dir_len : ℕ → ℕ
dir_len c = 2 + 12 * c + 4

unfoldable pub rule5 : ℕ → ℕ → ℕ → Outcome
rule5 n at c = breaks (eqb c 0 || (ltb most_entries c || ltb n (at + dir_len c))) 0

-- ---- the directory

-- the sizes of types 1 to 12, behind a 0 for the type 0 that does not exist
abbrev pub sizes : List ℕ
sizes = 0 ∷ 1 ∷ 1 ∷ 2 ∷ 4 ∷ 8 ∷ 1 ∷ 1 ∷ 2 ∷ 4 ∷ 8 ∷ 4 ∷ 8 ∷ []

-- the size of an element of a type; 0 for a type other than 1 to 12, so that its value has no bytes
unfoldable pub size_of : ℕ → ℕ
size_of t = get_or sizes t 0

-- Where a value of len bytes stands. The entry's bytes start at p of the directory, which starts at `at` of the file: the value is in the
-- entry, from its byte 8, where it has at most 4 bytes, and else at the offset that stands there.
unfoldable pub start_of : Bool → ℕ → List ℕ → ℕ → ℕ → ℕ
start_of big at dir p len = cond (leb len 4) (at + (p + 8)) (num big 4 dir (p + 8))

unfoldable pub entry_of : Bool → ℕ → List ℕ → ℕ → Entry
entry_of big at dir p =
    let typ : ℕ = num big 2 dir (p + 2) in
    let count : ℕ = num big 4 dir (p + 4) in
    let len : ℕ = size_of typ * count in
    record { tag = num big 2 dir p; typ = typ; count = count; start = start_of big at dir p len; len = len }

-- entry i, counted from 0
abbrev pub entry_at : Bool → ℕ → List ℕ → ℕ → Entry
entry_at big at dir i = entry_of big at dir (2 + 12 * i)

unfoldable pub entries : Bool → ℕ → ℕ → List ℕ → List Entry
entries big at c dir = build (entry_at big at dir) 0 c

-- tag b may stand behind tag a: it is greater, or both are 50909, which may stand more than once
unfoldable pub behind : ℕ → ℕ → Bool
behind a b = ltb a b || (eqb a Tag.metadata && eqb b Tag.metadata)

unfoldable pub rule6 : List Entry → Outcome
rule6 es = ordered behind (map (λ e. e.tag) es)

-- an entry of type 1 to 12
abbrev pub typed : Entry → Bool
typed e = ltb 0 (size_of e.typ)

-- count 0, or a value of more than 4 bytes that starts odd, below 8, or ends past n
unfoldable pub bad_value : ℕ → Entry → Bool
bad_value n e =
    typed e
    && (eqb e.count 0
    || (ltb 4 e.len && (odd e.start || (ltb e.start 8 || ltb n (e.start + e.len)))))

unfoldable pub rule7 : ℕ → List Entry → Outcome
rule7 n es = first_bad (bad_value n) (λ e. e.tag) es

-- the next offset stands behind the entries
unfoldable pub next_offset : Bool → ℕ → List ℕ → ℕ
next_offset big c dir = num big 4 dir (2 + 12 * c)

unfoldable pub rule8 : ℕ → Outcome
rule8 next = breaks (not (eqb next 0)) 0
