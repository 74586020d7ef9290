-- The gaps of a reading list: parts of a file, and those that a run of further entries names. Assumes nothing.
use Rattle.std.specs.Prelude.{◌≡◌, ℕ, ◌+◌, ◌*◌, ◌<◌, ◌≤◌, min, max, Bool, true, false, cond, ◌&&◌, ◌||◌, List, ◌==◌, nat_le, nat_lt}
use Rattle.paper.specs.Bytes.{num, build}
use Rattle.paper.specs.Tests.{all, some, keep}
use Rattle.paper.specs.Pieces.{part, shares}
use Rattle.paper.specs.declared.Part.{Part}
use Rattle.pieces.specs.declared.Gap.{Gap}

-- the start and the length of a part add up within 64 bits
abbrev pub addable : Part → Bool
addable p = nat_lt p.start 68719476736 && nat_lt p.len 68719476736

-- those of each part of a list
abbrev pub Addable : List Part → Type 0
Addable ps = all addable ps ≡ true

-- a part of more than 4 bytes: a shorter one lies in an entry, and so in the part of the directory
unfoldable pub wide : Part → Bool
wide p = nat_lt 4 p.len

-- those of a list
unfoldable pub parts_of : List Part → List Part
parts_of ps = keep wide ps

-- the part that entry j of a run of entries of BYTEs names: its count is its length, and its offset stands behind it
unfoldable pub named_at : Bool → List ℕ → ℕ → Part
named_at big s j = part (num big 4 s (12 * j + 8)) (num big 4 s (12 * j + 4))

-- those of more than 4 bytes, of so many entries
unfoldable pub named_parts : Bool → List ℕ → ℕ → List Part
named_parts big s many = keep wide (build (named_at big s) 0 many)

-- a part that has no byte from lo up to hi
unfoldable pub clear : ℕ → ℕ → Part → Bool
clear lo hi p = p.len == 0 || (nat_le (p.start + p.len) lo || nat_le hi p.start)

-- the gap that a file of n bytes is, behind its head
abbrev pub whole : ℕ → Gap
whole n = record { lo = 8; hi = n }

-- a place that does not lie in a gap
abbrev pub leaves : Gap → Part → Bool
leaves g p = nat_lt p.start g.lo || nat_lt g.hi (p.start + p.len)

-- and one that does not, or has no bytes
abbrev pub out : Gap → Part → Bool
out g p = nat_lt p.start g.lo || (p.len == 0 || nat_lt g.hi (p.start + p.len))

-- where a part starts that counts, and 0 for one that does not
abbrev pub counted : Part → ℕ
counted p = cond (nat_lt 4 p.len) p.start 0

-- the gap around a byte with one part more
unfoldable pub narrowed : ℕ → Gap → Part → Gap
narrowed byte g p =
    cond (nat_lt byte (counted p))
    (record { lo = g.lo; hi = min g.hi (counted p) })
    (record { lo = max g.lo (counted p + p.len); hi = g.hi })

-- The gap around byte s of a file of n bytes. A place that starts at s shares a byte with the list exactly where s lies below the gap or the place
-- ends past it; where s does not, no part of the list has a byte in the gap.
pub record Found (s n : ℕ) (ps : List Part) (g : Gap) : Type 0 where
  pub low : 8 ≤ g.lo
  pub high : g.hi ≤ n
  pub clash : (l : ℕ) → 0 < l → s + l ≤ n → leaves g (part s l) ≡ true → some (shares (part s l)) ps ≡ true
  pub free : (l : ℕ) → leaves g (part s l) ≡ false → some (shares (part s l)) ps ≡ false
  pub clean : nat_lt s g.lo ≡ false → all (clear g.lo g.hi) ps ≡ true
