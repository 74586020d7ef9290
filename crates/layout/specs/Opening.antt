-- What rules 1 to 3 answer for a file, rules 4 and 5 for a directory at an offset, and rules 6 and 7 for a directory: the first broken rule
-- with its place, or what is then known. Assumes nothing.
use Rattle.std.specs.Prelude.{ℕ, ◌≡◌, Bool, cond, List, length, Option, Some, None, Result, Ok}
use Rattle.paper.specs.Outcome.{first, verdict, or_else, ◌▷◌}
use Rattle.paper.specs.Layout.{entries, next_offset, behind, rule6}
use Rattle.paper.specs.Judge.{Head as Place, head_in, count_in, entry_rules, head_stage, offset_stage, count_stage}
use Rattle.paper.specs.declared.Outcome.{Outcome}
use Rattle.paper.specs.declared.Outcome.TheVariants.{Kept as kept, Broken as broken}
use Rattle.paper.specs.declared.Entry.{Entry}
use Rattle.paper.specs.declared.Verdict.{Verdict}
use Rattle.outcomes.specs.Ruled.{ruled}
use Rattle.layout.specs.declared.Head.{Head}
use Rattle.layout.specs.declared.Directory.{Directory}
use Rattle.layout.specs.declared.Scanned.{Scanned}
use Rattle.layout.specs.declared.Ordered.{Ordered}
use Rattle.layout.specs.declared.Further.{Further}
use Rattle.layout.specs.Repeats.{no_further, further_of}

-- ---- the head

-- rules 1 to 3
unfoldable pub headed_of : List ℕ → Result Head Verdict
headed_of f = ruled (head_stage f) (record { big = (head_in f).big; at = (head_in f).at })

-- ---- a directory, at the place that h names

-- rules 4 and 5
unfoldable pub opened_of : List ℕ → Place → Result Directory Verdict
opened_of f h = ruled (offset_stage h ▷ count_stage f h) (record { big = h.big; at = h.at; count = count_in f h })

-- rules 1 to 5 are kept, and a directory of c entries is laid at the place that the head names
pub record LaidAt (f : List ℕ) (big : Bool) (at c : ℕ) : Type 0 where
  pub head : headed_of f ≡ Ok (record { big = big; at = at })
  pub count : opened_of f (record { size = length f; big = big; at = at }) ≡ Ok (record { big = big; at = at; count = c })

-- the entries of a directory whose bytes are dir
abbrev pub entries_of : Directory → List ℕ → List Entry
entries_of d dir = entries d.big d.at d.count dir

-- where the further entries of 50909 stand, told where rule 6 is kept
abbrev pub further_by : Outcome → ℕ → List Entry → Further
further_by kept at es = further_of at es
further_by (broken p) at es = no_further

-- rules 6 and 7, the next offset and the further entries of 50909, of a directory of c entries whose bytes are dir
unfoldable pub scanned_of : Place → ℕ → List ℕ → Scanned
scanned_of h c dir =
    let es : List Entry = entries h.big h.at c dir in
    record { judged = ruled (first (entry_rules h es)) tt; next = next_offset h.big c dir; further = further_by (rule6 es) h.at es }

-- those of directory d, in a file of n bytes
abbrev pub scanned_at : ℕ → Directory → List ℕ → Scanned
scanned_at n d dir = scanned_of (record { size = n; big = d.big; at = d.at }) d.count dir

-- rule 6, with a tag in front of the next one, if there is one
abbrev pub follow_of : ℕ → Option ℕ → Outcome → Outcome
follow_of t None later = later
follow_of t (Some n) later = cond (behind t n) later (broken n)

-- rule 6 and the further entries of 50909
unfoldable pub ordered_of : List Entry → ℕ → Ordered
ordered_of es at = record { six = rule6 es; further = further_by (rule6 es) at es }

-- what follows from them and from rule 7, in a directory of c entries
unfoldable pub concluded_of : Bool → ℕ → List ℕ → Ordered → Outcome → Scanned
concluded_of big c dir o seven =
    record { judged = ruled (or_else 6 o.six (or_else 7 seven (verdict 0 0))) tt; next = next_offset big c dir; further = o.further }
