-- What each call answers, and what it leaves in lent memory; rules 23 and 26, and 29 of request C-12. Assumes nothing.
use Rattle.std.specs.Prelude.{ℕ, ◌+◌, ◌-◌, ◌*◌, Bool, false, cond, not, ◌&&◌, ◌||◌, List, [], ◌∷◌, ◌++◌, ltb, eqb, length, get_or, drop}
use Rattle.paper.specs.Bytes.{run, build}
use Rattle.paper.specs.Outcome.{Outcome, breaks, ◌▸◌, first, verdict}
use Rattle.paper.specs.Tag
use Rattle.paper.specs.Tests.{keep}
use Rattle.paper.specs.Tags.{Held, absent, find}
use Rattle.paper.specs.Keys.{Runs, key_at, minor_revision, key_count, keys, has_key, find_key, ascii_kind, kind_of, key_rules}
use Rattle.paper.specs.Ground.{corners, georeference, zero64}
use Rattle.paper.specs.Judge.{View, view, runs_of, survey_of, verdict_of}
use Rattle.paper.specs.declared.Verdict.{Verdict}
use Rattle.paper.specs.declared.Entry.{Entry}
use Rattle.paper.specs.declared.KeyEntry.{KeyEntry}
use Rattle.paper.specs.declared.Row.{Row}
use Rattle.paper.specs.declared.Corners.{Corners}
use Rattle.paper.specs.declared.Georeference.{Georeference}
use Rattle.paper.specs.declared.Georeference.TheVariants.{Scaled}
use Rattle.paper.specs.declared.Judged.{Judged}
use Rattle.paper.specs.declared.Counted.{Counted}
use Rattle.paper.specs.declared.BlockRead.{BlockRead}
use Rattle.paper.specs.declared.Cited.{Cited}
use Rattle.paper.specs.declared.Text.{Text}

abbrev pub accepts : Verdict → Bool
accepts v = eqb v.number 0

-- Every call on a file has this shape: what the view gives where the rules of the file are kept, and else what the verdict alone gives.
unfoldable pub answer : {A : Type 0} → List ℕ → (View → A) → (Verdict → A) → A
answer f good bad = cond (accepts (verdict_of f)) (good (view f)) (bad (verdict_of f))

-- ---- the whole judgement: verdict, K, the minor revision and the place on the ground

abbrev pub no_corners : Corners
no_corners = record { x0 = zero64; y0 = zero64; x1 = zero64; y1 = zero64 }

abbrev pub no_georeference : Georeference
no_georeference = Scaled zero64 zero64 zero64 zero64 zero64 zero64

unfoldable pub judged_in : View → Judged
judged_in w =
    record {
      verdict = verdict 0 0;
      keys = key_count (runs_of w);
      minor = minor_revision (runs_of w);
      georeference = georeference (survey_of w);
      corners = corners (survey_of w);
    }

abbrev pub not_judged : Verdict → Judged
not_judged v = record { verdict = v; keys = 0; minor = 0; georeference = no_georeference; corners = no_corners }

unfoldable pub judged_of : List ℕ → Judged
judged_of f = answer f judged_in not_judged

-- ---- key rows

-- where the three tags' values start in the file
pub record Starts : Type 0 where
  pub directory : ℕ
  pub doubles : ℕ
  pub characters : ℕ

unfoldable pub starts_of : View → Starts
starts_of v =
    record {
      directory = (find Tag.key_directory v.held).entry.start;
      doubles = (find Tag.doubles v.held).entry.start;
      characters = (find Tag.characters v.held).entry.start;
    }

-- where key entry i stands in the file: 8 bytes of header and i entries of 8 bytes behind the start of the key directory
abbrev pub entry_place : Starts → ℕ → ℕ
entry_place s i = s.directory + (8 + 8 * i)

-- The row of key entry i: where its value stands, and where the entry does. At location 0 the value is the entry's fourth SHORT, the last 2 of its 8 bytes.
unfoldable pub row_of : Starts → ℕ → KeyEntry → Row
row_of s i e =
    let row : ℕ → ℕ → Row = λ first len. record { key = e.key; kind = kind_of e.key; first = first; len = len; entry = entry_place s i } in
    cond (eqb e.location 0) (row (entry_place s i + 6) 2)
    (cond (eqb e.location Tag.key_directory) (row (s.directory + 2 * e.index) (2 * e.count))
    (cond (eqb e.location Tag.doubles) (row (s.doubles + 8 * e.index) (8 * e.count))
    (row (s.characters + e.index) e.count)))

unfoldable pub row_at : View → ℕ → Row
row_at v i = row_of (starts_of v) i (key_at (runs_of v) i)

unfoldable pub rows_in : View → List Row
rows_in v = build (row_at v) 0 (key_count (runs_of v))

-- K, or 0 with any number but 0
abbrev pub counted : Verdict → ℕ → Counted
counted v k = record { verdict = v; keys = cond (accepts v) k 0 }

-- m rows lent
unfoldable pub rule23 : ℕ → ℕ → Outcome
rule23 m k = breaks (ltb m k) k

unfoldable pub counted_in : ℕ → View → Counted
counted_in m w = counted (first (23 ▸ rule23 m (key_count (runs_of w)) ∷ [])) (key_count (runs_of w))

unfoldable pub rows_of : List ℕ → ℕ → Counted
rows_of f m = answer f (counted_in m) (λ v. counted v 0)

-- what the lent rows then hold: the first K are written, the others keep their content; nothing changes on a refusal
unfoldable pub rows_over : List Row → View → List Row
rows_over lent w =
    cond (ltb (length lent) (key_count (runs_of w))) lent (rows_in w ++ drop (key_count (runs_of w)) lent)

unfoldable pub left_rows : List ℕ → List Row → List Row
left_rows f lent = answer f (rows_over lent) (λ v. lent)

-- ---- a citation

unfoldable pub rule26 : ℕ → List KeyEntry → Outcome
rule26 k ks = breaks (not (eqb (kind_of k) ascii_kind && has_key k ks)) k

abbrev pub cited : Verdict → ℕ → ℕ → Cited
cited v s l = record { verdict = v; start = cond (accepts v) s 0; len = cond (accepts v) l 0 }

unfoldable pub cited_in : ℕ → View → Cited
cited_in k w =
    let e : KeyEntry = find_key k (keys (runs_of w)) in
    cited (first (26 ▸ rule26 k (keys (runs_of w)) ∷ [])) ((starts_of w).characters + e.index) (e.count - 1)

unfoldable pub cited_of : List ℕ → ℕ → Cited
cited_of f k = answer f (cited_in k) (λ v. cited v 0 0)

-- the part of the file that is handed back: one character short of the key's count
unfoldable pub citation : List ℕ → ℕ → List ℕ
citation f k = run f (cited_of f k).start (cited_of f k).len

-- ---- a metadata text, by its number

-- the entries of tag 50909, in the directory's order
unfoldable pub texts_in : View → List Held
texts_in w = keep (λ h. eqb h.entry.tag Tag.metadata) w.held

-- a text of number k is there: the file has more than k of these tags, or it has none at all, where the outside text is number 0
unfoldable pub rule29 : ℕ → List Held → Outcome
rule29 k ts = breaks (not (ltb k (length ts) || (eqb (length ts) 0 && eqb k 0))) k

-- where the text stands: from 0 in the file, from 1 in the outside text
abbrev pub given : Verdict → ℕ → ℕ → ℕ → Text
given v from s l =
    record { verdict = v; from = cond (accepts v) from 0; start = cond (accepts v) s 0; len = cond (accepts v) l 0 }

-- text k, with m bytes of outside text
unfoldable pub text_within : ℕ → ℕ → View → Text
text_within k m w =
    let ts : List Held = texts_in w in
    let e : Entry = (get_or ts k absent).entry in
    let v : Verdict = first (29 ▸ rule29 k ts ∷ []) in
    cond (eqb (length ts) 0) (given v 1 0 m) (given v 0 e.start e.len)

unfoldable pub text_of : List ℕ → ℕ → ℕ → Text
text_of f k m = answer f (text_within k m) (λ v. given v 0 0 0)

-- the part of the file, or of the outside text, that is handed back
unfoldable pub metadata_text : List ℕ → ℕ → List ℕ → List ℕ
metadata_text f k outside =
    let t : Text = text_of f k (length outside) in
    run (cond (eqb t.from 0) f outside) t.start t.len

-- ---- reading three runs back, without a file

-- the three runs as they are lent: little-endian, an empty one is an absent tag, left-over bytes make no element
unfoldable pub back_of : List ℕ → List ℕ → List ℕ → Runs
back_of d x c = record { big = false; directory = d; doubles = x; characters = c }

-- K and the minor revision, or 0 and 0 with any number but 0
abbrev pub block_read : Verdict → ℕ → ℕ → BlockRead
block_read v k m = record { verdict = v; keys = cond (accepts v) k 0; minor = cond (accepts v) m 0 }

unfoldable pub read_runs : Runs → BlockRead
read_runs r = block_read (first (key_rules r)) (key_count r) (minor_revision r)

unfoldable pub reading_back : List ℕ → List ℕ → List ℕ → BlockRead
reading_back d x c = read_runs (back_of d x c)
