-- Rules 15 to 19 as one pass over the key entries finds them, and what the judgement of the keys answers. Assumes nothing.
use Rattle.std.specs.Prelude.{ℕ, Bool, true, false, cond, not, ◌&&◌, List, [], ◌∷◌, leb, eqb, Option, Some, None, Result}
use Rattle.paper.specs.Bytes.{build}
use Rattle.paper.specs.Outcome.{breaks, first_of, Rule, ◌▸◌, first}
use Rattle.paper.specs.declared.Outcome.{Outcome}
use Rattle.paper.specs.declared.Outcome.TheVariants.{Kept as kept, Broken as broken}
use Rattle.paper.specs.Tests.{Range, between, just, allows}
use Rattle.paper.specs.Key
use Rattle.paper.specs.Keys.{Runs, minor_revision, key_count, key_at, keys, key_value, rule15, rule16, rule17, rule18, rule19, key_rules}
use Rattle.paper.specs.declared.Verdict.{Verdict}
use Rattle.paper.specs.declared.KeyEntry.{KeyEntry}
use Rattle.keys.specs.declared.KeysJudged.{KeysJudged}
use Rattle.keys.specs.declared.Values.{Values}
use Rattle.keys.specs.declared.Found.{Found}
use Rattle.outcomes.specs.Ruled.{ruled}

abbrev pub runs : Bool → List ℕ → List ℕ → List ℕ → Runs
runs big d x c = record { big = big; directory = d; doubles = x; characters = c }

-- the values that code holds, in a byte order; which one does not matter to a value's place
abbrev pub lent_in : Bool → Values → Runs
lent_in big v = runs big v.directory.now v.doubles.now v.characters.now

abbrev pub lent : Values → Runs
lent v = lent_in false v

-- ---- the header

-- minor revision and K
pub record Head : Type 0 where
  pub minor : ℕ
  pub count : ℕ

abbrev pub head_of : ℕ → ℕ → Head
head_of m k = record { minor = m; count = k }

-- where rule 15 is kept
unfoldable pub header_of : Runs → Result Head Verdict
header_of r = ruled (first (15 ▸ rule15 r ∷ [])) (head_of (minor_revision r) (key_count r))

-- ---- the answer

-- K, the minor revision and whether raster type is PixelIsPoint
abbrev pub told_of : Runs → KeysJudged
told_of r = record { keys = key_count r; minor = minor_revision r; point = eqb (key_value Key.raster_type (keys r)) 2 }

unfoldable pub keys_judged : Runs → Result KeysJudged Verdict
keys_judged r = ruled (first (key_rules r)) (told_of r)

-- rules 16 to 19, over the key entries ks
abbrev pub entry_rules : Runs → List KeyEntry → List Rule
entry_rules r ks = 16 ▸ rule16 ks ∷ 17 ▸ rule17 r ks ∷ 18 ▸ rule18 ks ∷ 19 ▸ rule19 ks ∷ []

-- the answer of the rules after 15, behind a header
unfoldable pub entries_judged : Runs → Head → Result KeysJudged Verdict
entries_judged r h =
    let ks : List KeyEntry = build (key_at r) 0 h.count in
    ruled (first (entry_rules r ks)) (record { keys = h.count; minor = h.minor; point = eqb (key_value Key.raster_type ks) 2 })

-- rule 16, with a key in front of the next one, if there is one
abbrev pub rise_of : ℕ → Option ℕ → Outcome → Outcome
rise_of k None later = later
rise_of k (Some n) later = cond (leb n k) (broken n) later

-- rule 17, with an entry of a key in front, which is as its kind asks or not
abbrev pub place_of : Bool → ℕ → Outcome → Outcome
place_of placed k later = cond placed later (broken k)

-- ---- what is found of a key

-- the number of a key
unfoldable pub held : ℕ → List KeyEntry → Option ℕ
held k [] = None
held k (e ∷ es) = cond (eqb e.key k) (Some e.index) (held k es)

-- the numbers of the keys that rules 18 and 19 ask for
abbrev pub found_in : List KeyEntry → Found
found_in ks =
    record {
      model = held Key.model_type ks;
      raster = held Key.raster_type ks;
      geodetic = held Key.geodetic_crs ks;
      angular = held Key.angular_units ks;
      projected = held Key.projected_crs ks;
      linear = held Key.linear_units ks;
      vertical = held Key.vertical_crs ks;
    }

-- with one entry more in front
abbrev pub found_with : KeyEntry → Found → Found
found_with e f =
    record {
      model = cond (eqb e.key Key.model_type) (Some e.index) f.model;
      raster = cond (eqb e.key Key.raster_type) (Some e.index) f.raster;
      geodetic = cond (eqb e.key Key.geodetic_crs) (Some e.index) f.geodetic;
      angular = cond (eqb e.key Key.angular_units) (Some e.index) f.angular;
      projected = cond (eqb e.key Key.projected_crs) (Some e.index) f.projected;
      linear = cond (eqb e.key Key.linear_units) (Some e.index) f.linear;
      vertical = cond (eqb e.key Key.vertical_crs) (Some e.index) f.vertical;
    }

-- ---- rules 18 and 19, from what is found

-- the key is absent
abbrev pub absent : Option ℕ → Bool
absent None = true
absent (Some n) = false

-- the key is present with a number
abbrev pub has : Option ℕ → ℕ → Bool
has None v = false
has (Some n) v = eqb n v

unfoldable pub needed : Found → Outcome
needed f =
    first_of
    (breaks (absent f.model) Key.model_type
    ∷ breaks (absent f.raster) Key.raster_type
    ∷ breaks (has f.model 2 && absent f.geodetic) Key.geodetic_crs
    ∷ breaks (has f.model 1 && absent f.projected) Key.projected_crs
    ∷ [])

-- the key is present and its number not allowed
unfoldable pub wrong : List Range → Option ℕ → Bool
wrong ranges None = false
wrong ranges (Some n) = not (allows ranges n)

abbrev pub one_or_two : List Range
one_or_two = just 1 ∷ just 2 ∷ []

abbrev pub zones : List Range
zones = between 32601 32661 ∷ between 32701 32761 ∷ []

abbrev pub heights : List Range
heights = just 3855 ∷ just 4979 ∷ just 5714 ∷ just 5715 ∷ just 5773 ∷ just 5798 ∷ []

unfoldable pub allowed : Found → Outcome
allowed f =
    cond (wrong one_or_two f.model) (broken Key.model_type)
    (cond (wrong one_or_two f.raster) (broken Key.raster_type)
    (cond (wrong (just 4326 ∷ []) f.geodetic) (broken Key.geodetic_crs)
    (cond (wrong (just 9102 ∷ []) f.angular) (broken Key.angular_units)
    (cond (wrong zones f.projected) (broken Key.projected_crs)
    (cond (wrong (just 9001 ∷ []) f.linear) (broken Key.linear_units)
    (cond (wrong heights f.vertical) (broken Key.vertical_crs) kept))))))

-- the answer from the outcomes of rules 16 and 17 and the numbers found
unfoldable pub finished : Outcome → Outcome → Found → Head → Result KeysJudged Verdict
finished sixteen seventeen f h =
    ruled
    (first (16 ▸ sixteen ∷ 17 ▸ seventeen ∷ 18 ▸ needed f ∷ 19 ▸ allowed f ∷ []))
    (record { keys = h.count; minor = h.minor; point = has f.raster 2 })
