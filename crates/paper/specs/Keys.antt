-- Document 01, 'Keys', and rules 15 to 19, with request C-13, over three runs and a byte order. In a file the runs are the values of 34735, 34736 and 34737,
-- and an absent tag is an empty run. The call that reads a key block back has the same three runs and no file. Assumes nothing.
use Rattle.std.specs.Prelude.{ℕ, zero, suc, ◌+◌, ◌-◌, ◌*◌, ◌/◌, Bool, cond, not, ◌&&◌, ◌||◌, List, [], ◌∷◌, map, ltb, leb, eqb, length, get_or}
use Rattle.paper.specs.Bytes.{num, build}
use Rattle.paper.specs.Outcome.{Outcome, breaks, Fault, fault, first_there, first_bad, ascending, Rule, ◌▸◌}
use Rattle.paper.specs.Tests.{Range, between, just, allows}
use Rattle.paper.specs.Tag
use Rattle.paper.specs.Key
use Rattle.paper.specs.declared.KeyEntry.{KeyEntry}

pub record Runs : Type 0 where
  pub big : Bool
  pub directory : List ℕ
  pub doubles : List ℕ
  pub characters : List ℕ

-- number i of the key directory, counted from 0; 0 past its end
unfoldable pub short : Runs → ℕ → ℕ
short r i = num r.big 2 r.directory (2 * i)

-- the minor revision, the third number: 0, or 1 as writers of OGC 19-008r4 put it
unfoldable pub minor_revision : Runs → ℕ
minor_revision r = short r 2

abbrev pub newest_minor : ℕ
newest_minor = 1

-- K, the fourth number
unfoldable pub key_count : Runs → ℕ
key_count r = short r 3

abbrev pub most_keys : ℕ
most_keys = 256

-- The tag's count is the number of SHORTs in its run. A run of under 4 numbers has too few for any K.
unfoldable pub rule15 : Runs → Outcome
rule15 r =
    breaks
    (not (eqb (short r 0) 1)
    || (not (eqb (short r 1) 1)
    || (ltb newest_minor (minor_revision r)
    || (ltb most_keys (key_count r) || ltb (length r.directory / 2) (4 + 4 * key_count r)))))
    0

-- key entry i, counted from 0
unfoldable pub key_at : Runs → ℕ → KeyEntry
key_at r i =
    record
    { key = short r (4 + 4 * i); location = short r (5 + 4 * i); count = short r (6 + 4 * i); index = short r (7 + 4 * i) }

unfoldable pub keys : Runs → List KeyEntry
keys r = build (key_at r) 0 (key_count r)

unfoldable pub rule16 : List KeyEntry → Outcome
rule16 ks = ascending (map (λ e. e.key) ks)

-- ---- the kinds of the 45 known keys

abbrev pub short_kind : ℕ
short_kind = 0

abbrev pub double_kind : ℕ
double_kind = 1

abbrev pub ascii_kind : ℕ
ascii_kind = 2

abbrev pub other_kind : ℕ
other_kind = 3

pub record Known : Type 0 where
  pub key : ℕ
  pub kind : ℕ

abbrev pub known : ℕ → ℕ → Known
known k n = record { key = k; kind = n }

-- from a key on, so many in a row of one kind, and then the rest
abbrev pub in_row : ℕ → ℕ → ℕ → List Known → List Known
in_row k n zero rest = rest
in_row k n (suc m) rest = known k n ∷ in_row (suc k) n m rest

-- in the order of the keys; `Tables` shows that these are document 01's three lists
unfoldable pub known_keys : List Known
known_keys =
    in_row 1024 short_kind 2
    (in_row 1026 ascii_kind 1
    (in_row 2048 short_kind 1
    (in_row 2049 ascii_kind 1
    (in_row 2050 short_kind 3
    (in_row 2053 double_kind 1
    (in_row 2054 short_kind 1
    (in_row 2055 double_kind 1
    (in_row 2056 short_kind 1
    (in_row 2057 double_kind 3
    (in_row 2060 short_kind 1
    (in_row 2061 double_kind 1
    (in_row 3072 short_kind 1
    (in_row 3073 ascii_kind 1
    (in_row 3074 short_kind 3
    (in_row 3077 double_kind 19
    (in_row 4096 short_kind 1
    (in_row 4097 ascii_kind 1
    (in_row 4098 short_kind 2
    []))))))))))))))))))

unfoldable pub kind_in : ℕ → List Known → ℕ
kind_in k [] = other_kind
kind_in k (x ∷ xs) = cond (eqb x.key k) x.kind (kind_in k xs)

unfoldable pub kind_of : ℕ → ℕ
kind_of k = kind_in k known_keys

-- ---- rule 17

-- how many elements the tag has that a location names; 0 for any other, and for an absent tag
unfoldable pub room : Runs → ℕ → ℕ
room r l =
    cond (eqb l Tag.key_directory) (length r.directory / 2)
    (cond (eqb l Tag.doubles) (length r.doubles / 8) (cond (eqb l Tag.characters) (length r.characters) 0))

-- the number is in the entry's fourth place
abbrev pub in_entry : KeyEntry → Bool
in_entry e = eqb e.location 0 && eqb e.count 1

-- count 1 or more, and index + count, in elements, at most the tag's count: so the tag is present
abbrev pub within : Runs → KeyEntry → Bool
within r e = leb 1 e.count && leb (e.index + e.count) (room r e.location)

abbrev pub bar : ℕ
bar = 124

-- "|" is the last character
abbrev pub ends_in_bar : Runs → KeyEntry → Bool
ends_in_bar r e = eqb (get_or r.characters (e.index + e.count - 1) 0) bar

-- location, count and value index are as the kind asks
unfoldable pub right_place : Runs → KeyEntry → ℕ → Bool
right_place r e kind =
    cond (eqb kind short_kind) (in_entry e)
    (cond (eqb kind double_kind) (eqb e.location Tag.doubles && (eqb e.count 1 && within r e))
    (cond (eqb kind ascii_kind) (eqb e.location Tag.characters && (within r e && ends_in_bar r e)) (in_entry e || within r e)))

unfoldable pub misplaced : Runs → KeyEntry → Bool
misplaced r e = not (right_place r e (kind_of e.key))

unfoldable pub rule17 : Runs → List KeyEntry → Outcome
rule17 r ks = first_bad (misplaced r) (λ e. e.key) ks

-- ---- rules 18 and 19

-- what is found of a key that is absent
abbrev pub no_key_entry : KeyEntry
no_key_entry = record { key = 0; location = 0; count = 0; index = 0 }

unfoldable pub find_key : ℕ → List KeyEntry → KeyEntry
find_key k [] = no_key_entry
find_key k (e ∷ es) = cond (eqb e.key k) e (find_key k es)

-- for a key other than 0
unfoldable pub has_key : ℕ → List KeyEntry → Bool
has_key k ks = eqb (find_key k ks).key k

-- the number of a SHORT key
abbrev pub key_value : ℕ → List KeyEntry → ℕ
key_value k ks = (find_key k ks).index

-- lowest first
abbrev pub absences : List KeyEntry → List Fault
absences ks =
    fault (not (has_key Key.model_type ks)) Key.model_type
    ∷ fault (not (has_key Key.raster_type ks)) Key.raster_type
    ∷ fault (eqb (key_value Key.model_type ks) 2 && not (has_key Key.geodetic_crs ks)) Key.geodetic_crs
    ∷ fault (eqb (key_value Key.model_type ks) 1 && not (has_key Key.projected_crs ks)) Key.projected_crs
    ∷ []

unfoldable pub rule18 : List KeyEntry → Outcome
rule18 ks = first_there (absences ks)

-- a key with the values it may have
pub record Fixed : Type 0 where
  pub key : ℕ
  pub values : List Range

abbrev pub fixed : ℕ → List Range → Fixed
fixed k v = record { key = k; values = v }

unfoldable pub fixed_keys : List Fixed
fixed_keys =
    fixed Key.model_type (just 1 ∷ just 2 ∷ [])
    ∷ fixed Key.raster_type (just 1 ∷ just 2 ∷ [])
    ∷ fixed Key.geodetic_crs (just 4326 ∷ [])
    ∷ fixed Key.angular_units (just 9102 ∷ [])
    ∷ fixed Key.projected_crs (between 32601 32661 ∷ between 32701 32761 ∷ [])
    ∷ fixed Key.linear_units (just 9001 ∷ [])
    ∷ fixed Key.vertical_crs (just 3855 ∷ just 4979 ∷ just 5714 ∷ just 5715 ∷ just 5773 ∷ just 5798 ∷ [])
    ∷ []

unfoldable pub forbidden : List KeyEntry → Fixed → Bool
forbidden ks x = has_key x.key ks && not (allows x.values (key_value x.key ks))

unfoldable pub rule19 : List KeyEntry → Outcome
rule19 ks = first_bad (forbidden ks) (λ x. x.key) fixed_keys

unfoldable pub key_rules : Runs → List Rule
key_rules r =
    15 ▸ rule15 r
    ∷ 16 ▸ rule16 (keys r)
    ∷ 17 ▸ rule17 r (keys r)
    ∷ 18 ▸ rule18 (keys r)
    ∷ 19 ▸ rule19 (keys r)
    ∷ []
