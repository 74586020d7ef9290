-- A key block that is written and read back: verdict 0, the same K and minor revision, the same keys and values. Assumes nothing.
use Prim.Native.Nat.{ℕ, zero, suc, ◌+◌, ◌-◌, ◌*◌, ◌/◌, ◌^◌, ◌≤◌, ◌<◌}
use mathlib.Core.Path.{◌≡◌, refl, sym, ap, ap₂, ◌∙◌, subst}
use mathlib.Core.Bool.{Bool, true, false, cond, not, ◌||◌, ◌&&◌}
use mathlib.Core.List.{List, [], ◌∷◌, ◌++◌, map}
use native.Mathlib.Nat.{zero-add, not-suc-le-zero, le_of_suc-le-suc}
use native.Mathlib.Omega.{arith}
use lib.Dec.{eqb, leb, ltb, lit<}
use lib.ListN.{length, get_or, take, drop, length-append, get_or-append}
use lib.Seq.{ext_get_or, drop-append-add, get_or-append-add}
use borrow.Author.Tests.{eq-eqb, eqb-true, le-leb, le-ltb, leb-true, ltb-false, not-false}
use Rattle.paper.specs.Bytes.{num, elems}
use Rattle.paper.specs.Outcome.{kept, first, first_bad, verdict}
use Rattle.paper.specs.Keys.{Runs, short, minor_revision, key_count, key_at, keys, rule15, rule16, rule17, rule18, rule19, key_rules, no_key_entry, kind_of, room, within, right_place}
use Rattle.paper.specs.Keys.{find_key, has_key, fixed_keys, Fixed, fixed, forbidden, misplaced, kind_in, known_keys}
use Rattle.paper.specs.Tests.{all, allows}
use Rattle.paper.specs.Calls.{back_of, reading_back, read_runs, block_read}
use Rattle.paper.specs.Block.{joined, encs, elements, values_at, short_values, double_values, character_values, count_if_at, new_index, with_index, moved, moved_keys}
use Rattle.paper.specs.Block.{entry_numbers, directory_numbers, block_directory, block_doubles, block_characters, rule24, too_far}
use Rattle.paper.specs.Asked.{Bytes, elements_of, SameKeys}
use Rattle.paper.proofs.Laws.{num-bound, length-build, get_or-build, kept-all, all-kept, kept-cond, first-same, all-at, and-eq, and_both}
use Rattle.paper.proofs.Codec.{num-drop, get_or-elems, num-encs, length-encs, elems-encs, sum_at, length_moved, moved_at, joined_at, joined_in, length-values}
use Rattle.paper.proofs.Header.{header-kept}
use Rattle.paper.proofs.Codec.{Below, below-append, below-joined, below-values}
use Rattle.paper.specs.declared.KeyEntry.{KeyEntry}

-- ---- the values of one location, written behind others: their new place, and that they are the same there

count_if_at-at : (l : ℕ) (e : KeyEntry) → e.location ≡ l → count_if_at l e ≡ e.count
unfolding count_if_at
count_if_at-at l e p = rw (eq-eqb e.location l p)

values_at-at : (big : Bool) (l w : ℕ) (s : List ℕ) (e : KeyEntry) → e.location ≡ l → values_at big l w s e ≡ elements big w s e
unfolding values_at
values_at-at big l w s e p = rw (eq-eqb e.location l p)

module _ (big : Bool) (l w : ℕ) (s : List ℕ) (ks : List KeyEntry) (pre : List ℕ) where
  -- all that is written
  abbrev All : List ℕ
  All = pre ++ joined (values_at big l w s) ks

  pub values-in : (i : ℕ) → i < length ks → (get_or ks i no_key_entry).location ≡ l
      → (length pre + sum_at l ks i) + (get_or ks i no_key_entry).count ≤ length All
  values-in i h p =
      omega (arith, count_if_at-at l (get_or ks i no_key_entry) p, length-append pre (joined (values_at big l w s) ks), joined_in l (values_at big l w s) (length-values big l w s) ks i h)

  pub values_same : (i : ℕ) → i < length ks → (get_or ks i no_key_entry).location ≡ l → Below (256 ^ w) All
      → elements false w (encs w All) (with_index (get_or ks i no_key_entry) (length pre + sum_at l ks i)) ≡ elements big w s (get_or ks i no_key_entry)
  unfolding elements
  values_same i h p b =
      let e : KeyEntry = get_or ks i no_key_entry in
      elems-encs w All (length pre + sum_at l ks i) e.count b (values-in i h p)
      ∙ ap (take e.count) (drop-append-add pre (joined (values_at big l w s) ks) (sum_at l ks i))
      ∙ ap (λ (k : ℕ). take k (drop (sum_at l ks i) (joined (values_at big l w s) ks))) (sym (count_if_at-at l (get_or ks i no_key_entry) p))
      ∙ joined_at l (values_at big l w s) (length-values big l w s) ks i h
      ∙ values_at-at big l w s (get_or ks i no_key_entry) p

-- ---- the entries among the directory's numbers

four : (a b c d : ℕ) (s : List ℕ) (n : ℕ) → get_or (a ∷ b ∷ c ∷ d ∷ s) (4 + n) 0 ≡ get_or s n 0
four a b c d s n = get_or-append-add (a ∷ b ∷ c ∷ d ∷ []) s n 0

entries_at : (es : List KeyEntry) (v : List ℕ) (i j : ℕ) → i < length es → j < 4
    → get_or (joined entry_numbers es ++ v) (4 * i + j) 0 ≡ get_or (entry_numbers (get_or es i no_key_entry)) j 0
unfolding joined entry_numbers
entries_at [] v i j h l = absurd (not-suc-le-zero h)
entries_at (e ∷ es) v zero j h l =
    ap (λ (k : ℕ). get_or (entry_numbers e ++ (joined entry_numbers es ++ v)) k 0) (zero-add j)
    ∙ get_or-append (entry_numbers e) (joined entry_numbers es ++ v) 0 j l
entries_at (e ∷ es) v (suc i) j h l =
    let q : 4 * suc i + j ≡ 4 + (4 * i + j) = omega arith in
    ap (λ (k : ℕ). get_or (entry_numbers e ++ (joined entry_numbers es ++ v)) k 0) q
    ∙ four e.key e.location e.count e.index (joined entry_numbers es ++ v) (4 * i + j)
    ∙ entries_at es v i j (le_of_suc-le-suc h) l

pub length-entries : (es : List KeyEntry) → length (joined entry_numbers es) ≡ 4 * length es
unfolding joined entry_numbers
length-entries [] = refl
length-entries (e ∷ es) = omega (arith, length-entries es)

-- ---- keys that are found

-- what holds of no key, and of each entry with the key, holds of the one found
-- the keys of moved entries
keys-moved : (a d c : ℕ) (es : List KeyEntry) → map (λ e. e.key) (moved a d c es) ≡ map (λ e. e.key) es
unfolding moved
keys-moved a d c [] = refl
keys-moved a d c (e ∷ es) =
    ap (λ (xs : List ℕ). e.key ∷ xs) (keys-moved (a + count_if_at 34735 e) (d + count_if_at 34736 e) (c + count_if_at 34737 e) es)

has-moved : (k a d c : ℕ) (es : List KeyEntry) → has_key k (moved a d c es) ≡ has_key k es
unfolding has_key find_key moved
has-moved k a d c [] = refl
has-moved k a d c (e ∷ es) = go (eqb e.key k) refl (has-moved k (a + count_if_at 34735 e) (d + count_if_at 34736 e) (c + count_if_at 34737 e) es)
  where
    go : (b : Bool) → eqb e.key k ≡ b
        → has_key k (moved (a + count_if_at 34735 e) (d + count_if_at 34736 e) (c + count_if_at 34737 e) es) ≡ has_key k es
        → has_key k (moved a d c (e ∷ es)) ≡ has_key k (e ∷ es)
    go true p x = rw p
    go false p x = rw p x

index-zero : (a d c : ℕ) (e : KeyEntry) → e.location ≡ 0 → new_index a d c e ≡ e.index
unfolding new_index
index-zero a d c e p = rw p

-- the value of a key at location 0 does not change
value-moved : (k a d c : ℕ) (es : List KeyEntry) → (find_key k es).location ≡ 0 → (find_key k (moved a d c es)).index ≡ (find_key k es).index
unfolding find_key moved
value-moved k a d c [] p = refl
value-moved k a d c (e ∷ es) p =
    go (eqb e.key k) refl (value-moved k (a + count_if_at 34735 e) (d + count_if_at 34736 e) (c + count_if_at 34737 e) es)
  where
    go : (b : Bool) → eqb e.key k ≡ b
        → ((find_key k es).location ≡ 0 → (find_key k (moved (a + count_if_at 34735 e) (d + count_if_at 34736 e) (c + count_if_at 34737 e) es)).index ≡ (find_key k es).index)
        → (find_key k (moved a d c (e ∷ es))).index ≡ (find_key k (e ∷ es)).index
    go true q x = rw q (index-zero a d c e (rw q at p))
    go false q x = rw q (x (rw q at p))

right_zero : (r : Runs) (e : KeyEntry) → right_place r e 0 ≡ true → e.location ≡ 0
unfolding right_place
right_zero r e h = eqb-true _ _ (and-eq (eqb e.location 0) _ h).0

-- a key of kind SHORT is at location 0, or absent
short-zero : (r : Runs) (k : ℕ) (es : List KeyEntry) → kind_of k ≡ 0 → rule17 r es ≡ kept → (find_key k es).location ≡ 0
unfolding rule17 misplaced first_bad find_key
short-zero r k [] z h = refl
short-zero r k (e ∷ es) z h =
    let x = kept-cond (not (right_place r e (kind_of e.key))) e.key _ h in
    go (eqb e.key k) refl (not-false _ x.0) (short-zero r k es z x.1)
  where
    go : (b : Bool) → eqb e.key k ≡ b → right_place r e (kind_of e.key) ≡ true → (find_key k es).location ≡ 0 → (find_key k (e ∷ es)).location ≡ 0
    go true q x y = rw q (right_zero r e (subst (λ (n : ℕ). right_place r e n ≡ true) (ap kind_of (eqb-true _ _ q) ∙ z) x))
    go false q x y = rw q y

-- ---- rules 18 and 19 see what does not change

kind-1024 : kind_of 1024 ≡ 0
unfolding kind_of kind_in known_keys
kind-1024 = refl

rule18-moved : (r : Runs) (a d c : ℕ) (es : List KeyEntry) → rule17 r es ≡ kept → rule18 (moved a d c es) ≡ rule18 es
unfolding rule18
rule18-moved r a d c es h =
    let v : (find_key 1024 (moved a d c es)).index ≡ (find_key 1024 es).index = value-moved 1024 a d c es (short-zero r 1024 es kind-1024 h) in
    rw (v, has-moved 1024 a d c es, has-moved 1025 a d c es, has-moved 2048 a d c es, has-moved 3072 a d c es)

-- the keys with fixed values are SHORT: computed over their table
fixed-short : all (λ x. eqb (kind_of x.key) 0) fixed_keys ≡ true
unfolding all kind_of kind_in known_keys fixed_keys
fixed-short = refl

rule19-moved : (r : Runs) (a d c : ℕ) (es : List KeyEntry) → rule17 r es ≡ kept → rule19 (moved a d c es) ≡ rule19 es
unfolding rule19 forbidden
rule19-moved r a d c es h = first-same (forbidden (moved a d c es)) (forbidden es) _ fixed_keys (fixed 0 []) at
  where
    at : (i : ℕ) → i < length fixed_keys → forbidden (moved a d c es) (get_or fixed_keys i (fixed 0 [])) ≡ forbidden es (get_or fixed_keys i (fixed 0 []))
    at i l =
        let x : Fixed = get_or fixed_keys i (fixed 0 []) in
        let z : kind_of x.key ≡ 0 = eqb-true _ _ (all-at (λ (y : Fixed). eqb (kind_of y.key) 0) fixed_keys (fixed 0 []) fixed-short i l) in
        ap₂ (λ (b : Bool) (v : ℕ). b && not (allows x.values v)) (has-moved x.key a d c es) (value-moved x.key a d c es (short-zero r x.key es z h))

-- ---- rule 17 at an entry with a new index

or_map : (a b c : Bool) → (b ≡ true → c ≡ true) → a || b ≡ true → a || c ≡ true
or_map true b c h p = refl
or_map false b c h p = h p

and-map : (a b c : Bool) → (b ≡ true → c ≡ true) → a && b ≡ true → a && c ≡ true
and-map true b c h p = h p
and-map false b c h p = p

cond_map : (t a b a' b' : Bool) → (a ≡ true → a' ≡ true) → (b ≡ true → b' ≡ true) → cond t a b ≡ true → cond t a' b' ≡ true
cond_map true a b a' b' f g p = f p
cond_map false a b a' b' f g p = g p

right-moved : (r r' : Runs) (e : KeyEntry) (x kind : ℕ) → (within r e ≡ true → within r' (with_index e x) ≡ true)
    → (e.location ≡ 34737 → within r e ≡ true → get_or r'.characters (x + e.count - 1) 0 ≡ get_or r.characters (e.index + e.count - 1) 0)
    → right_place r e kind ≡ true → right_place r' (with_index e x) kind ≡ true
unfolding right_place
right-moved r r' e x kind w c =
    cond_map (eqb kind 0) _ _ _ _ (λ p. p)
    (cond_map (eqb kind 1) _ _ _ _ (and-map (eqb e.location 34736) _ _ (and-map (eqb e.count 1) (within r e) _ w))
    (cond_map (eqb kind 2) _ _ _ _ two (or_map (eqb e.location 0 && eqb e.count 1) (within r e) _ w)))
  where
    two : eqb e.location 34737 && (within r e && eqb (get_or r.characters (e.index + e.count - 1) 0) 124) ≡ true
        → eqb e.location 34737 && (within r' (with_index e x) && eqb (get_or r'.characters (x + e.count - 1) 0) 124) ≡ true
    two p =
        let a = and-eq (eqb e.location 34737) _ p in
        let b = and-eq (within r e) _ a.1 in
        let v : within r' (with_index e x) ≡ true = w b.0 in
        let q : get_or r'.characters (x + e.count - 1) 0 ≡ get_or r.characters (e.index + e.count - 1) 0 = c (eqb-true _ _ a.0) b.0 in
        rw (a.0, v, q, b.1)

-- the last character of values that are the same
num-one : (big : Bool) (s : List ℕ) (p : ℕ) → num big 1 s p ≡ get_or s p 0
unfolding num
num-one false s p = omega arith
num-one true s p = omega arith

last_of : (big : Bool) (s : List ℕ) (a n : ℕ) → 1 ≤ n → get_or (elems big 1 n (drop (1 * a) s)) (n - 1) 0 ≡ get_or s (a + n - 1) 0
last_of big s a n h =
    let q : 1 * a + 1 * (n - 1) ≡ a + n - 1 = omega arith in
    get_or-elems big 1 n (drop (1 * a) s) (n - 1) (omega arith)
    ∙ num-drop big 1 (1 * a) s (1 * (n - 1))
    ∙ num-one big s (1 * a + 1 * (n - 1))
    ∙ ap (λ (k : ℕ). get_or s k 0) q

last-same : (big big' : Bool) (s s' : List ℕ) (e e' : KeyEntry) → e'.count ≡ e.count → 1 ≤ e.count → elements big' 1 s' e' ≡ elements big 1 s e
    → get_or s' (e'.index + e.count - 1) 0 ≡ get_or s (e.index + e.count - 1) 0
unfolding elements
last-same big big' s s' e e' c h p =
    sym (last_of big' s' e'.index e.count h)
    ∙ ap (λ (k : ℕ). get_or (elems big' 1 k (drop (1 * e'.index) s')) (e.count - 1) 0) (sym c)
    ∙ ap (λ (l : List ℕ). get_or l (e.count - 1) 0) p
    ∙ last_of big s e.index e.count h

-- ---- bounds on what is written in the directory

below-four : (b x y z t : ℕ) → x < b → y < b → z < b → t < b → Below b (x ∷ y ∷ z ∷ t ∷ [])
below-four b x y z t p q u v zero = p
below-four b x y z t p q u v (suc zero) = q
below-four b x y z t p q u v (suc (suc zero)) = u
below-four b x y z t p q u v (suc (suc (suc zero))) = v
below-four b x y z t p q u v (suc (suc (suc (suc i)))) = omega arith

index-bound : (a d c : ℕ) (e : KeyEntry) → e.index < 65536 → too_far (with_index e (new_index a d c e)) ≡ false → new_index a d c e < 65536
unfolding too_far
index-bound a d c e h t = go (eqb e.location 0) refl
  where
    go : (b : Bool) → eqb e.location 0 ≡ b → new_index a d c e < 65536
    go true p = rw (index-zero a d c e (eqb-true _ _ p)) h
    go false p = let x : ltb 65535 (new_index a d c e) ≡ false = rw p at t in omega (arith, ltb-false 65535 (new_index a d c e) x)

-- ---- the whole block

-- what the writer asks of the runs: bytes, rules 15 to 19 and 24
pub record Writable (r : Runs) : Type 0 where
  pub bytes35 : Bytes r.directory
  pub bytes36 : Bytes r.doubles
  pub bytes37 : Bytes r.characters
  pub kept15 : rule15 r ≡ kept
  pub kept16 : rule16 (keys r) ≡ kept
  pub kept17 : rule17 r (keys r) ≡ kept
  pub kept18 : rule18 (keys r) ≡ kept
  pub kept19 : rule19 (keys r) ≡ kept
  pub kept24 : rule24 r ≡ kept

-- the runs that are read back
unfoldable pub written : Runs → Runs
written r = back_of (block_directory r) (block_doubles r) (block_characters r)

pub length-keys : (r : Runs) → length (keys r) ≡ key_count r
unfolding keys
length-keys r = length-build (key_at r) 0 (key_count r)

pub key-at : (r : Runs) (i : ℕ) → i < key_count r → get_or (keys r) i no_key_entry ≡ key_at r i
unfolding keys
key-at r i h = get_or-build (key_at r) no_key_entry 0 (key_count r) i h ∙ ap (key_at r) (zero-add i)

short-bound : (r : Runs) (j : ℕ) → Bytes r.directory → short r j < 65536
unfolding short
short-bound r j b = num-bound r.big 2 r.directory (2 * j) b

-- every field of a key entry has two bytes
below_key : (r : Runs) (i : ℕ) → Bytes r.directory → i < key_count r → Below 65536 (entry_numbers (get_or (keys r) i no_key_entry))
unfolding entry_numbers key_at
below_key r i b h =
    subst (λ (e : KeyEntry). Below 65536 (entry_numbers e)) (sym (key-at r i h))
    (below-four 65536 _ _ _ _ (short-bound r _ b) (short-bound r _ b) (short-bound r _ b) (short-bound r _ b))

-- an entry with another index has the same value where its elements are the same, wherever they stand
value-moved-to : (r s : Runs) (e : KeyEntry) (x : ℕ)
    → (e.location ≡ 34735 → elements r.big 2 r.directory e ≡ elements s.big 2 s.directory (with_index e x))
    → (e.location ≡ 34736 → elements r.big 8 r.doubles e ≡ elements s.big 8 s.doubles (with_index e x))
    → (e.location ≡ 34737 → elements r.big 1 r.characters e ≡ elements s.big 1 s.characters (with_index e x))
    → (eqb e.location 34735 ≡ false → eqb e.location 34736 ≡ false → eqb e.location 34737 ≡ false → e.index ≡ x)
    → elements_of r e ≡ elements_of s (with_index e x)
unfolding elements_of
value-moved-to r s e x a b c d = at (eqb e.location 34735) (eqb e.location 34736) (eqb e.location 34737) refl refl refl
  where
    at : (u v w : Bool) → eqb e.location 34735 ≡ u → eqb e.location 34736 ≡ v → eqb e.location 34737 ≡ w
        → elements_of r e ≡ elements_of s (with_index e x)
    at true v w p q t = rw p (a (eqb-true _ _ p))
    at false true w p q t = rw (p, q) (b (eqb-true _ _ q))
    at false false true p q t = rw (p, q, t) (c (eqb-true _ _ t))
    at false false false p q t = rw (p, q, t) (ap (λ (n : ℕ). n ∷ []) (d p q t))

-- where the values of entry i now start in its array; and the entries as they are written
abbrev pub new_at : Runs → ℕ → ℕ
new_at r i =
    new_index (4 + 4 * key_count r + sum_at 34735 (keys r) i) (0 + sum_at 34736 (keys r) i) (0 + sum_at 34737 (keys r) i) (get_or (keys r) i no_key_entry)

in-keys : (r : Runs) {i : ℕ} → i < key_count r → i < length (keys r)
in-keys r {i} h = omega (arith, length-keys r)

pub moved-key : (r : Runs) (i : ℕ) → i < key_count r → get_or (moved_keys r) i no_key_entry ≡ with_index (get_or (keys r) i no_key_entry) (new_at r i)
unfolding moved_keys
moved-key r i h = moved_at (4 + 4 * key_count r) 0 0 (keys r) i (in-keys r h)

pub length-moved_keys : (r : Runs) → length (moved_keys r) ≡ key_count r
unfolding moved_keys
length-moved_keys r = length_moved _ _ _ (keys r) ∙ length-keys r

module _ (r : Runs) (ok : Writable r) where
  -- entry i, and its new index
  abbrev Old : ℕ → KeyEntry
  Old i = get_or (keys r) i no_key_entry

  abbrev New : ℕ → ℕ
  New i = new_at r i

  new-bound : (i : ℕ) → i < key_count r → New i < 65536
  unfolding rule24 entry_numbers
  new-bound i h =
      index-bound _ _ _ (Old i) (below_key r i ok.bytes35 h 3)
      (subst (λ (e : KeyEntry). too_far e ≡ false) (moved-key r i h) (kept-all too_far _ (moved_keys r) no_key_entry ok.kept24 i (omega (arith, length-moved_keys r))))

  below-moved : (i : ℕ) → i < length (moved_keys r) → Below 65536 (entry_numbers (get_or (moved_keys r) i no_key_entry))
  unfolding entry_numbers
  below-moved i l =
      let h : i < key_count r = omega (arith, length-moved_keys r) in
      let b = below_key r i ok.bytes35 h in
      subst (λ (e : KeyEntry). Below 65536 (entry_numbers e)) (sym (moved-key r i h))
      (below-four 65536 _ _ _ _ (b 0) (b 1) (b 2) (new-bound i h))

  below-directory : Below 65536 (directory_numbers r)
  unfolding directory_numbers short_values minor_revision key_count
  below-directory =
      below-append 65536 (1 ∷ 1 ∷ short r 2 ∷ short r 3 ∷ []) (joined entry_numbers (moved_keys r) ++ short_values r)
      (below-four 65536 1 1 (short r 2) (short r 3) (lit< tt) (lit< tt) (short-bound r 2 ok.bytes35) (short-bound r 3 ok.bytes35))
      (below-append 65536 (joined entry_numbers (moved_keys r)) (short_values r) (below-joined 65536 entry_numbers no_key_entry (moved_keys r) (lit< tt) below-moved)
      (below-joined 65536 (values_at r.big 34735 2 r.directory) no_key_entry (keys r) (lit< tt) (λ i l. below-values r.big 34735 2 r.directory (Old i) ok.bytes35)))

  below-doubles : Below (256 ^ 8) (double_values r)
  unfolding double_values
  below-doubles =
      below-joined (256 ^ 8) (values_at r.big 34736 8 r.doubles) no_key_entry (keys r) (lit< tt) (λ i l. below-values r.big 34736 8 r.doubles (Old i) ok.bytes36)

  below-characters : Below (256 ^ 1) (character_values r)
  unfolding character_values
  below-characters =
      below-joined (256 ^ 1) (values_at r.big 34737 1 r.characters) no_key_entry (keys r) (lit< tt) (λ i l. below-values r.big 34737 1 r.characters (Old i) ok.bytes37)

  -- ---- the three arrays' values, in their new place

  -- the numbers before the arrays of location 34735
  abbrev Front : List ℕ
  Front = 1 ∷ 1 ∷ minor_revision r ∷ key_count r ∷ joined entry_numbers (moved_keys r)

  length_front : length Front ≡ 4 + 4 * key_count r
  length_front = omega (arith, length-entries (moved_keys r), length-moved_keys r)

  new-35 : (i : ℕ) → (Old i).location ≡ 34735 → New i ≡ length Front + sum_at 34735 (keys r) i
  unfolding new_index
  new-35 i p = rw (p, length_front)

  new-36 : (i : ℕ) → (Old i).location ≡ 34736 → New i ≡ 0 + sum_at 34736 (keys r) i
  unfolding new_index
  new-36 i p = rw p

  new-37 : (i : ℕ) → (Old i).location ≡ 34737 → New i ≡ 0 + sum_at 34737 (keys r) i
  unfolding new_index
  new-37 i p = rw p

  pub same-35 : (i : ℕ) → i < key_count r → (Old i).location ≡ 34735
      → elements false 2 (block_directory r) (with_index (Old i) (New i)) ≡ elements r.big 2 r.directory (Old i)
  unfolding block_directory directory_numbers short_values
  same-35 i h p =
      ap (λ (n : ℕ). elements false 2 (block_directory r) (with_index (Old i) n)) (new-35 i p)
      ∙ values_same r.big 34735 2 r.directory (keys r) Front i (in-keys r h) p below-directory

  pub same-36 : (i : ℕ) → i < key_count r → (Old i).location ≡ 34736
      → elements false 8 (block_doubles r) (with_index (Old i) (New i)) ≡ elements r.big 8 r.doubles (Old i)
  unfolding block_doubles double_values
  same-36 i h p =
      ap (λ (n : ℕ). elements false 8 (block_doubles r) (with_index (Old i) n)) (new-36 i p)
      ∙ values_same r.big 34736 8 r.doubles (keys r) [] i (in-keys r h) p below-doubles

  pub same-37 : (i : ℕ) → i < key_count r → (Old i).location ≡ 34737
      → elements false 1 (block_characters r) (with_index (Old i) (New i)) ≡ elements r.big 1 r.characters (Old i)
  unfolding block_characters character_values
  same-37 i h p =
      ap (λ (n : ℕ). elements false 1 (block_characters r) (with_index (Old i) n)) (new-37 i p)
      ∙ values_same r.big 34737 1 r.characters (keys r) [] i (in-keys r h) p below-characters

  -- ---- what is read back

  pub short_back : (i : ℕ) → short (written r) i ≡ get_or (directory_numbers r) i 0
  unfolding short written back_of block_directory
  short_back i = num-encs 2 (directory_numbers r) i below-directory

  pub minor-back : minor_revision (written r) ≡ minor_revision r
  unfolding minor_revision directory_numbers
  minor-back = short_back 2

  pub count-back : key_count (written r) ≡ key_count r
  unfolding key_count directory_numbers
  count-back = short_back 3

  -- number j of entry i
  pub entry-back : (i j : ℕ) → i < key_count r → j < 4 → short (written r) (4 + (4 * i + j)) ≡ get_or (entry_numbers (get_or (moved_keys r) i no_key_entry)) j 0
  unfolding directory_numbers
  entry-back i j h l =
      short_back (4 + (4 * i + j))
      ∙ four 1 1 (minor_revision r) (key_count r) (joined entry_numbers (moved_keys r) ++ short_values r) (4 * i + j)
      ∙ entries_at (moved_keys r) (short_values r) i j (omega (arith, length-moved_keys r)) l

  key_at-back : (i : ℕ) → i < key_count r → key_at (written r) i ≡ get_or (moved_keys r) i no_key_entry
  unfolding key_at entry_numbers
  key_at-back i h =
      λ d. record {
        key = f 0 (4 + 4 * i) (lit< tt) (omega arith) d;
        location = f 1 (5 + 4 * i) (lit< tt) (omega arith) d;
        count = f 2 (6 + 4 * i) (lit< tt) (omega arith) d;
        index = f 3 (7 + 4 * i) (lit< tt) (omega arith) d;
      }
    where
      f : (j m : ℕ) → j < 4 → m ≡ 4 + (4 * i + j) → short (written r) m ≡ get_or (entry_numbers (get_or (moved_keys r) i no_key_entry)) j 0
      f j m l q = ap (short (written r)) q ∙ entry-back i j h l

  -- the keys that are read back are those written, in order
  pub keys-back : keys (written r) ≡ moved_keys r
  keys-back =
      ext_get_or no_key_entry (keys (written r)) (moved_keys r) (length-keys (written r) ∙ count-back ∙ sym (length-moved_keys r))
      (λ i l. let h : i < key_count r = omega (arith, length-keys (written r), count-back) in
      key-at (written r) i (omega (arith, count-back)) ∙ key_at-back i h)

  -- ---- the rules on what is read back

  long-back : 4 + 4 * key_count r ≤ length (written r).directory / 2
  unfolding written back_of block_directory directory_numbers
  long-back =
      omega (arith, length-encs 2 (directory_numbers r), length-append Front (short_values r), length_front)

  rule15-back : rule15 (written r) ≡ kept
  unfolding rule15 directory_numbers
  rule15-back =
      let a : short (written r) 0 ≡ 1 = short_back 0 in
      let b : short (written r) 1 ≡ 1 = short_back 1 in
      let h = header-kept r ok.kept15 in
      rw (a, b, minor-back, le-ltb _ _ h.minor, count-back, le-ltb _ _ h.few, le-ltb _ _ long-back)

  rule16-back : rule16 (keys (written r)) ≡ kept
  unfolding rule16 moved_keys
  rule16-back = rw (keys-back, keys-moved (4 + 4 * key_count r) 0 0 (keys r)) ok.kept16

  rule18-back : rule18 (keys (written r)) ≡ kept
  unfolding moved_keys
  rule18-back = ap rule18 keys-back ∙ rule18-moved r _ _ _ (keys r) ok.kept17 ∙ ok.kept18

  rule19-back : rule19 (keys (written r)) ≡ kept
  unfolding moved_keys
  rule19-back = ap rule19 keys-back ∙ rule19-moved r _ _ _ (keys r) ok.kept17 ∙ ok.kept19

  -- the values lie within the arrays that are read back
  room-35 : (i : ℕ) → i < key_count r → (Old i).location ≡ 34735 → New i + (Old i).count ≤ room (written r) (Old i).location
  unfolding room written back_of block_directory directory_numbers short_values
  room-35 i h p =
      let g : New i + (Old i).count ≤ length (block_directory r) / 2 =
      omega (arith, new-35 i p, values-in r.big 34735 2 r.directory (keys r) Front i (in-keys r h) p, length-encs 2 (directory_numbers r)) in
      subst (λ (l : ℕ). New i + (Old i).count ≤ room (written r) l) (sym p) g

  room-36 : (i : ℕ) → i < key_count r → (Old i).location ≡ 34736 → New i + (Old i).count ≤ room (written r) (Old i).location
  unfolding room written back_of block_doubles double_values
  room-36 i h p =
      let g : New i + (Old i).count ≤ length (block_doubles r) / 8 =
      omega (arith, new-36 i p, values-in r.big 34736 8 r.doubles (keys r) [] i (in-keys r h) p, length-encs 8 (double_values r)) in
      subst (λ (l : ℕ). New i + (Old i).count ≤ room (written r) l) (sym p) g

  room-37 : (i : ℕ) → i < key_count r → (Old i).location ≡ 34737 → New i + (Old i).count ≤ room (written r) (Old i).location
  unfolding room written back_of block_characters character_values
  room-37 i h p =
      let g : New i + (Old i).count ≤ length (block_characters r) =
      omega (arith, new-37 i p, values-in r.big 34737 1 r.characters (keys r) [] i (in-keys r h) p, length-encs 1 (character_values r)) in
      subst (λ (l : ℕ). New i + (Old i).count ≤ room (written r) l) (sym p) g

  room_back : (i : ℕ) → i < key_count r → 1 ≤ (Old i).count → (Old i).index + (Old i).count ≤ room r (Old i).location
      → New i + (Old i).count ≤ room (written r) (Old i).location
  unfolding room
  room_back i h c d = at (eqb (Old i).location 34735) (eqb (Old i).location 34736) (eqb (Old i).location 34737) refl refl refl
    where
      at : (x y z : Bool) → eqb (Old i).location 34735 ≡ x → eqb (Old i).location 34736 ≡ y → eqb (Old i).location 34737 ≡ z
          → New i + (Old i).count ≤ room (written r) (Old i).location
      at true y z p q s = room-35 i h (eqb-true _ _ p)
      at false true z p q s = room-36 i h (eqb-true _ _ q)
      at false false true p q s = room-37 i h (eqb-true _ _ s)
      at false false false p q s = let n : (Old i).index + (Old i).count ≤ 0 = rw (p, q, s) at d in absurd (omega arith)

  within-back : (i : ℕ) → i < key_count r → within r (Old i) ≡ true → within (written r) (with_index (Old i) (New i)) ≡ true
  within-back i h w =
      let c = and-eq (leb 1 (Old i).count) _ w in
      and_both (leb 1 (Old i).count) _ c.0 (le-leb _ _ (room_back i h (leb-true 1 (Old i).count c.0) (leb-true _ _ c.1)))

  last-back : (i : ℕ) → i < key_count r → (Old i).location ≡ 34737 → within r (Old i) ≡ true
      → get_or (written r).characters (New i + (Old i).count - 1) 0 ≡ get_or r.characters ((Old i).index + (Old i).count - 1) 0
  unfolding written back_of
  last-back i h p w =
      last-same r.big false r.characters (block_characters r) (Old i) (with_index (Old i) (New i)) refl
      (leb-true 1 (Old i).count (and-eq (leb 1 (Old i).count) _ w).0) (same-37 i h p)

  rule17-back : rule17 (written r) (keys (written r)) ≡ kept
  unfolding rule17 misplaced
  rule17-back = ap (rule17 (written r)) keys-back ∙ all-kept (misplaced (written r)) _ (moved_keys r) no_key_entry at
    where
      at : (i : ℕ) → i < length (moved_keys r) → misplaced (written r) (get_or (moved_keys r) i no_key_entry) ≡ false
      at i l =
          let h : i < key_count r = omega (arith, length-moved_keys r) in
          let a : right_place r (Old i) (kind_of (Old i).key) ≡ true =
          not-false _ (kept-all (misplaced r) _ (keys r) no_key_entry ok.kept17 i (in-keys r h)) in
          let b : right_place (written r) (with_index (Old i) (New i)) (kind_of (Old i).key) ≡ true =
          right-moved r (written r) (Old i) (New i) (kind_of (Old i).key) (within-back i h) (last-back i h) a in
          subst (λ (e : KeyEntry). misplaced (written r) e ≡ false) (sym (moved-key r i h)) (ap not b)

  verdict-back : first (key_rules (written r)) ≡ verdict 0 0
  unfolding key_rules first
  verdict-back = rw (rule15-back, rule16-back, rule17-back, rule18-back, rule19-back)

  -- ---- written and read back: accepted, with the same K and the same minor revision
  pub round_trip : reading_back (block_directory r) (block_doubles r) (block_characters r) ≡ record { verdict = verdict 0 0; keys = key_count r; minor = minor_revision r }
  unfolding reading_back read_runs written
  round_trip = λ i. block_read (verdict-back i) (count-back i) (minor-back i)

  -- ---- and the same keys in the same order, with the same values

  key_back : (i : ℕ) → i < key_count r → key_at (written r) i ≡ with_index (Old i) (New i)
  key_back i h = key_at-back i h ∙ moved-key r i h

  -- in none of the three arrays: the entry's own number
  own-number : (i : ℕ) → eqb (Old i).location 34735 ≡ false → eqb (Old i).location 34736 ≡ false → eqb (Old i).location 34737 ≡ false → (Old i).index ≡ New i
  unfolding new_index
  own-number i p q s = rw (p, q, s)

  pub value-back : (i : ℕ) → i < key_count r → elements_of r (Old i) ≡ elements_of (written r) (with_index (Old i) (New i))
  unfolding written back_of
  value-back i h =
      value-moved-to r (written r) (Old i) (New i) (λ p. sym (same-35 i h p)) (λ p. sym (same-36 i h p)) (λ p. sym (same-37 i h p)) (own-number i)

  pub same_keys : SameKeys r (written r)
  same_keys =
      record {
        many = sym count-back;
        each = λ i h.
            let old : Old i ≡ key_at r i = key-at r i h in
            let new : with_index (key_at r i) (New i) ≡ key_at (written r) i = ap (λ (e : KeyEntry). with_index e (New i)) (sym old) ∙ sym (key_back i h) in
            record {
              key = ap (λ (e : KeyEntry). e.key) new;
              location = ap (λ (e : KeyEntry). e.location) new;
              count = ap (λ (e : KeyEntry). e.count) new;
              value = ap (elements_of r) (sym old) ∙ value-back i h ∙ ap (elements_of (written r)) (sym (key_back i h));
            };
      }
