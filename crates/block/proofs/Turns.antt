-- One turn of each loop that writes: the bytes of a number, the elements of a value, the values of the entries at a location, and the entries
-- with their new indexes. What is still to be laid from one place of the loop on is what the turn lays, and then what is to be laid from the next one on.
-- Assumes nothing.
use Prim.Native.Nat.{ℕ, zero, suc, ◌+◌, ◌-◌, ◌*◌, ◌/◌, ◌%◌, ◌^◌, ◌≤◌, ◌<◌}
use mathlib.Core.Path.{◌≡◌, refl, sym, ap, ◌∙◌}
use mathlib.Core.Bool.{Bool, true, false}
use mathlib.Core.List.{List, [], ◌∷◌, ◌++◌, append_assoc, append-nil}
use native.Mathlib.Nat.{not-suc-le-zero, le_of_suc-le-suc, div-div-eq-div-mul, div-one, pow-suc, sub-zero}
use native.Mathlib.Omega.{arith}
use lib.ListN.{length, take, drop, get_or, length-append}
use borrow.Rule.Slice.PartMut.{put_mid}
use Rattle.std.specs.Int.{byte_at, bytes_low_first}
use Rattle.paper.specs.Bytes.{num, enc, build, elems}
use Rattle.paper.specs.Keys.{key_at}
use Rattle.paper.specs.Block.{joined, encs, values_at, count_if_at, new_index, moved, entry_numbers}
use Rattle.paper.specs.declared.KeyEntry.{KeyEntry}
use Rattle.paper.proofs.Laws.{length-enc, build-step}
use Rattle.paper.proofs.Loops.{build-end}
use Rattle.paper.proofs.Codec.{length-encs, num-drop, length-values}
use Rattle.keys.specs.Pass.{runs}
use Rattle.block.specs.Splice.{splice, entry_bytes, value_bytes}
use Rattle.block.specs.Sizes.{nothing, next_of}
use Rattle.block.specs.declared.Before.{Before}
use Rattle.block.proofs.Writing.{splice_nil, splice_behind, written-over}

-- ---- the bytes of a number

-- w of the k bytes from byte i on
low_bytes : (i k w n : ℕ) → w ≤ k → take w (bytes_low_first i k n) ≡ enc w (n / 256 ^ i)
unfolding enc
low_bytes i k zero n h = refl
low_bytes i zero (suc w) n h = absurd (not-suc-le-zero h)
low_bytes i (suc k) (suc w) n h = λ j. byte i j ∷ (low_bytes (suc i) k w n (le_of_suc-le-suc h) ∙ ap (enc w) (next i)) j
  where
    byte : (m : ℕ) → byte_at m n ≡ n / 256 ^ m % 256
    byte zero = ap (λ (x : ℕ). x % 256) (sym (div-one n))
    byte (suc m) = refl

    next : (m : ℕ) → n / 256 ^ suc m ≡ n / 256 ^ m / 256
    next m = ap (λ (p : ℕ). n / p) (pow-suc 256 m) ∙ sym (div-div-eq-div-mul n (256 ^ m) 256)

pub bytes_laid : (d : List ℕ) (at w v : ℕ) → w ≤ 8 → put_mid at (at + w - at) d (take w (bytes_low_first 0 8 v)) ≡ splice d at (enc w v)
bytes_laid d at w v h =
    ap (put_mid at (at + w - at) d) (low_bytes 0 8 w v h ∙ ap (enc w) (div-one v)) ∙ written-over d at w (enc w v) (length-enc w v)

-- a number of one byte
pub one_byte : (big : Bool) (s : List ℕ) (at : ℕ) → num big 1 s at ≡ get_or s at 0
unfolding num
one_byte true s at = omega arith
one_byte false s at = omega arith

-- ---- numbers one after the other

-- four SHORTs
pub four_laid : (d : List ℕ) (at : ℕ) (ns : List ℕ) → length ns ≡ 4 → at + 8 ≤ length d
    → splice (splice (splice (splice d at (enc 2 (get_or ns 0 0))) (at + 2) (enc 2 (get_or ns 1 0))) (at + 4) (enc 2 (get_or ns 2 0))) (at + 6) (enc 2 (get_or ns 3 0))
    ≡ splice d at (encs 2 ns)
unfolding encs joined
four_laid d at (a ∷ b ∷ c ∷ e ∷ []) n h =
    let within : at ≤ length d = omega arith in
    let one : at + 2 ≡ at + length (enc 2 a) = omega (arith, length-enc 2 a) in
    let two : at + 4 ≡ at + length (enc 2 a ++ enc 2 b) = omega (arith, length-append (enc 2 a) (enc 2 b), length-enc 2 a, length-enc 2 b) in
    let three : at + 6 ≡ at + length (enc 2 a ++ enc 2 b ++ enc 2 c) =
    omega (arith, length-append (enc 2 a ++ enc 2 b) (enc 2 c), length-append (enc 2 a) (enc 2 b), length-enc 2 a, length-enc 2 b, length-enc 2 c) in
    let end : enc 2 a ++ enc 2 b ++ enc 2 c ++ enc 2 e ≡ enc 2 a ++ (enc 2 b ++ (enc 2 c ++ (enc 2 e ++ []))) = simp (append_assoc, append-nil) in
    rw (splice_behind d at (enc 2 a) (at + 2) (enc 2 b) within one, splice_behind d at (enc 2 a ++ enc 2 b) (at + 4) (enc 2 c) within two)
    (splice_behind d at (enc 2 a ++ enc 2 b ++ enc 2 c) (at + 6) (enc 2 e) within three ∙ ap (splice d at) end)
four_laid d at _ n h = absurd (omega arith)

pub encs-append : (w : ℕ) (xs ys : List ℕ) → encs w (xs ++ ys) ≡ encs w xs ++ encs w ys
unfolding encs joined
encs-append w [] ys = refl
encs-append w (x ∷ xs) ys = ap (λ (l : List ℕ). enc w x ++ l) (encs-append w xs ys) ∙ sym (append_assoc (enc w x) (encs w xs) (encs w ys))

-- ---- the elements of a value

module _ (s : List ℕ) (big : Bool) (w start n : ℕ) where
  -- those from i on
  unfoldable pub elements_from : ℕ → List ℕ
  elements_from i = encs w (build (λ j. num big w (drop start s) (w * j)) i (n - i))

  pub elements_all : elements_from 0 ≡ encs w (elems big w n (drop start s))
  unfolding elements_from elems
  elements_all = rw sub-zero

  pub elements_more : (i o a o' : ℕ) (out : List ℕ) → i < n → o ≤ length out → a ≡ start + w * i → o' ≡ o + w
      → splice (splice out o (enc w (num big w s a))) o' (elements_from (i + 1)) ≡ splice out o (elements_from i)
  unfolding elements_from encs joined
  elements_more i o a o' out h within is-a is_o =
      let g : ℕ → ℕ = λ j. num big w (drop start s) (w * j) in
      let e : num big w s a ≡ g i = ap (num big w s) is-a ∙ sym (num-drop big w start s (w * i)) in
      splice_behind out o (enc w (num big w s a)) o' (elements_from (i + 1)) within (omega (arith, length-enc w (num big w s a)))
      ∙ ap (λ (x : ℕ). splice out o (enc w x ++ elements_from (i + 1))) e
      ∙ ap (λ (xs : List ℕ). splice out o (encs w xs)) (sym (build-step g i n h))

  pub elements_none : (o : ℕ) (out : List ℕ) → splice out o (elements_from n) ≡ out
  unfolding elements_from encs joined
  elements_none o out = rw (build-end (λ j. num big w (drop start s) (w * j)) n) (splice_nil out o)

-- what `put_elements` asks of all that
pub ruleset elements_turn = (elements_all, elements_more, elements_none)

-- ---- the values of the entries at a location

module _ (directory s : List ℕ) (big : Bool) (w l n : ℕ) where
  abbrev entry : ℕ → KeyEntry
  entry = key_at (runs big directory [] [])

  -- those of the entries from i on
  unfoldable pub values_from : ℕ → List ℕ
  values_from i = encs w (joined (values_at big l w s) (build entry i (n - i)))

  pub values_all : values_from 0 ≡ value_bytes big w l s directory n
  unfolding values_from
  values_all = rw sub-zero

  values-step : (i : ℕ) → i < n → values_from i ≡ encs w (values_at big l w s (entry i)) ++ values_from (i + 1)
  unfolding values_from joined
  values-step i h =
      ap (λ (es : List KeyEntry). encs w (joined (values_at big l w s) es)) (build-step entry i n h)
      ∙ encs-append w (values_at big l w s (entry i)) (joined (values_at big l w s) (build entry (i + 1) (n - (i + 1))))

  length-value : (e : KeyEntry) → length (encs w (values_at big l w s e)) ≡ w * count_if_at l e
  length-value e = length-encs w (values_at big l w s e) ∙ ap (λ (k : ℕ). w * k) (length-values big l w s e)

  pub values_long : (i : ℕ) → i < n → length (values_from i) ≡ w * count_if_at l (entry i) + length (values_from (i + 1))
  values_long i h = omega (arith, ap length (values-step i h), length-append (encs w (values_at big l w s (entry i))) (values_from (i + 1)), length-value (entry i))

  pub values_more : (i o o' : ℕ) (out : List ℕ) → i < n → o ≤ length out → o' ≡ o + w * count_if_at l (entry i)
      → splice (splice out o (encs w (values_at big l w s (entry i)))) o' (values_from (i + 1)) ≡ splice out o (values_from i)
  values_more i o o' out h within is_o =
      splice_behind out o (encs w (values_at big l w s (entry i))) o' (values_from (i + 1)) within (omega (arith, length-value (entry i)))
      ∙ ap (splice out o) (sym (values-step i h))

  pub values_none : (o : ℕ) (out : List ℕ) → splice out o (values_from n) ≡ out
  unfolding values_from encs joined
  values_none o out = rw (build-end entry n) (splice_nil out o)

-- what `put_values` asks of all that
pub ruleset values_turn = (values_all, values_long, values_more, values_none)

-- ---- the entries

module _ (directory : List ℕ) (big : Bool) (n : ℕ) where
  abbrev entry_at : ℕ → KeyEntry
  entry_at = key_at (runs big directory [] [])

  -- those from i on, with b before them
  unfoldable pub entries_from : Before → ℕ → List ℕ
  entries_from b i = encs 2 (joined entry_numbers (moved b.shorts b.doubles b.characters (build entry_at i (n - i))))

  pub entries_all : entries_from (nothing n) 0 ≡ entry_bytes big directory n
  unfolding entries_from
  entries_all = rw sub-zero

  pub entries_more : (b : Before) (i o o' index : ℕ) (out : List ℕ) → i < n → o ≤ length out → o' ≡ o + 8
      → index ≡ new_index b.shorts b.doubles b.characters (entry_at i)
      → splice (splice out o (encs 2 ((entry_at i).key ∷ (entry_at i).location ∷ (entry_at i).count ∷ index ∷ []))) o' (entries_from (next_of b (entry_at i)) (i + 1))
      ≡ splice out o (entries_from b i)
  unfolding entries_from moved joined entry_numbers
  entries_more b i o o' index out h within is_o is-index =
      let e : KeyEntry = entry_at i in
      let numbers : List ℕ = e.key ∷ e.location ∷ e.count ∷ index ∷ [] in
      let rest : List ℕ = entries_from (next_of b e) (i + 1) in
      splice_behind out o (encs 2 numbers) o' rest within (omega (arith, length-encs 2 numbers))
      ∙ ap (splice out o)
      (ap (λ (x : ℕ). encs 2 (e.key ∷ e.location ∷ e.count ∷ x ∷ []) ++ rest) is-index
      ∙ sym (ap (λ (es : List KeyEntry). encs 2 (joined entry_numbers (moved b.shorts b.doubles b.characters es))) (build-step entry_at i n h)
      ∙ encs-append 2 (e.key ∷ e.location ∷ e.count ∷ new_index b.shorts b.doubles b.characters e ∷ []) _))

  pub entries_none : (b : Before) (o : ℕ) (out : List ℕ) → splice out o (entries_from b n) ≡ out
  unfolding entries_from encs joined moved
  entries_none b o out = rw (build-end entry_at n) (splice_nil out o)

-- what `put_entries` asks of all that
pub ruleset entries_turn = (entries_all, entries_more, entries_none)
