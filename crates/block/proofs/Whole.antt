-- The block of three runs in the words of the code: its keys, its bytes and the lengths of its parts; and that each value lies in its run where rule 17 is
-- kept. Assumes nothing.
use Prim.Native.Nat.{ℕ, ◌+◌, ◌*◌, ◌≤◌, ◌<◌}
use mathlib.Core.Path.{◌≡◌, refl, sym, ap, ap₂, ◌∙◌, subst}
use mathlib.Core.Bool.{Bool, false}
use mathlib.Core.List.{List, [], ◌∷◌, ◌++◌, append_assoc}
use native.Mathlib.Nat.{zero-add}
use native.Mathlib.Omega.{arith}
use lib.ListN.{length, get_or, length-append}
use borrow.Author.Tests.{not-false}
use Rattle.paper.specs.Keys.{Runs, short, minor_revision, key_count, key_at, keys, kind_of, room, within, misplaced, rule17, no_key_entry}
use Rattle.paper.specs.Bytes.{build}
use Rattle.paper.specs.declared.Outcome.TheVariants.{Kept as kept}
use Rattle.paper.specs.Block.{joined, encs, values_at, moved_keys, entry_numbers, short_values, double_values, character_values, directory_numbers}
use Rattle.paper.specs.Block.{block_directory, block_doubles, block_characters, block_bytes}
use Rattle.paper.specs.declared.KeyEntry.{KeyEntry}
use Rattle.paper.specs.Tag
use Rattle.paper.proofs.Laws.{length-build, kept-all, get_or-build}
use Rattle.paper.proofs.Codec.{length-encs, length-values, length_moved}
use Rattle.paper.proofs.RoundTrip.{length-entries}
use Rattle.keys.specs.Pass.{runs}
use Rattle.keys.proofs.Placed.{within-gives}
use Rattle.keys.proofs.Rows.{placed-within}
use Rattle.block.specs.Splice.{AllLie, entries_of, value_bytes, laid_bytes}
use Rattle.block.specs.Sizes.{total}
use Rattle.block.proofs.Writing.{splice_front}
use Rattle.block.proofs.Turns.{encs-append}

-- ---- how long the values are

-- they count the elements
total-values : (big : Bool) (l w : ℕ) (s : List ℕ) (es : List KeyEntry) → length (joined (values_at big l w s) es) ≡ total l es
unfolding joined total
total-values big l w s [] = refl
total-values big l w s (e ∷ es) =
    length-append (values_at big l w s e) (joined (values_at big l w s) es) ∙ ap₂ (λ (m n : ℕ). m + n) (length-values big l w s e) (total-values big l w s es)

values-long : (big : Bool) (l w : ℕ) (s : List ℕ) (es : List KeyEntry) → length (encs w (joined (values_at big l w s) es)) ≡ w * total l es
values-long big l w s es = length-encs w (joined (values_at big l w s) es) ∙ ap (λ (n : ℕ). w * n) (total-values big l w s es)

pub value_bytes_long : (big : Bool) (w l : ℕ) (s d : List ℕ) (k : ℕ) → length (value_bytes big w l s d k) ≡ w * total l (entries_of big d k)
value_bytes_long big w l s d k = values-long big l w s (entries_of big d k)

-- ---- the block

module _ (big : Bool) (d x c : List ℕ) where
  pub keys_are : keys (runs big d x c) ≡ entries_of big d (key_count (runs big d x c))
  unfolding keys key_at short
  keys_are = refl

  pub bytes_are : block_bytes (runs big d x c) ≡ laid_bytes big d x c (minor_revision (runs big d x c)) (key_count (runs big d x c))
  unfolding block_bytes block_directory block_doubles block_characters directory_numbers moved_keys short_values double_values character_values keys key_at short
  bytes_are =
      let r = runs big d x c in
      let h : List ℕ = 1 ∷ 1 ∷ minor_revision r ∷ key_count r ∷ [] in
      let e : List ℕ = joined entry_numbers (moved_keys r) in
      let s : List ℕ = short_values r in
      let rest : List ℕ = block_doubles r ++ block_characters r in
      let end : encs 2 h ++ (encs 2 e ++ encs 2 s) ++ rest ≡ encs 2 h ++ (encs 2 e ++ (encs 2 s ++ rest)) =
      append_assoc (encs 2 h) (encs 2 e ++ encs 2 s) rest ∙ ap (λ (t : List ℕ). encs 2 h ++ t) (append_assoc (encs 2 e) (encs 2 s) rest) in
      ap (λ (t : List ℕ). t ++ rest) (encs-append 2 h (e ++ s) ∙ ap (λ (t : List ℕ). encs 2 h ++ t) (encs-append 2 e s)) ∙ end

  pub directory_long : length (block_directory (runs big d x c)) ≡ 2 * (4 + 4 * key_count (runs big d x c) + total Tag.key_directory (keys (runs big d x c)))
  unfolding block_directory directory_numbers moved_keys short_values keys
  directory_long =
      let r = runs big d x c in
      let es : List ℕ = joined entry_numbers (moved_keys r) in
      let vs : List ℕ = short_values r in
      omega (
        arith,
        length-encs 2 (1 ∷ 1 ∷ minor_revision r ∷ key_count r ∷ es ++ vs),
        length-append es vs,
        length-entries (moved_keys r),
        length_moved (4 + 4 * key_count r) 0 0 (keys r),
        length-build (key_at r) 0 (key_count r),
        total-values big Tag.key_directory 2 d (keys r),
      )

  pub doubles_long : length (block_doubles (runs big d x c)) ≡ 8 * total Tag.doubles (keys (runs big d x c))
  unfolding block_doubles double_values
  doubles_long = values-long big Tag.doubles 8 x (keys (runs big d x c))

  pub characters_long : length (block_characters (runs big d x c)) ≡ total Tag.characters (keys (runs big d x c))
  unfolding block_characters character_values
  characters_long = omega (arith, values-long big Tag.characters 1 c (keys (runs big d x c)))

  pub bytes_long : length (block_bytes (runs big d x c))
      ≡ length (block_directory (runs big d x c)) + length (block_doubles (runs big d x c)) + length (block_characters (runs big d x c))
  unfolding block_bytes
  bytes_long =
      let r = runs big d x c in
      omega (
        arith,
        length-append (block_directory r) (block_doubles r ++ block_characters r),
        length-append (block_doubles r) (block_characters r),
      )

-- ---- what rule 17 says

module _ (r : Runs) (keeps : rule17 r (keys r) ≡ kept) where
  placed : (i : ℕ) → i < key_count r → misplaced r (key_at r i) ≡ false
  unfolding rule17 keys
  placed i h =
      let n : i < length (build (key_at r) 0 (key_count r)) = rw (length-build (key_at r) 0 (key_count r)) h in
      let b : misplaced r (get_or (build (key_at r) 0 (key_count r)) i no_key_entry) ≡ false =
      kept-all (misplaced r) _ (build (key_at r) 0 (key_count r)) no_key_entry keeps i n in
      rw (get_or-build (key_at r) no_key_entry 0 (key_count r) i h, zero-add i) at b

  inside : (i : ℕ) → i < key_count r → ((key_at r i).location ≡ 0 → ⊥) → (key_at r i).index + (key_at r i).count ≤ room r (key_at r i).location
  unfolding misplaced
  inside i h out =
      let e = key_at r i in
      (within-gives (within r e) e.count e.index (room r e.location) refl (placed-within r e (kind_of e.key) (not-false _ (placed i h)) out)).1

  located : (l : ℕ) → (l ≡ 0 → ⊥) → (i : ℕ) → i < key_count r → (key_at r i).location ≡ l → (key_at r i).index + (key_at r i).count ≤ room r l
  located l n i h p = subst (λ (y : ℕ). (key_at r i).index + (key_at r i).count ≤ room r y) p (inside i h (λ z. n (sym p ∙ z)))

  -- each value lies in its run
  pub shorts_lie : (rule17 r (keys r) ≡ rule17 r (keys r)) × AllLie r.big r.directory Tag.key_directory 2 r.directory (key_count r)
  unfolding key_at short room
  shorts_lie = (refl, λ i h p. omega (arith, located Tag.key_directory (λ z. omega arith) i h p))

  pub doubles_lie : (rule17 r (keys r) ≡ rule17 r (keys r)) × AllLie r.big r.directory Tag.doubles 8 r.doubles (key_count r)
  unfolding key_at short room
  doubles_lie = (refl, λ i h p. omega (arith, located Tag.doubles (λ z. omega arith) i h p))

  pub characters_lie : (rule17 r (keys r) ≡ rule17 r (keys r)) × AllLie r.big r.directory Tag.characters 1 r.characters (key_count r)
  unfolding key_at short room
  characters_lie = (refl, λ i h p. omega (arith, located Tag.characters (λ z. omega arith) i h p))

-- what `write_runs` asks of all that
pub ruleset whole_block = (value_bytes_long, keys_are, bytes_are, directory_long, doubles_long, characters_long, bytes_long, splice_front, shorts_lie, doubles_lie, characters_lie)
