-- A citation, as code finds it in a file that was examined: where it is refused by rule 26, where it stands, and that it lies in the file.
-- Assumes nothing.
use Prim.Native.Nat.{ℕ, ◌+◌, ◌-◌, ◌*◌, ◌≤◌}
use mathlib.Core.Path.{◌≡◌, refl, sym, ap, subst, ◌∙◌}
use mathlib.Core.Bool.{and-false}
use mathlib.Core.List.{List, []}
use native.Mathlib.Omega.{arith}
use lib.Dec.{lit<}
use lib.ListN.{length}
use borrow.Author.Tests.{eq-eqb, ne_eqb}
use Rattle.std.proofs.Common.{Some, None}
use Rattle.paper.specs.Bytes.{run, build}
use Rattle.paper.specs.Outcome.{first}
use Rattle.paper.specs.Tag
use Rattle.paper.specs.Tags.{table, find, bytes_of}
use Rattle.paper.specs.Keys.{short, keys, minor_revision, key_count, key_at, rule15, known_keys, kind_in, kind_of, find_key, has_key}
use Rattle.paper.specs.Judge.{view, runs_of, verdict_of}
use Rattle.paper.specs.Calls.{starts_of, rule26, cited_in, cited_of, citation}
use Rattle.paper.specs.declared.Cited.{Cited}
use Rattle.paper.specs.declared.KeyEntry.{KeyEntry}
use Rattle.paper.proofs.Called.{answer-good, answer-bad}
use Rattle.paper.proofs.Citation.{cite-within}
use Rattle.paper.proofs.Laws.{run-length-in}
use Rattle.paper.proofs.Keeps.{rule15-kept, rule17-kept}
use Rattle.tags.specs.Index
use Rattle.tags.specs.Slots.{tag_at, line_at}
use Rattle.keys.specs.Pass.{runs}
use Rattle.keys.proofs.Head.{Headed, headed}
use Rattle.image.specs.Imaging.{tag_part, lasting_in}
use Rattle.judge.specs.Examining.{examined_in}
use Rattle.judge.specs.declared.Examined.{Examined}
use Rattle.image.proofs.Seen.{Stands}
use Rattle.judge.proofs.Seen.{stands}
use Rattle.texts.specs.Finding.{with_key}
use Rattle.texts.proofs.Sought.{some-found, none_found}

-- ---- a file that is refused

pub refused : (f : List ℕ) (k : ℕ) → ((verdict_of f).number ≡ 0 → ⊥) → cited_of f k ≡ record { verdict = verdict_of f; start = 0; len = 0 }
unfolding cited_of
refused f k n = let z = ne_eqb _ 0 n in answer-bad f (cited_in k) _ n ∙ rw z

-- ---- a file that is accepted

-- a refusal by rule 26
abbrev pub uncited : ℕ → Cited
uncited k = record { verdict = record { number = 26; place = k }; start = 0; len = 0 }

module _ (f : List ℕ) (zero : (verdict_of f).number ≡ 0) where
  directory : Stands f (view f).held Tag.key_directory
  unfolding tag_at line_at table
  directory = stands f zero Index.key_directory (lit< tt)

  characters : Stands f (view f).held Tag.characters
  unfolding tag_at line_at table
  characters = stands f zero Index.characters (lit< tt)

  -- what was found of the file
  abbrev Found : Examined
  Found = examined_in f

  -- the key directory's part of the file, and all its key entries
  abbrev Directory : List ℕ
  Directory = run f Found.image.directory.start Found.image.directory.len

  abbrev Entries : List KeyEntry
  Entries = build (key_at (runs Found.image.big Directory [] [])) 0 Found.surveyed.keys

  pub directory-within : Found.image.directory.start + Found.image.directory.len ≤ length f
  unfolding examined_in lasting_in tag_part
  directory-within = directory.within

  head-is : Headed (view f).head.big (bytes_of Tag.key_directory (view f).held)
  unfolding rule15 short minor_revision key_count runs_of
  head-is = headed (view f).head.big (bytes_of Tag.key_directory (view f).held) (rule15 (runs_of (view f))) refl (rule15-kept f zero)

  pub few : Found.surveyed.keys ≤ 256
  unfolding examined_in runs_of key_count short
  few = head-is.few

  pub whole : 8 + 8 * Found.surveyed.keys ≤ length Directory
  unfolding examined_in lasting_in tag_part runs_of key_count short
  whole = rw directory.bytes head-is.whole

  entries-are : Entries ≡ keys (runs_of (view f))
  unfolding examined_in lasting_in tag_part runs_of keys key_count short key_at
  entries-are = ap (λ (d : List ℕ). build (key_at (runs (view f).head.big d [] [])) 0 (key_count (runs_of (view f)))) directory.bytes

  pub kind_refused : (k : ℕ) → (kind_of k ≡ 2 → ⊥) → cited_of f k ≡ uncited k
  unfolding cited_of cited_in rule26 first
  kind_refused k n = let z = ne_eqb (kind_of k) 2 n in answer-good f (cited_in k) _ zero ∙ rw z

  module _ (k : ℕ) (ascii : kind_of k ≡ 2) where
    -- the kind of key 0 is no ASCII
    not_nought : 0 ≡ k → ⊥
    unfolding kind_of kind_in known_keys
    not_nought z =
        let q : 3 ≡ 2 = subst (λ (n : ℕ). kind_of n ≡ 2) (sym z) ascii in
        omega (arith, q)

    -- the paper's entry
    abbrev Of : KeyEntry
    Of = find_key k (keys (runs_of (view f)))

    pub key_refused : None ≡ with_key k Entries → cited_of f k ≡ uncited k
    unfolding cited_of cited_in rule26 first has_key
    key_refused none =
        let o = none_found k (keys (runs_of (view f))) (rw entries-are at none) in
        let z = ne_eqb Of.key k (λ q. not_nought (ap (λ (y : KeyEntry). y.key) (sym o) ∙ q)) in
        answer-good f (cited_in k) _ zero ∙ rw (z, and-false)

    module _ (x : KeyEntry) (some : Some x ≡ with_key k Entries) where
      is-x : (x ≡ Of) × (x.key ≡ k)
      is-x = some-found k (keys (runs_of (view f))) x (rw entries-are at some)

      key-is : Of.key ≡ k
      key-is = ap (λ (y : KeyEntry). y.key) (sym is-x.0) ∙ is-x.1

      pub key_cited : cited_of f k ≡ record { verdict = record { number = 0; place = 0 }; start = Found.image.characters.start + x.index; len = x.count - 1 }
      unfolding cited_of cited_in rule26 first has_key starts_of examined_in lasting_in tag_part
      key_cited = answer-good f (cited_in k) _ zero ∙ rw (eq-eqb _ 2 ascii, eq-eqb _ k key-is, is-x.0)

      chars-length : length (runs_of (view f)).characters ≡ (find Tag.characters (view f).held).entry.len
      unfolding runs_of
      chars-length = ap length (sym characters.bytes) ∙ run-length-in f _ _ characters.within

      of-paper : (1 ≤ Of.count) × (Of.index + Of.count ≤ length (runs_of (view f)).characters)
      unfolding has_key
      of-paper = cite-within (runs_of (view f)) k (rule17-kept f zero) ascii (eq-eqb _ k key-is)

      pub some-there : 1 ≤ x.count
      some-there = rw is-x.0 of-paper.0

      pub in-file : Found.image.characters.start + x.index + x.count ≤ length f
      unfolding examined_in lasting_in tag_part
      in-file = rw is-x.0 (omega (arith, of-paper.1, chars-length, characters.within))

-- what `find_citation` asks of all that
pub ruleset cites = (refused, kind_refused, key_refused, key_cited, some-there, in-file, directory-within, few, whole)

-- ---- the part that is cut out

pub cut : (f : List ℕ) (k : ℕ) (c : Cited) → c ≡ cited_of f k → run f c.start c.len ≡ citation f k
unfolding citation
cut f k c is = ap (λ (x : Cited). run f x.start x.len) is
