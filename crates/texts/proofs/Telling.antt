-- A metadata text, as code finds it by its number: where it stands in the file or outside, and that it lies there. Assumes nothing.
use Prim.Native.Nat.{ℕ, suc, ◌+◌, ◌-◌, ◌*◌, ◌≤◌, ◌<◌}
use mathlib.Core.Path.{◌≡◌, refl, sym, ap, ◌∙◌}
use mathlib.Core.Bool.{Bool, true, false, cond}
use mathlib.Core.List.{List, [], ◌∷◌}
use native.Mathlib.Nat.{zero-add}
use native.Mathlib.Omega.{arith}
use lib.Dec.{eqb, lit<}
use lib.ListN.{length, get_or, drop}
use borrow.Author.Tests.{ne_eqb}
use Rattle.std.specs.Prelude.{Ok, Some, None, IfSome}
use Rattle.paper.specs.Bytes.{run}
use Rattle.paper.specs.Tag
use Rattle.paper.specs.Tags.{table, absent, has}
use Rattle.paper.specs.Judge.{view, view_at, head_in, dir_run, entries_in, verdict_of}
use Rattle.paper.specs.Shown.{text_entries, texts_held, text_entry}
use Rattle.paper.specs.Outcome.{verdict}
use Rattle.paper.specs.Layout.{entry_of}
use Rattle.paper.specs.Calls.{text_within, text_of, metadata_text}
use Rattle.paper.specs.declared.Entry.{Entry}
use Rattle.paper.specs.declared.Part.{Part}
use Rattle.paper.specs.declared.Text.{Text}
use Rattle.paper.proofs.Called.{answer-good, answer-bad}
use Rattle.paper.proofs.Laws.{run-length-in, get_or-build}
use Rattle.paper.proofs.Several.{entries-held}
use Rattle.paper.proofs.Once.{text_before, text-once}
use Rattle.paper.proofs.Texts.{text-past, text-own}
use Rattle.layout.specs.Repeats.{text_count, further_of, later_texts, entries_from}
use Rattle.layout.specs.declared.Further.{Further}
use Rattle.layout.proofs.Repeats.{many_is}
use Rattle.tags.specs.Index
use Rattle.tags.specs.Slots.{tag_at, line_at}
use Rattle.image.specs.Imaging.{tag_part, text_part, lasting_in}
use Rattle.image.proofs.Seen.{Stands}
use Rattle.judge.specs.Examining.{examined_in}
use Rattle.judge.specs.declared.Examined.{Examined}
use Rattle.judge.proofs.Seen.{size, stands, further-stands, further-inside}
use Rattle.texts.specs.Told.{text_or}

-- ---- a file that is refused

pub refused : (f : List ℕ) (k m : ℕ) → ((verdict_of f).number ≡ 0 → ⊥) → text_of f k m ≡ record { verdict = verdict_of f; from = 0; start = 0; len = 0 }
unfolding text_of
refused f k m n = let z = ne_eqb (verdict_of f).number 0 n in answer-bad f (text_within k m) _ n ∙ rw z

-- ---- a file that is accepted

-- what is told of a text that may be there, and that it lies in n bytes
told-either : (m : ℕ) (there : Bool) (p : Part)
    → cond there (record { verdict = verdict 0 0; from = 0; start = p.start; len = p.len }) (record { verdict = verdict 0 0; from = 1; start = 0; len = m })
    ≡ text_or m (Ok (cond there (Some p) None))
told-either m true p = refl
told-either m false p = refl

within-either : (n : ℕ) (there : Bool) (p : Part) → p.start + p.len ≤ n → IfSome (cond there (Some p) None) (λ q. q.start + q.len ≤ n)
within-either n true p h = h
within-either n false p h = tt

module _ (f : List ℕ) (zero : (verdict_of f).number ≡ 0) where
  -- what was found of the file
  abbrev Found : Examined
  Found = examined_in f

  stands-in : Stands f (view f).held Tag.metadata
  unfolding tag_at line_at table
  stands-in = stands f zero Index.metadata (lit< tt)

  -- number 0, with m bytes outside
  pub first_told : (m : ℕ) → text_of f 0 m ≡ text_or m (Ok Found.image.metadata)
  unfolding examined_in lasting_in text_part tag_part text_before
  first_told m =
      text-once f m
      ∙ answer-good f (text_before m) _ zero
      ∙ told-either m (has Tag.metadata (view f).held) (tag_part Tag.metadata (view f).held)

  pub first_within : IfSome Found.image.metadata (λ p. p.start + p.len ≤ length f)
  unfolding examined_in lasting_in text_part tag_part
  first_within = within-either (length f) (has Tag.metadata (view f).held) (tag_part Tag.metadata (view f).held) stands-in.within

  -- the further entries
  abbrev Es : List Entry
  Es = entries_in f (head_in f)

  abbrev Seconds : Further
  Seconds = further_of (head_in f).at Es

  further-is : Found.image.further ≡ Seconds
  unfolding examined_in lasting_in view view_at
  further-is = ap (further_of (head_in f).at) (entries-held table f Es)

  big_is : Found.image.big ≡ (head_in f).big
  unfolding examined_in lasting_in view view_at
  big_is = refl

  pub room : Found.image.further.start + 12 * Found.image.further.many ≤ length f
  room = rw further-is (further-stands f zero).room

  pub few : Found.image.further.many ≤ 1024
  few = rw further-is (further-stands f zero).few

  pub long : length (run f Found.image.further.start (12 * Found.image.further.many)) ≡ 12 * Found.image.further.many
  long = run-length-in f _ _ room

  -- text k, from 1 on
  module _ (k : ℕ) (some : 0 < k) where
    pub past : (m : ℕ) → Found.image.further.many < k → text_of f k m ≡ record { verdict = verdict 29 k; from = 0; start = 0; len = 0 }
    unfolding text_count
    past m l =
        let n = many_is (head_in f).at Es in
        let h : Seconds.many < k = rw (← further-is) l in
        text-past f zero k m (omega arith) some

    module _ (l : k ≤ Found.image.further.many) where
      -- its entry, as it stands in the bytes of the further ones
      abbrev It : Entry
      It =
          entry_of Found.image.big Found.image.further.start (run f Found.image.further.start (12 * Found.image.further.many)) (12 * (k - 1))

      there : k ≤ Seconds.many
      there = rw (← further-is) l

      it-is : It ≡ get_or (later_texts Es) (k - 1) absent.entry
      unfolding entries_from entries_in dir_run
      it-is =
          let g : ℕ → Entry = λ i. entry_of (head_in f).big Seconds.start (run f Seconds.start (12 * Seconds.many)) (12 * i) in
          rw (further-is, big_is) (
          ap g (sym (zero-add (k - 1)))
          ∙ sym (get_or-build g absent.entry 0 Seconds.many (k - 1) (omega (arith, there)))
          ∙ ap (λ (xs : List Entry). get_or xs (k - 1) absent.entry) (further-stands f zero).are
          )

      text-is : get_or (later_texts Es) (k - 1) absent.entry ≡ text_entry f k
      text-is = behind (text_entries f) (k - 1) ∙ ap (λ (i : ℕ). get_or (text_entries f) i absent.entry) (omega arith)
        where
          behind : (xs : List Entry) (j : ℕ) → get_or (drop 1 xs) j absent.entry ≡ get_or xs (suc j) absent.entry
          behind [] j = refl
          behind (x ∷ xs) j = refl

      few-before : k < texts_held f
      unfolding text_count
      few-before = let n = many_is (head_in f).at Es in omega (arith, there)

      pub own : (m : ℕ) → text_of f k m ≡ record { verdict = verdict 0 0; from = 0; start = It.start; len = It.len }
      own m = rw (it-is, text-is) (text-own f zero k m few-before)

      pub own_within : It.start + It.len ≤ length f
      own_within =
          let n = many_is (head_in f).at Es in
          rw it-is (further-inside f zero absent.entry (k - 1) (omega (arith, there)))

-- what `find_text` and `later_text` ask of all that
pub ruleset tells = (refused, first_told, first_within, room, few, size, long, past, own, own_within)

-- ---- the part that is cut out

module _ (f outside : List ℕ) (k : ℕ) (t : Text) (is : t ≡ text_of f k (length outside)) where
  pub cut : run (cond (eqb t.from 0) f outside) t.start t.len ≡ metadata_text f k outside
  unfolding metadata_text
  cut = ap (λ (x : Text). run (cond (eqb x.from 0) f outside) x.start x.len) is
