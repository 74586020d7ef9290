-- The image, then the survey, then the mask are the whole judgement: where one of them refuses, its verdict is the file's; where none does, what the first
-- two found is what the view shows. Assumes nothing.
use Prim.Native.Nat.{ℕ, ◌+◌, ◌≤◌, ◌<◌}
use mathlib.Core.Path.{◌≡◌, refl, sym, ap, ◌∙◌, subst}
use mathlib.Core.Bool.{Bool, true, false, cond}
use mathlib.Core.List.{List}
use lib.Dec.{eqb, lit<}
use lib.ListN.{length}
use borrow.Author.Rules.{rules}
use Rattle.std.specs.Prelude.{Result, Ok, Err, Some, None}
use Rattle.std.proofs.lemmas.Option.{same_Some}
use Rattle.paper.specs.Bytes.{run}
use Rattle.paper.specs.Tag
use Rattle.paper.specs.Tags.{table, bytes_of}
use Rattle.paper.specs.declared.Part.{Part}
use Rattle.paper.specs.Outcome.{verdict, first}
use Rattle.paper.specs.Judge.{view, view_at, head_in, next_in, pieces_of, runs_of, survey_of, survey_rules, image_stage, survey_stage, file_stage, mask_stage, verdict_of}
use Rattle.paper.specs.Judge.{has_mask, mask_verdict, rule28}
use Rattle.paper.specs.declared.Verdict.{Verdict}
use Rattle.paper.proofs.First.{chain-both}
use Rattle.pieces.specs.Spans.{span_of}
use Rattle.outcomes.specs.Ruled.{ruled}
use Rattle.outcomes.proofs.Ruled.{first-refuses, first-kept, found-ruled, kept-ruled, other-refuses}
use Rattle.tags.specs.Index
use Rattle.tags.specs.Slots.{line_at, tag_at}
use Rattle.keys.specs.Pass.{runs}
use Rattle.ground.specs.Answer.{Sized}
use Rattle.image.specs.Imaging.{tag_part, next_of, lasting_in, image_in, image_of}
use Rattle.image.specs.declared.Image.{Image}
use Rattle.image.specs.declared.Imaged.{Imaged}
use Rattle.image.specs.declared.Next.{Next}
use Rattle.mask.specs.Masking.{numbered}
use Rattle.second.specs.Before.{Before}
use Rattle.survey.specs.Surveying.{surveyed_of, survey_found}
use Rattle.survey.specs.declared.Surveyed.{Surveyed}
use Rattle.judge.specs.Examining.{own_image, lasting_image, examined_in, examined_of, own_of}
use Rattle.judge.specs.declared.Examined.{Examined}
use Rattle.image.proofs.Seen.{Stands, image-stands}
use Rattle.judge.proofs.Seen.{sized}

-- the image refuses
pub image-bad : (f : List ℕ) {e : Verdict} → Err e ≡ image_of f → Err e ≡ own_of f
unfolding image_of own_of file_stage
image-bad f h = first-refuses (image_stage f) (survey_stage (view f)) _ (examined_in f) _ h

-- where the next offset leads, if it is not 0
abbrev ahead : List ℕ → Next
ahead f = record { offset = next_in f (head_in f); span = span_of (pieces_of (view f)) }

-- a part that lies in the file, and the bytes that it names
pub record Names (f : List ℕ) (p : Part) (bytes : List ℕ) : Type 0 where
  pub within : p.start + p.len ≤ length f
  pub bytes_are : run f p.start p.len ≡ bytes

module _ (f : List ℕ) {i : Imaged} (is : Ok i ≡ image_of f) where
  image-zero : (image_stage f).number ≡ 0
  unfolding image_of
  image-zero = (found-ruled (image_stage f) _ i is).0

  here : i ≡ own_image f
  unfolding image_of
  here = (found-ruled (image_stage f) _ i is).1

  names : (p : Part) (k : ℕ) → k < Index.many → p ≡ tag_part (tag_at k) (view f).held → Names f p (bytes_of (tag_at k) (view f).held)
  unfolding tag_part
  names p k h e =
      let s : Stands f (view f).held (tag_at k) = image-stands f image-zero k h in
      subst (λ (q : Part). Names f q (bytes_of (tag_at k) (view f).held)) (sym e) (record { within = s.within; bytes_are = s.bytes })

  pub directory-named : Names f i.image.directory (bytes_of Tag.key_directory (view f).held)
  unfolding image_in lasting_in tag_at line_at table
  directory-named = names i.image.directory Index.key_directory (lit< tt) (ap (λ (x : Imaged). x.image.directory) here)

  pub doubles-named : Names f i.image.doubles (bytes_of Tag.doubles (view f).held)
  unfolding image_in lasting_in tag_at line_at table
  doubles-named = names i.image.doubles Index.doubles (lit< tt) (ap (λ (x : Imaged). x.image.doubles) here)

  pub characters-named : Names f i.image.characters (bytes_of Tag.characters (view f).held)
  unfolding image_in lasting_in tag_at line_at table
  characters-named = names i.image.characters Index.characters (lit< tt) (ap (λ (x : Imaged). x.image.characters) here)

  pub scale-named : Names f i.scale (bytes_of Tag.scale (view f).held)
  unfolding image_in lasting_in tag_at line_at table
  scale-named = names i.scale Index.scale (lit< tt) (ap (λ (x : Imaged). x.scale) here)

  pub tiepoint-named : Names f i.tiepoint (bytes_of Tag.tiepoint (view f).held)
  unfolding image_in lasting_in tag_at line_at table
  tiepoint-named = names i.tiepoint Index.tiepoint (lit< tt) (ap (λ (x : Imaged). x.tiepoint) here)

  pub matrix-named : Names f i.matrix (bytes_of Tag.matrix (view f).held)
  unfolding image_in lasting_in tag_at line_at table
  matrix-named = names i.matrix Index.matrix (lit< tt) (ap (λ (x : Imaged). x.matrix) here)

  -- the runs that the survey is handed
  module _ {directory doubles characters scale tiepoint matrix : List ℕ}
      (d : directory ≡ run f i.image.directory.start i.image.directory.len) (x : doubles ≡ run f i.image.doubles.start i.image.doubles.len)
      (ch : characters ≡ run f i.image.characters.start i.image.characters.len) (s : scale ≡ run f i.scale.start i.scale.len)
      (t : tiepoint ≡ run f i.tiepoint.start i.tiepoint.len) (m : matrix ≡ run f i.matrix.start i.matrix.len) where
    pub runs-sized : Sized scale tiepoint matrix
    runs-sized =
        rw (s ∙ scale-named.bytes_are, t ∙ tiepoint-named.bytes_are, m ∙ matrix-named.bytes_are) (sized f image-zero)

    module _ {r : Result Surveyed Verdict} (so : r ≡ surveyed_of (runs i.image.big directory doubles characters) scale tiepoint matrix i.image.size.width i.image.size.length) where
      survey-is : r ≡ ruled (survey_stage (view f)) (survey_found (runs_of (view f)) (survey_of (view f)))
      unfolding surveyed_of survey_stage survey_rules runs_of survey_of image_in lasting_in
      survey-is =
          so
          ∙ (λ k. surveyed_of
          (runs (here k).image.big ((d ∙ directory-named.bytes_are) k) ((x ∙ doubles-named.bytes_are) k) ((ch ∙ characters-named.bytes_are) k))
          ((s ∙ scale-named.bytes_are) k) ((t ∙ tiepoint-named.bytes_are) k) ((m ∙ matrix-named.bytes_are) k) (here k).image.size.width (here k).image.size.length)

      left : own_of f ≡ ruled (survey_stage (view f)) (examined_in f)
      unfolding own_of file_stage image_of
      left = first-kept (image_stage f) (survey_stage (view f)) _ i (examined_in f) is

      -- the survey refuses
      pub survey-bad : {e : Verdict} → Err e ≡ r → Err e ≡ own_of f
      survey-bad h = other-refuses (survey_stage (view f)) _ (examined_in f) _ (h ∙ survey-is) ∙ sym left

      -- neither refuses
      pub both-good : {j : Surveyed} → Ok j ≡ r → Ok (record { surveyed = j; image = i.image }) ≡ own_of f
      unfolding examined_in image_in
      both-good {j} h =
          let w = found-ruled (survey_stage (view f)) _ j (h ∙ survey-is) in
          (λ k. Ok (record { surveyed = w.1 k; image = (here k).image }))
          ∙ sym (left ∙ kept-ruled (survey_stage (view f)) (examined_in f) w.0)

-- ---- and then the mask

module _ (f : List ℕ) {i : Image} (here : i ≡ lasting_image f) where
  next-is : i.next ≡ next_of (view f) (next_in f (head_in f))
  unfolding lasting_in
  next-is = ap (λ (x : Image). x.next) here

  -- there is none
  alone : i.next ≡ None → Ok (tt {0}) ≡ ruled (mask_stage f) (tt {0})
  unfolding mask_stage rule28 has_mask first ruled next_of
  alone n = go (eqb (next_in f (head_in f)) 0) refl (sym n ∙ next-is)
    where
      go : (b : Bool) → eqb (next_in f (head_in f)) 0 ≡ b
          → None ≡ cond b None (Some (ahead f))
          → Ok (tt {0}) ≡ ruled (mask_stage f) (tt {0})
      go true q e = rw q refl
      go false q e = search (rules, e)

  module _ {n : Next} (e : i.next ≡ Some n) where
    next-some : eqb (next_in f (head_in f)) 0 ≡ false
    unfolding next_of
    next-some = go (eqb (next_in f (head_in f)) 0) refl (sym e ∙ next-is)
      where
        go : (b : Bool) → eqb (next_in f (head_in f)) 0 ≡ b
            → Some n ≡ cond b None (Some (ahead f))
            → eqb (next_in f (head_in f)) 0 ≡ false
        go true q x = search (rules, x)
        go false q x = q

    leads : n ≡ ahead f
    unfolding next_of
    leads = go (eqb (next_in f (head_in f)) 0) (sym e ∙ next-is)
      where
        go : (b : Bool) → Some n ≡ cond b None (Some (ahead f)) → n ≡ ahead f
        go true x = search (rules, x)
        go false x = same_Some _ _ x

    -- what the mask is asked with
    pub mask-asked : (file_stage f).number ≡ 0 → Before f i n
    unfolding lasting_in view view_at
    mask-asked z =
        record {
          own = z;
          big_is = ap (λ (x : Image). x.big) here;
          at_is = ap (λ (x : Image). x.at) here;
          width_is = ap (λ (x : Image). x.size.width) here;
          length_is = ap (λ (x : Image). x.size.length) here;
          next_is = ap (λ (x : Next). x.offset) leads;
          span_is = ap (λ (x : Next). x.span) leads;
        }

    module _ {r : Result (Unit {0}) ℕ} (is_r : r ≡ numbered (mask_verdict f) (tt {0})) where
      number-in : ℕ → Result (Unit {0}) ℕ → ℕ
      number-in d (Ok x) = d
      number-in d (Err m) = m

      -- the mask refuses
      pub mask-bad : {m : ℕ} → Err m ≡ r → Err (verdict 28 m) ≡ ruled (mask_stage f) (tt {0})
      unfolding mask_stage rule28 has_mask first numbered ruled number-in
      mask-bad {m} h = go (eqb (mask_verdict f).number 0) refl (h ∙ is_r)
        where
          go : (b : Bool) → eqb (mask_verdict f).number 0 ≡ b → Err m ≡ cond b (Ok (tt {0})) (Err (mask_verdict f).number)
              → Err (verdict 28 m) ≡ ruled (mask_stage f) (tt {0})
          go true q x = search (rules, x)
          go false q x = let s : m ≡ (mask_verdict f).number = ap (number-in m) x in rw (next-some, q, s) refl

      -- it does not
      pub mask-good : {x : Unit {0}} → Ok x ≡ r → Ok (tt {0}) ≡ ruled (mask_stage f) (tt {0})
      unfolding mask_stage rule28 has_mask first numbered ruled
      mask-good {x} h = go (eqb (mask_verdict f).number 0) refl (h ∙ is_r)
        where
          go : (b : Bool) → eqb (mask_verdict f).number 0 ≡ b → Ok x ≡ cond b (Ok (tt {0})) (Err (mask_verdict f).number)
              → Ok (tt {0}) ≡ ruled (mask_stage f) (tt {0})
          go true q y = rw (next-some, q) refl
          go false q y = search (rules, y)

-- ---- the whole

-- the file's own rules refuse
pub own-bad : (f : List ℕ) {e : Verdict} → Err e ≡ own_of f → Err e ≡ examined_of f
unfolding own_of examined_of verdict_of
own-bad f h = first-refuses (file_stage f) (mask_stage f) _ _ _ h

module _ (f : List ℕ) {e : Examined} (is : Ok e ≡ own_of f) where
  pub own-zero : (file_stage f).number ≡ 0
  unfolding own_of
  own-zero = (found-ruled (file_stage f) _ e is).0

  here-own : e ≡ examined_in f
  unfolding own_of
  here-own = (found-ruled (file_stage f) _ e is).1

  -- the image is the file's, with where the three values stand that the survey alone asked for
  pub own-image-is : Ok (record {
    image = e.image;
    scale = tag_part Tag.scale (view f).held;
    tiepoint = tag_part Tag.tiepoint (view f).held;
    matrix = tag_part Tag.matrix (view f).held;
  })
      ≡ image_of f
  unfolding image_of image_in examined_in file_stage
  own-image-is =
      (λ i. Ok (record {
        image = (here-own i).image;
        scale = tag_part Tag.scale (view f).held;
        tiepoint = tag_part Tag.tiepoint (view f).held;
        matrix = tag_part Tag.matrix (view f).held;
      }))
      ∙ sym (kept-ruled (image_stage f) (own_image f) (chain-both (image_stage f) (survey_stage (view f)) own-zero).0)

  -- and what is told of it to the end
  pub lasting-image-is : e.image ≡ lasting_image f
  unfolding image_of image_in
  lasting-image-is = ap (λ (x : Imaged). x.image) (found-ruled (image_stage f) (own_image f) _ own-image-is).1

  left-mask : examined_of f ≡ ruled (mask_stage f) (examined_in f)
  unfolding own_of examined_of verdict_of
  left-mask = first-kept (file_stage f) (mask_stage f) _ e _ is

  -- what rule 28 says is then the file's
  pub refused-mask : {v : Verdict} → Err v ≡ ruled (mask_stage f) (tt {0}) → Err v ≡ examined_of f
  refused-mask {v} h = other-refuses (mask_stage f) (tt {0}) (examined_in f) v h ∙ sym left-mask

  pub kept-mask : {x : Unit {0}} → Ok x ≡ ruled (mask_stage f) (tt {0}) → Ok e ≡ examined_of f
  kept-mask {x} h =
      ap (λ (y : Examined). Ok y) here-own
      ∙ sym (left-mask ∙ kept-ruled (mask_stage f) (examined_in f) (found-ruled (mask_stage f) (tt {0}) x h).0)

  -- and there is no mask
  pub unmasked : e.image.next ≡ None → Ok e ≡ examined_of f
  unmasked n = kept-mask (alone f lasting-image-is n)
