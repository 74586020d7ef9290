-- The place on the ground of an accepted file: its georeference, from the doubles as they stand in the file, and its two corners. Assumes nothing.
use Prim.Native.Nat.{ℕ, suc, ◌-◌, ◌*◌, ◌/◌, ◌≤◌, ◌<◌}
use mathlib.Core.Path.{◌≡◌, refl, sym, ap, ◌∙◌, subst}
use mathlib.Core.Bool.{Bool, true, false, not, ◌||◌, ◌&&◌, true≢false, false≢true}
use mathlib.Core.List.{List, [], ◌∷◌}
use mathlib.Core.Logic.{◌⊎◌, inl, inr}
use native.Mathlib.Omega.{arith}
use lib.Dec.{eqb, lit<}
use lib.ListN.{length}
use lib.Ieee as Ieee
use lib.Ieee.{Float, binary64}
use borrow.Author.Tests.{eqb-true, eqb-false, not-true, not-false}
use Rattle.paper.specs.Bytes.{elems}
use Rattle.paper.specs.Tests.{some, just, allows}
use Rattle.paper.specs.Tag
use Rattle.paper.specs.Tags.{table, bytes_of}
use Rattle.paper.specs.Key
use Rattle.paper.specs.Keys.{keys, has_key, rule18, rule19, Fixed, fixed, fixed_keys, forbidden}
use Rattle.paper.specs.Ground
use Rattle.paper.specs.Ground.{◌⊠◌, of_nat, zero64, one64, finite, double, none, all_finite, scales, spans}
use Rattle.paper.specs.Ground.{rule20, rule21, rule22, map_x, map_y, corners_of, last, finite_corners}
use Rattle.paper.specs.Judge.{view, verdict_of, runs_of, survey_of, head_in, view_at}
use Rattle.paper.specs.Calls.{judged_of, judged_in, not_judged}
use Rattle.paper.specs.Shown.{has_tag, value_in, double_in, t, c, m, AllFinite, raster_type, corners_by, CornersHold, ScaledHolds, AffineHolds, GroundHolds}
use Rattle.paper.proofs.Laws.{and-eq, just-is, breaks-kept, kept-all, all-at}
use Rattle.paper.proofs.Codec.{length_elems, get_or-elems}
use Rattle.paper.proofs.Keeps.{rule18-kept, rule19-kept, rule20-kept, rule21-kept, rule22-kept}
use Rattle.paper.proofs.Called.{answer-good}
use Rattle.paper.proofs.Values.{each-kept, nand, tag-number, absent-empty, present-doubles, present-value, needed}
use Rattle.paper.specs.declared.Judged.{Judged}
use Rattle.paper.specs.declared.Georeference.{Georeference}
use Rattle.paper.specs.declared.Georeference.TheVariants.{Scaled, Affine}

-- ---- tests taken apart

-- with rule 20 kept, by which of the three tags have no bytes
two-sets : {P : Type 0} (s t m : Bool) → not ((not s && (not t && m)) || (not m && (s && t))) ≡ false
    → (s ≡ false → t ≡ false → m ≡ true → P) → (m ≡ false → s ≡ true → t ≡ true → P) → P
two-sets false false true h a b = a refl refl refl
two-sets true true false h a b = b refl refl refl
two-sets false false false h a b = absurd (true≢false h)
two-sets false true true h a b = absurd (true≢false h)
two-sets false true false h a b = absurd (true≢false h)
two-sets true false true h a b = absurd (true≢false h)
two-sets true false false h a b = absurd (true≢false h)
two-sets true true true h a b = absurd (true≢false h)

-- a value that is 1 or 2
raster-is : (v : ℕ) → allows (just 1 ∷ just 2 ∷ []) v ≡ true → (v ≡ 1) ⊎ (v ≡ 2)
unfolding allows some
raster-is v h = go (eqb v 1) refl (eqb v 2) refl
  where
    go : (a : Bool) → eqb v 1 ≡ a → (b : Bool) → eqb v 2 ≡ b → (v ≡ 1) ⊎ (v ≡ 2)
    go true p b q = inl (eqb-true v 1 p)
    go false p true q = inr (eqb-true v 2 q)
    go false p false q = absurd (false≢true (rw (just-is v 1, just-is v 2, p, q) at h))

-- pixel 0 is the literal 0
zero_is : zero64 ≡ of_nat 0
unfolding Ieee.of_bits Ieee.of_int Ieee.of_fields Ieee.odd Ieee.round Ieee.size Ieee.units Ieee.span Ieee.climb
zero_is = refl

module _ (f : List ℕ) (z : (verdict_of f).number ≡ 0) where
  -- ---- the rules

  -- ---- the doubles, as they stand in the file

  abbrev ValueBytes : ℕ → List ℕ
  ValueBytes tag = bytes_of tag (view f).held

  double-at : (tag k : ℕ) → 1 ≤ k → 8 * k ≤ length (ValueBytes tag) → double (head_in f).big (ValueBytes tag) (k - 1) ≡ double_in f tag k
  unfolding double double_in
  double-at tag k p l = ap (Ieee.of_bits binary64) (tag-number f tag (head_in f).big 8 (8 * (k - 1)) (lit< tt) (omega arith))

  scale-long : has_tag f Tag.scale ≡ true → length (ValueBytes Tag.scale) ≡ 24
  unfolding table
  scale-long p = present-doubles f z 14 3 (lit< tt) p refl refl refl refl

  tiepoint-long : has_tag f Tag.tiepoint ≡ true → length (ValueBytes Tag.tiepoint) ≡ 48
  unfolding table
  tiepoint-long p = present-doubles f z 15 6 (lit< tt) p refl refl refl refl

  matrix-long : has_tag f Tag.matrix ≡ true → length (ValueBytes Tag.matrix) ≡ 128
  unfolding table
  matrix-long p = present-doubles f z 16 16 (lit< tt) p refl refl refl refl

  -- a tag is present where it has bytes
  some-has : (tag : ℕ) → none (ValueBytes tag) ≡ false → has_tag f tag ≡ true
  some-has tag n = go (has_tag f tag) refl
    where
      go : (b : Bool) → has_tag f tag ≡ b → has_tag f tag ≡ true
      go true p = p
      go false p = absurd (eqb-false (length (ValueBytes tag)) 0 n (ap length (absent-empty tag (view f).held p)))

  -- and absent where it has none, if its bytes are more than none where it is present
  none-lacks : (tag k : ℕ) → (has_tag f tag ≡ true → length (ValueBytes tag) ≡ suc k) → none (ValueBytes tag) ≡ true → has_tag f tag ≡ false
  none-lacks tag k long n = go (has_tag f tag) refl
    where
      go : (b : Bool) → has_tag f tag ≡ b → has_tag f tag ≡ false
      go true p =
          let a : length (ValueBytes tag) ≡ 0 = eqb-true _ _ n in
          let b : length (ValueBytes tag) ≡ suc k = long p in
          absurd (omega arith)
      go false p = p

  -- each double of a run is finite
  finite-at : (tag n : ℕ) → length (ValueBytes tag) ≡ 8 * n → all_finite (head_in f).big (ValueBytes tag) ≡ true → AllFinite f tag n
  unfolding all_finite double
  finite-at tag n l h k p q =
      let many : length (ValueBytes tag) / 8 ≡ n = omega arith in
      let i : k - 1 < length (elems (head_in f).big 8 (length (ValueBytes tag) / 8) (ValueBytes tag)) =
      subst (λ (x : ℕ). k - 1 < x) (sym (length_elems (head_in f).big 8 (length (ValueBytes tag) / 8) (ValueBytes tag) ∙ many)) (omega arith) in
      let one = all-at (λ (b : ℕ). finite (Ieee.of_bits binary64 b)) (elems (head_in f).big 8 (length (ValueBytes tag) / 8) (ValueBytes tag)) 0 h (k - 1) i in
      let is = get_or-elems (head_in f).big 8 (length (ValueBytes tag) / 8) (ValueBytes tag) (k - 1) (omega arith) in
      let at : double (head_in f).big (ValueBytes tag) (k - 1) ≡ double_in f tag k = double-at tag k p (omega arith) in
      subst (λ (x : Float). finite x ≡ true) (ap (Ieee.of_bits binary64) is ∙ at) one

  -- ---- what is judged is what the survey gives

  judged-is : judged_of f ≡ judged_in (view f)
  unfolding judged_of
  judged-is = answer-good f judged_in not_judged z

  georeference-is : (judged_of f).georeference ≡ Ground.georeference (survey_of (view f))
  unfolding judged_in
  georeference-is = ap (λ (j : Judged). j.georeference) judged-is

  corners-are : (judged_of f).corners ≡ Ground.corners (survey_of (view f))
  unfolding judged_in
  corners-are = ap (λ (j : Judged). j.corners) judged-is

  -- ---- the corners

  -- the far end of columns or rows
  end-area : (k : ℕ) → raster_type f ≡ 1 → last (survey_of (view f)).point k ≡ of_nat k
  unfolding last survey_of
  end-area k p = rw p

  end-point : (k : ℕ) → raster_type f ≡ 2 → last (survey_of (view f)).point k ≡ of_nat (k - 1)
  unfolding last survey_of
  end-point k p = rw p

  -- the width and the length, as they stand in the file
  width_is : (survey_of (view f)).width ≡ value_in f Tag.width
  unfolding table survey_of view view_at
  width_is = present-value f z 0 (lit< tt) (needed f z 0 (lit< tt) refl) (lit< tt)

  length_is : (survey_of (view f)).length ≡ value_in f Tag.length
  unfolding table survey_of view view_at
  length_is = present-value f z 1 (lit< tt) (needed f z 1 (lit< tt) refl) (lit< tt)

  -- the corners by a georeference
  corners-by : (g : Georeference) → (judged_of f).georeference ≡ g
      → CornersHold f (λ i j. map_x g (of_nat i) (of_nat j)) (λ i j. map_y g (of_nat i) (of_nat j))
  unfolding Ground.corners
  corners-by g is =
      record {
        area = λ p. by (value_in f Tag.width) (value_in f Tag.length) (end-area (value_in f Tag.width) p) (end-area (value_in f Tag.length) p);
        point = λ p. by (value_in f Tag.width - 1) (value_in f Tag.length - 1) (end-point (value_in f Tag.width) p) (end-point (value_in f Tag.length) p);
      }
    where
      by : (i j : ℕ) → last (survey_of (view f)).point (value_in f Tag.width) ≡ of_nat i → last (survey_of (view f)).point (value_in f Tag.length) ≡ of_nat j
          → (judged_of f).corners ≡ corners_by (λ i j. map_x g (of_nat i) (of_nat j)) (λ i j. map_y g (of_nat i) (of_nat j)) i j
      by i j a b =
          let x : last (survey_of (view f)).point (survey_of (view f)).width ≡ of_nat i = ap (last (survey_of (view f)).point) width_is ∙ a in
          let y : last (survey_of (view f)).point (survey_of (view f)).length ≡ of_nat j = ap (last (survey_of (view f)).point) length_is ∙ b in
          corners-are
          ∙ (λ d. corners_of ((sym georeference-is ∙ is) d) (x d) (y d))
          ∙ (λ d. record { x0 = map_x g (zero_is d) (zero_is d); y0 = map_y g (zero_is d) (zero_is d); x1 = map_x g (of_nat i) (of_nat j); y1 = map_y g (of_nat i) (of_nat j) })

  -- ---- the two sets

  scaled : none (ValueBytes Tag.scale) ≡ false → none (ValueBytes Tag.tiepoint) ≡ false → none (ValueBytes Tag.matrix) ≡ true → ScaledHolds f
  unfolding Ground.georeference rule21 scales survey_of view view_at
  scaled ns nt nm =
      let hs : has_tag f Tag.scale ≡ true = some-has Tag.scale ns in
      let ht : has_tag f Tag.tiepoint ≡ true = some-has Tag.tiepoint nt in
      let ls : length (ValueBytes Tag.scale) ≡ 24 = scale-long hs in
      let lt : length (ValueBytes Tag.tiepoint) ≡ 48 = tiepoint-long ht in
      let cs : (k : ℕ) → 1 ≤ k → k ≤ 3 → double (head_in f).big (ValueBytes Tag.scale) (k - 1) ≡ c f k = λ k p q. double-at Tag.scale k p (omega arith) in
      let ts : (k : ℕ) → 1 ≤ k → k ≤ 6 → double (head_in f).big (ValueBytes Tag.tiepoint) (k - 1) ≡ t f k = λ k p q. double-at Tag.tiepoint k p (omega arith) in
      let t1 = ts 1 (lit< tt) (lit< tt) in
      let t2 = ts 2 (lit< tt) (lit< tt) in
      let t4 = ts 4 (lit< tt) (lit< tt) in
      let t5 = ts 5 (lit< tt) (lit< tt) in
      let c1 = cs 1 (lit< tt) (lit< tt) in
      let c2 = cs 2 (lit< tt) (lit< tt) in
      let g : (judged_of f).georeference ≡ Scaled (t f 1) (t f 2) (t f 4) (t f 5) (c f 1) (c f 2) =
      georeference-is ∙ rw nm (λ d. Scaled (t1 d) (t2 d) (t4 d) (t5 d) (c1 d) (c2 d)) in
      let big : Bool = (head_in f).big in
      let s : List ℕ = ValueBytes Tag.scale in
      let first = breaks-kept (not (none s) && not (all_finite big s && scales big s)) Tag.scale (each-kept _ (rule21-kept f z) 0) in
      let second = breaks-kept (not (all_finite big (ValueBytes Tag.tiepoint))) Tag.tiepoint (each-kept _ (rule21-kept f z) 1) in
      let good = and-eq (all_finite big s) _ (nand (not (none s)) _ first (rw ns)) in
      let above = and-eq (Ieee.lt zero64 (double big s 0)) _ good.1 in
      record {
        scale = hs;
        tiepoint = ht;
        no_matrix = none-lacks Tag.matrix 127 matrix-long nm;
        georeference = g;
        corners = corners-by (Scaled (t f 1) (t f 2) (t f 4) (t f 5) (c f 1) (c f 2)) g;
        finite_scale = finite-at Tag.scale 3 ls good.0;
        finite_tiepoint = finite-at Tag.tiepoint 6 lt (not-false _ second);
        above_x = subst (λ (x : Float). Ieee.lt zero64 x ≡ true) c1 above.0;
        above_y = subst (λ (x : Float). Ieee.lt zero64 x ≡ true) c2 above.1;
      }

  affine : none (ValueBytes Tag.matrix) ≡ false → none (ValueBytes Tag.scale) ≡ true → none (ValueBytes Tag.tiepoint) ≡ true → AffineHolds f
  unfolding Ground.georeference rule21 spans survey_of view view_at
  affine nm ns nt =
      let hm : has_tag f Tag.matrix ≡ true = some-has Tag.matrix nm in
      let lm : length (ValueBytes Tag.matrix) ≡ 128 = matrix-long hm in
      let big : Bool = (head_in f).big in
      let s : List ℕ = ValueBytes Tag.matrix in
      let at : (k : ℕ) → 1 ≤ k → k ≤ 16 → double (head_in f).big (ValueBytes Tag.matrix) (k - 1) ≡ m f k = λ k p q. double-at Tag.matrix k p (omega arith) in
      let m1 = at 1 (lit< tt) (lit< tt) in
      let m2 = at 2 (lit< tt) (lit< tt) in
      let m4 = at 4 (lit< tt) (lit< tt) in
      let m5 = at 5 (lit< tt) (lit< tt) in
      let m6 = at 6 (lit< tt) (lit< tt) in
      let m8 = at 8 (lit< tt) (lit< tt) in
      let g : (judged_of f).georeference ≡ Affine (m f 1) (m f 2) (m f 4) (m f 5) (m f 6) (m f 8) =
      georeference-is ∙ rw nm (λ d. Affine (m1 d) (m2 d) (m4 d) (m5 d) (m6 d) (m8 d)) in
      let third = breaks-kept (not (none s) && not (all_finite big s && spans big s)) Tag.matrix (each-kept _ (rule21-kept f z) 2) in
      let good = and-eq (all_finite big s) _ (nand (not (none s)) _ third (rw nm)) in
      let a = and-eq (Ieee.eq (double big s 12) zero64) _ good.1 in
      let b = and-eq (Ieee.eq (double big s 13) zero64) _ a.1 in
      let d = and-eq (Ieee.eq (double big s 14) zero64) _ b.1 in
      let e = and-eq (Ieee.eq (double big s 15) one64) _ d.1 in
      record {
        matrix = hm;
        no_scale = none-lacks Tag.scale 23 scale-long ns;
        no_tiepoint = none-lacks Tag.tiepoint 47 tiepoint-long nt;
        georeference = g;
        corners = corners-by (Affine (m f 1) (m f 2) (m f 4) (m f 5) (m f 6) (m f 8)) g;
        finite_matrix = finite-at Tag.matrix 16 lm good.0;
        last_four = (
          subst (λ (x : Float). Ieee.eq x zero64 ≡ true) (at 13 (lit< tt) (lit< tt)) a.0,
          subst (λ (x : Float). Ieee.eq x zero64 ≡ true) (at 14 (lit< tt) (lit< tt)) b.0,
          subst (λ (x : Float). Ieee.eq x zero64 ≡ true) (at 15 (lit< tt) (lit< tt)) d.0,
          subst (λ (x : Float). Ieee.eq x one64 ≡ true) (at 16 (lit< tt) (lit< tt)) e.0,
        );
        products = (λ i. Ieee.eq (sym m1 i ⊠ sym m6 i) (sym m2 i ⊠ sym m5 i)) ∙ not-true _ e.1;
      }

  -- ---- key 1025

  raster-allowed : allows (just 1 ∷ just 2 ∷ []) (raster_type f) ≡ true
  unfolding rule18 rule19 forbidden fixed_keys
  raster-allowed =
      let ks = keys (runs_of (view f)) in
      let there = breaks-kept (not (has_key Key.raster_type ks)) Key.raster_type (each-kept _ (rule18-kept f z) 1) in
      let test = kept-all (forbidden ks) (λ (x : Fixed). x.key) fixed_keys (fixed 0 []) (rule19-kept f z) 1 (lit< tt) in
      nand (has_key Key.raster_type ks) _ test (not-false _ there)

  -- ---- and so the place on the ground

  pub ground-holds : GroundHolds f
  unfolding rule20 rule22 finite_corners survey_of view view_at
  ground-holds =
      let sets : ScaledHolds f ⊎ AffineHolds f =
      two-sets (none (ValueBytes Tag.scale)) (none (ValueBytes Tag.tiepoint)) (none (ValueBytes Tag.matrix)) (breaks-kept _ 0 (rule20-kept f z))
      (λ s u v. inl (scaled s u v)) (λ v s u. inr (affine v s u)) in
      let whole : finite_corners (judged_of f).corners ≡ true = ap finite_corners corners-are ∙ not-false _ (breaks-kept _ 0 (rule22-kept f z)) in
      let a = and-eq (finite (judged_of f).corners.x0) _ whole in
      let b = and-eq (finite (judged_of f).corners.y0) _ a.1 in
      let d = and-eq (finite (judged_of f).corners.x1) _ b.1 in
      record {
        set = sets;
        raster = raster-is (raster_type f) raster-allowed;
        finite_x0 = a.0;
        finite_y0 = b.0;
        finite_x1 = d.0;
        finite_y1 = d.1;
      }
