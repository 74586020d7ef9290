-- The pass over the places: what rules 13 and 14 say of the next one, and one law for each turn and each answer of the search, of `judge_places`, of
-- `judge_within` and of `clashes_all`. Assumes nothing.
use Rattle.std.proofs.Common.{◌≡◌, ℕ, zero, suc, ◌+◌, ◌-◌, ◌<◌, ◌≤◌, min, max, Bool, true, false, cond, not, ◌||◌, eqb, ltb, Option, Some, None, IfSome, Ok, Err, List, [], ◌∷◌, sym, refl, ap, ◌∙◌, suc-le-suc, zero-le, arith, ltb-false, le-ltb}
use Rattle.std.proofs.lemmas.Bool.{not-false}
use Rattle.std.specs.Bool.{then_some}
use mathlib.Core.Bool.{false≢true}
use native.Mathlib.Nat.{sub-zero}
use borrow.Author.Tests.{eqb-false}
use Rattle.order.specs.Width.{width}
use Rattle.outcomes.specs.Ruled.{ruled}
use Rattle.paper.specs.Bytes.{build}
use Rattle.paper.specs.Outcome.{first_bad, or_else, first, ◌▸◌, verdict}
use Rattle.paper.specs.Tests.{all, some}
use Rattle.paper.specs.Pieces.{Piece, shares, place_at, places_of, bad_piece, touches, rule13, rule14}
use Rattle.paper.specs.declared.Part.{Part}
use Rattle.paper.specs.declared.Outcome.{Outcome}
use Rattle.paper.specs.declared.Outcome.TheVariants.{Kept as kept, Broken as broken}
use Rattle.paper.proofs.Laws.{build-step, or-false, or-both, kept-cond}
use Rattle.pieces.specs.Gaps.{clear, whole, leaves, out, Found}
use Rattle.pieces.specs.Reading.{pieces_in, pieces_from, body, Fetched, Opened, Reached, left}
use Rattle.pieces.specs.Spans.{no_span, lone, widened, span_from, span_of, within_of, places_judged, placed_of}
use Rattle.pieces.specs.declared.Gap.{Gap}
use Rattle.pieces.specs.declared.Span.{Span}
use Rattle.pieces.specs.declared.places.Place.{Place}
use Rattle.pieces.specs.declared.places.Places.{Places}
use Rattle.pieces.specs.declared.places.Reach.{Reach}
use Rattle.pieces.specs.declared.places.Stop.{Stop}
use Rattle.pieces.proofs.Gaps.{clear-free}
use Rattle.pieces.proofs.Spans.{span-apart}

-- a place that counts its bytes has some
pub some_bytes : (x : ℕ) → eqb x 0 ≡ false → 0 < x
some_bytes zero h = absurd (eqb-false 0 0 h refl)
some_bytes (suc x) h = suc-le-suc zero-le

-- a place that is out of the whole file is bad there
or_turned : (x y z : Bool) → x || (y || z) ≡ true → y || (x || z) ≡ true
or_turned true true z h = refl
or_turned true false z h = refl
or_turned false true z h = refl
or_turned false false z h = h

-- how many places are left behind a stop, and it
abbrev pub ahead : ℕ → Option Stop → ℕ
ahead k None = 0
ahead k (Some s) = k - s.at

-- a first place widens its own span by nothing
lone-first : (p : Piece) (ss : List Piece) → span_of (p ∷ ss) ≡ span_from (lone p.place) (p ∷ ss)
unfolding span_of span_from widened
lone-first p ss = rw (least p.place.start, most (p.place.start + p.place.len))
  where
    least : (x : ℕ) → min x x ≡ x
    least x = omega arith

    most : (x : ℕ) → max x x ≡ x
    most x = omega arith

-- ---- rule 14 by the places that share a byte with the list

pub fourteen-is : (ps : List Part) (ss : List Piece) → (first (14 ▸ rule14 ps ss ∷ [])).number ≡ cond (some (touches ps) ss) 14 0
unfolding first rule14 first_bad some
fourteen-is ps [] = refl
fourteen-is ps (s ∷ ss) = go (touches ps s) (fourteen-is ps ss)
  where
    go : (t : Bool) → (first (14 ▸ rule14 ps ss ∷ [])).number ≡ cond (some (touches ps) ss) 14 0
        → (first (14 ▸ cond t (broken s.index) (rule14 ps ss) ∷ [])).number ≡ cond (t || some (touches ps) ss) 14 0
    go true h = refl
    go false h = h

some-touched : (ps : List Part) (ss : List Piece) (i : ℕ) → rule14 ps ss ≡ broken i → some (touches ps) ss ≡ true
unfolding first
some-touched ps ss i h = go (some (touches ps) ss) (sym (fourteen-is ps ss) ∙ ap (λ (o : Outcome). (first (14 ▸ o ∷ [])).number) h)
  where
    go : (t : Bool) → cond {A = ℕ} t 14 0 ≡ 14 → t ≡ true
    go true e = refl
    go false e = absurd (omega arith)

none-touched : (ps : List Part) (ss : List Piece) → rule14 ps ss ≡ kept → some (touches ps) ss ≡ false
unfolding rule14 first_bad some
none-touched ps [] h = refl
none-touched ps (s ∷ ss) h =
    let o = kept-cond (touches ps s) s.index (rule14 ps ss) h in
    rw o.0 (none-touched ps ss o.1)

module _ (p : Places) where
  abbrev All : List Piece
  All = pieces_in p

  abbrev From : ℕ → List Piece
  From i = pieces_from p i

  pub from_start : All ≡ From 0
  unfolding pieces_in pieces_from places_of
  from_start = ap (build (place_at p.big (width p.offsets.wide) p.offsets.bytes.now (width p.bytecounts.wide) p.bytecounts.bytes.now) 0) (sym (sub-zero p.many))

  -- no place is left
  pub from_end : (i : ℕ) → p.many ≤ i → From i ≡ []
  unfolding pieces_from build
  from_end i m = let e : p.many - i ≡ 0 = omega arith in rw e

  -- ---- a place that was fetched

  module _ (s : Stop) (f : Fetched p s) where
    here : From s.at ≡ record { index = s.at; place = body s.place } ∷ From (s.at + 1)
    unfolding pieces_from place_at
    here =
        build-step (place_at p.big (width p.offsets.wide) p.offsets.bytes.now (width p.bytecounts.wide) p.bytecounts.bytes.now) s.at p.many f.low
        ∙ ap (λ (x : Part). record { index = s.at; place = x } ∷ From (s.at + 1)) (sym f.is)

    bad-here : (n : ℕ) → eqb s.place.len 0 || (ltb s.place.start 8 || ltb n (s.place.start + s.place.len)) ≡ true → rule13 n (From s.at) ≡ broken s.at
    unfolding rule13 first_bad bad_piece
    bad-here n h = ap (rule13 n) here ∙ rw h

    good-here : (n : ℕ) → eqb s.place.len 0 || (ltb s.place.start 8 || ltb n (s.place.start + s.place.len)) ≡ false → rule13 n (From s.at) ≡ rule13 n (From (s.at + 1))
    unfolding rule13 first_bad bad_piece
    good-here n h = ap (rule13 n) here ∙ rw h

    clash-here : (ps : List Part) → some (shares (body s.place)) ps ≡ true → rule14 ps (From s.at) ≡ broken s.at
    unfolding rule14 first_bad touches
    clash-here ps h = ap (rule14 ps) here ∙ rw h

    free-here : (ps : List Part) → some (shares (body s.place)) ps ≡ false → rule14 ps (From s.at) ≡ rule14 ps (From (s.at + 1))
    unfolding rule14 first_bad touches
    free-here ps h = ap (rule14 ps) here ∙ rw h

    span-here : (t : Span) → span_from t (From s.at) ≡ span_from (widened t (body s.place)) (From (s.at + 1))
    unfolding span_from
    span-here t = ap (span_from t) here

  -- ---- first

  pub opened-none : p.many ≡ 0 → Opened p (record { stop = None; span = no_span })
  unfolding span_of span_from
  opened-none z =
      let none = from_start ∙ from_end 0 (omega arith) in
      record { stop = tt; all_left = none; span = ap span_of none }

  pub opened-some : (x : Place) → Fetched p (record { at = 0; place = x }) → (t : Span) → t ≡ lone (body x)
      → Opened p (record { stop = Some (record { at = 0; place = x }); span = t })
  opened-some x f t e =
      let h = here (record { at = 0; place = x }) f in
      record {
        stop = (refl, f, e);
        all_left = from_start;
        span = ap span_of (from_start ∙ h) ∙ lone-first (record { index = 0; place = body x }) (From 1) ∙ ap (span_from (lone (body x))) (sym h)
            ∙ ap (λ (y : Span). span_from y (From 0)) (sym e);
      }

  -- ---- search: the places before i have bytes and lie in the gap, and where a span is asked for they have widened the given one

  module _ (spanned : Bool) (from : ℕ) (g : Gap) (given : Span) where
    pub record Passed (i : ℕ) (span : Span) : Type 0 where
      pub low : from ≤ i
      pub thirteen : (n : ℕ) → 8 ≤ g.lo → g.hi ≤ n → rule13 n (From from) ≡ rule13 n (From i)
      pub fourteen : (ps : List Part) → (g.lo < g.hi → all (clear g.lo g.hi) ps ≡ true) → rule14 ps (From from) ≡ rule14 ps (From i)
      pub wider : spanned ≡ true → span_from given (From from) ≡ span_from span (From i)

    pub passed-start : Passed from given
    passed-start = record { low = omega arith; thirteen = λ n l h. refl; fourteen = λ ps h. refl; wider = λ t. refl }

    module _ (i : ℕ) (span : Span) (q : Passed i span) where
      pub passed-end : p.many ≤ i → Reached p spanned from g given (record { stop = None; span = span })
      passed-end m =
          let e = from_end i m in
          record {
            stop = tt;
            thirteen = λ n l h. q.thirteen n l h ∙ ap (rule13 n) e;
            fourteen = λ ps h. q.fourteen ps h ∙ ap (rule14 ps) e;
            wider = λ t. q.wider t ∙ ap (span_from span) e;
          }

      pub passed-stop : (x : Place) → Fetched p (record { at = i; place = x }) → out g (body x) ≡ true
          → Reached p spanned from g given (record { stop = Some (record { at = i; place = x }); span = span })
      passed-stop x f o = record { stop = (q.low, f, o); thirteen = q.thirteen; fourteen = q.fourteen; wider = q.wider }

      module _ (x : Place) (f : Fetched p (record { at = i; place = x })) (o : Bool) (is-o : o ≡ out g (body x)) where
        pub passed-turn : o ≡ false → (w : Span) → w ≡ cond spanned (widened span (body x)) span → Passed (i + 1) w
        passed-turn t w is-w =
            record {
              low = let l = q.low in omega arith;
              thirteen = λ n l h. q.thirteen n l h ∙ good-here _ f n
                  (or-both _ _ rest.0 (or-both _ _ (le-ltb x.start 8 (omega (arith, before))) (le-ltb n (x.start + x.len) (omega (arith, behind)))));
              fourteen = λ ps h. q.fourteen ps h ∙ free-here _ f ps
                  (clear-free g.lo g.hi x.start x.len ps before behind (h (omega (arith, before, behind, some_bytes x.len rest.0))));
              wider = λ u. q.wider u ∙ span-here _ f span ∙ ap (λ (y : Span). span_from y (From (i + 1))) (sym (is-w ∙ rw u));
            }
          where
            halves : (ltb x.start g.lo ≡ false) × (eqb x.len 0 || ltb g.hi (x.start + x.len) ≡ false)
            halves = or-false (ltb x.start g.lo) _ (sym is-o ∙ t)

            rest : (eqb x.len 0 ≡ false) × (ltb g.hi (x.start + x.len) ≡ false)
            rest = or-false (eqb x.len 0) _ halves.1

            before : g.lo ≤ x.start
            before = ltb-false _ _ halves.0

            behind : x.start + x.len ≤ g.hi
            behind = ltb-false _ _ rest.1

  -- ---- a search over the places that lie in the file, behind its head

  module _ (n from : ℕ) (spanned : Bool) (given : Span) (r : Reach) (re : Reached p spanned from (whole n) given r) where
    on : rule13 n (From from) ≡ rule13 n (left p r.stop)
    on = re.thirteen n (omega arith) (omega arith)

    pub file-none : r.stop ≡ None → rule13 n (From from) ≡ kept
    unfolding rule13 first_bad
    file-none e = on ∙ ap (λ (o : Option Stop). rule13 n (left p o)) e

    pub file-bad : (s : Stop) → r.stop ≡ Some s → rule13 n (From from) ≡ broken s.at
    file-bad s e =
        let h = rw e at re.stop in
        on ∙ ap (λ (o : Option Stop). rule13 n (left p o)) e ∙ bad-here s h.1 n (or_turned (ltb s.place.start 8) (eqb s.place.len 0) (ltb n (s.place.start + s.place.len)) h.2)

  -- ---- the answers, by the outcomes of the two rules

  module _ (n : ℕ) where
    within-bad : (i : ℕ) → rule13 n All ≡ broken i → Err (verdict 13 i) ≡ within_of n All
    unfolding within_of first ruled
    within-bad i h = rw h refl

    within-good : (s : Span) → rule13 n All ≡ kept → span_of All ≡ s → Ok s ≡ within_of n All
    unfolding within_of first ruled
    within-good s h e = rw (h, e) refl

  module _ (n : ℕ) (ps : List Part) (spanned : Bool) where
    answer-13 : (i : ℕ) → rule13 n All ≡ broken i → Err (verdict 13 i) ≡ placed_of spanned n ps All
    unfolding placed_of places_judged first ruled
    answer-13 i h = rw h refl

    answer-14 : (i : ℕ) → rule14 ps All ≡ broken i → Err (or_else 13 (rule13 n All) (verdict 14 i)) ≡ placed_of spanned n ps All
    unfolding placed_of places_judged first ruled
    answer-14 i h = rw h (go (rule13 n All))
      where
        go : (o : Outcome) → Err (or_else 13 o (verdict 14 i)) ≡ ruled (or_else 13 o (verdict 14 i)) (cond spanned (Some (span_of All)) None)
        go kept = refl
        go (broken j) = refl

    answer-0 : rule13 n All ≡ kept → rule14 ps All ≡ kept → (s : Span) → (spanned ≡ true → span_of All ≡ s) → Ok (then_some spanned s) ≡ placed_of spanned n ps All
    unfolding placed_of places_judged first ruled
    answer-0 h e s k = rw (h, e) (ap Ok (go spanned k))
      where
        go : (b : Bool) → (b ≡ true → span_of All ≡ s) → then_some b s ≡ cond b (Some (span_of All)) None
        go true k = ap Some (sym (k refl))
        go false k = refl

    -- ---- judge_places: a place was fetched, or none is left, and the places before keep both rules and have the given span

    pub record Standing (next : Option Stop) (span : Span) : Type 0 where
      pub fetched : IfSome next (Fetched p)
      pub thirteen : rule13 n All ≡ rule13 n (left p next)
      pub fourteen : rule14 ps All ≡ rule14 ps (left p next)
      pub wider : spanned ≡ true → span_of All ≡ span_from span (left p next)

    pub standing-end : (next : Option Stop) (span : Span) → Standing next span → next ≡ None → Ok (then_some spanned span) ≡ placed_of spanned n ps All
    unfolding rule13 rule14 first_bad span_from
    standing-end next span st e =
        answer-0 (st.thirteen ∙ ap (λ (o : Option Stop). rule13 n (left p o)) e) (st.fourteen ∙ ap (λ (o : Option Stop). rule14 ps (left p o)) e) span
        (λ t. st.wider t ∙ ap (λ (o : Option Stop). span_from span (left p o)) e)

    module _ (s : Stop) (span : Span) (st : Standing (Some s) span) (bad : Bool)
        (is-bad : bad ≡ eqb s.place.len 0 || (ltb s.place.start 8 || ltb n (s.place.start + s.place.len))) where
      pub standing-bad : bad ≡ true → Err (verdict 13 s.at) ≡ placed_of spanned n ps All
      standing-bad t = answer-13 s.at (st.thirteen ∙ bad-here s st.fetched n (sym is-bad ∙ t))

      module _ (ok : bad ≡ false) where
        fine : (eqb s.place.len 0 ≡ false) × (ltb s.place.start 8 || ltb n (s.place.start + s.place.len) ≡ false)
        fine = or-false (eqb s.place.len 0) _ (sym is-bad ∙ ok)

        inside : (ltb s.place.start 8 ≡ false) × (ltb n (s.place.start + s.place.len) ≡ false)
        inside = or-false (ltb s.place.start 8) _ fine.1

        pub starts-low : 8 ≤ s.place.start
        starts-low = ltb-false _ _ inside.0

        next-13 : rule13 n All ≡ rule13 n (From (s.at + 1))
        next-13 = st.thirteen ∙ good-here s st.fetched n (sym is-bad ∙ ok)

        module _ (g : Gap) (f : Found s.place.start n ps g) (o : Bool) (is-o : o ≡ leaves g (body s.place)) where
          pub clash-at : o ≡ true → rule14 ps All ≡ broken s.at
          clash-at t =
              st.fourteen ∙ clash-here s st.fetched ps (f.clash s.place.len (some_bytes s.place.len fine.0) (ltb-false _ _ inside.1) (sym is-o ∙ t))

          pub standing-clash : o ≡ true → Err (or_else 13 (rule13 n (From (s.at + 1))) (verdict 14 s.at)) ≡ placed_of spanned n ps All
          standing-clash t = ap (λ (x : Outcome). Err (or_else 13 x (verdict 14 s.at))) (sym next-13) ∙ answer-14 s.at (clash-at t)

          module _ (t : o ≡ false) where
            halves : (ltb s.place.start g.lo ≡ false) × (ltb g.hi (s.place.start + s.place.len) ≡ false)
            halves = or-false (ltb s.place.start g.lo) _ (sym is-o ∙ t)

            -- a search over the later ones
            pub standing-next : (wider : Span) → (spanned ≡ true → wider ≡ widened span (body s.place)) → (r : Reach)
                → Reached p spanned (s.at + 1) g wider r → Standing r.stop r.span
            standing-next wider w r re =
                record {
                  fetched = alone r.stop re.stop;
                  thirteen = next-13 ∙ re.thirteen n f.low f.high;
                  fourteen = st.fourteen ∙ free-here s st.fetched ps (f.free s.place.len (sym is-o ∙ t)) ∙ re.fourteen ps (λ y. f.clean halves.0);
                  wider = λ u. st.wider u ∙ span-here s st.fetched span ∙ ap (λ (x : Span). span_from x (From (s.at + 1))) (sym (w u)) ∙ re.wider u;
                }
              where
                alone : (x : Option Stop) → IfSome x (λ y. (s.at + 1 ≤ y.at) × Fetched p y × (out g (body y.place) ≡ true)) → IfSome x (Fetched p)
                alone None h = tt
                alone (Some y) h = h.1

  -- ---- judge_within, from the first place and a search over the later ones

  module _ (n : ℕ) (first : Reach) (o : Opened p first) where
    pub within-none : first.stop ≡ None → Ok first.span ≡ within_of n All
    unfolding rule13 first_bad span_from
    within-none e =
        within-good n first.span (ap (rule13 n) (o.all_left ∙ ap (left p) e)) (o.span ∙ ap (λ (s : Option Stop). span_from first.span (left p s)) e)

    module _ (s : Stop) (e : first.stop ≡ Some s) (bad : Bool)
        (is-bad : bad ≡ eqb s.place.len 0 || (ltb s.place.start 8 || ltb n (s.place.start + s.place.len))) where
      opened : (s.at ≡ 0) × Fetched p s × (first.span ≡ lone (body s.place))
      opened = rw e at o.stop

      start : All ≡ From s.at
      start = o.all_left ∙ ap (left p) e

      pub within-first : bad ≡ true → Err (verdict 13 s.at) ≡ within_of n All
      within-first t = within-bad n s.at (ap (rule13 n) start ∙ bad-here s opened.1 n (sym is-bad ∙ t))

      module _ (ok : bad ≡ false) (r : Reach) (re : Reached p true 1 (whole n) first.span r) where
        one : s.at + 1 ≡ 1
        one = omega (arith, opened.0)

        second : rule13 n All ≡ rule13 n (From 1)
        second = ap (rule13 n) start ∙ good-here s opened.1 n (sym is-bad ∙ ok) ∙ ap (λ (i : ℕ). rule13 n (From i)) one

        second-span : span_of All ≡ span_from first.span (From 1)
        unfolding span_of
        second-span = ap span_of (start ∙ here s opened.1) ∙ (λ i. span_from (sym opened.2 i) (From (one i)))

        pub within-later : (b : Stop) → r.stop ≡ Some b → Err (verdict 13 b.at) ≡ within_of n All
        within-later b k = within-bad n b.at (second ∙ file-bad n 1 true first.span r re b k)

        pub within-all : r.stop ≡ None → Ok r.span ≡ within_of n All
        unfolding span_from
        within-all k =
            within-good n r.span (second ∙ file-none n 1 true first.span r re k)
            (second-span ∙ re.wider refl ∙ ap (λ (o : Option Stop). span_from r.span (left p o)) k)

  -- ---- clashes_all: places that keep rule 13

  -- the places before share no byte with the list; no span is asked for
  abbrev pub Apart : ℕ → List Part → Option Stop → Type 0
  Apart n ps next = Standing n ps false next no_span

  module _ (n : ℕ) (ps : List Part) (good : rule13 n All ≡ kept) where
    abbrev Clash : Bool
    Clash = some (touches ps) All

    -- no part has a byte in the span
    pub span-free : (span : Span) → span ≡ span_of All → (met : Bool) → met ≡ not (all (clear span.low span.high) ps) → met ≡ false → false ≡ Clash
    span-free span is-span met is-met t =
        let c : all (clear span.low span.high) ps ≡ true = not-false _ (sym is-met ∙ t) in
        sym (none-touched ps All (span-apart All ps (rw is-span at c)))

    pub apart-end : (next : Option Stop) → Apart n ps next → next ≡ None → false ≡ Clash
    unfolding rule14 first_bad
    apart-end next st e = sym (none-touched ps All (st.fourteen ∙ ap (λ (o : Option Stop). rule14 ps (left p o)) e))

    module _ (s : Stop) (st : Apart n ps (Some s)) where
      apart-fine : eqb s.place.len 0 || (ltb s.place.start 8 || ltb n (s.place.start + s.place.len)) ≡ false
      unfolding rule13 first_bad bad_piece
      apart-fine = (kept-cond _ s.at _ (sym (ap (rule13 n) (here s st.fetched)) ∙ sym st.thirteen ∙ good)).0

      pub apart-low : 8 ≤ s.place.start
      apart-low = starts-low n ps false s no_span st _ refl apart-fine

      module _ (g : Gap) (f : Found s.place.start n ps g) (o : Bool) (is-o : o ≡ leaves g (body s.place)) where
        pub apart-clash : o ≡ true → true ≡ Clash
        apart-clash t = sym (some-touched ps All s.at (clash-at n ps false s no_span st _ refl apart-fine g f o is-o t))

        module _ (t : o ≡ false) where
          pub apart-next : (r : Reach) → Reached p false (s.at + 1) g no_span r → Apart n ps r.stop
          apart-next r re =
              let x = standing-next n ps false s no_span st _ refl apart-fine g f o is-o t no_span (λ u. absurd (false≢true u)) r re in
              record { fetched = x.fetched; thirteen = x.thirteen; fourteen = x.fourteen; wider = λ u. absurd (false≢true u) }
