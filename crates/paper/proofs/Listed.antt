-- The reading list by the stages that a file and its mask keep is the documents' list by the verdict; and the list that rule 14 tests is the full one,
-- which is that of verdict 0: for the image its own, for the mask that of both. Assumes nothing.
use Prim.Native.Nat.{ℕ, ◌≤◌, ◌<◌, min}
use mathlib.Core.Path.{◌≡◌, refl, sym, ap, ◌∙◌}
use mathlib.Core.Bool.{Bool, true, false, cond, ◌&&◌, or-true}
use mathlib.Core.List.{List, [], ◌∷◌, ◌++◌, map}
use native.Mathlib.Omega.{arith}
use lib.Dec.{eqb, leb, ltb, lit<}
use lib.ListN.{length}
use borrow.Author.Tests.{eqb-true, ne_eqb, leb-true, ltb-true, lt-leb}
use Rattle.paper.specs.Outcome.{Outcome, kept, broken, Rule, ◌▸◌, verdict, first, ◌▷◌}
use Rattle.paper.specs.Tests.{all, keep}
use Rattle.paper.specs.Layout.{typed}
use Rattle.paper.specs.Tags.{Line, table, in_table, listed, hold}
use Rattle.paper.specs.Pieces.{Part, part, value_parts, full_list}
use Rattle.paper.specs.Keys.{key_rules}
use Rattle.paper.specs.Judge.{Head, head_in, head_run, count_in, entries_in, next_in, view, view_at, directory_of, full_of, verdict_of, rules, reading_list, where_kept, directory_parts}
use Rattle.paper.specs.Judge.{head_rules, offset_rules, count_rules, entry_rules, directory_rules, next_rules, table_rules, piece_rules, picture_rules, ground_rules, survey_rules}
use Rattle.paper.specs.Judge.{head_stage, offset_stage, count_stage, entry_stage, directory_stage, picture_stage, survey_stage, image_stage, file_stage, mask_stage}
use Rattle.paper.specs.Judge.{has_mask, mask_head, mask_lines, mask_view, both_parts, mask_picture_rules, mask_rules, mask_verdict, rule28}
use Rattle.paper.specs.Listed.{reaches, directory_by, masked, list_by}
use Rattle.paper.proofs.Laws.{and-eq}
use Rattle.paper.proofs.First.{From, first-append, verdict-rules, mask-rules}
use Rattle.paper.specs.declared.Verdict.{Verdict}
use Rattle.paper.specs.declared.Entry.{Entry}

-- ---- how far a verdict reaches

-- every number of the list is below k
abbrev Below : ℕ → List Rule → Type 0
Below k rs = all (λ r. ltb r.number k) rs ≡ true

-- a verdict of later rules is 0 or at least k
later-reaches : (k : ℕ) (rs : List Rule) → From k rs → reaches k (first rs).number ≡ true
unfolding reaches first all
later-reaches k [] p = refl
later-reaches k (r ∷ rs) p = go r.outcome refl (later-reaches k rs (and-eq (leb k r.number) _ p).1)
  where
    go : (o : Outcome) → r.outcome ≡ o → reaches k (first rs).number ≡ true → reaches k (first (r ∷ rs)).number ≡ true
    go kept e h = rw e h
    go (broken q) e h = rw (e, (and-eq (leb k r.number) _ p).0, or-true)

-- and so one of all rules is, exactly where the rules below k are kept
reaches-kept : (k : ℕ) (xs ys : List Rule) → From 1 xs → Below k xs → From k ys → reaches k (first (xs ++ ys)).number ≡ eqb (first xs).number 0
unfolding reaches first all
reaches-kept k [] ys p q r = later-reaches k ys r
reaches-kept k (x ∷ xs) ys p q r =
    go x.outcome refl (reaches-kept k xs ys (and-eq (leb 1 x.number) _ p).1 (and-eq (ltb x.number k) _ q).1 r)
  where
    go : (o : Outcome) → x.outcome ≡ o → reaches k (first (xs ++ ys)).number ≡ eqb (first xs).number 0
        → reaches k (first (x ∷ xs ++ ys)).number ≡ eqb (first (x ∷ xs)).number 0
    go kept e h = rw e h
    go (broken o) e h =
        let l : 1 ≤ x.number = leb-true _ _ (and-eq (leb 1 x.number) _ p).0 in
        let m : x.number < k = ltb-true _ _ (and-eq (ltb x.number k) _ q).0 in
        let n : eqb x.number 0 ≡ false = ne_eqb x.number 0 (λ z. omega arith) in
        rw (e, n, lt-leb k x.number m)

-- two lists of rules are kept where each is
append-kept : (xs ys : List Rule) → From 1 xs → eqb (first (xs ++ ys)).number 0 ≡ eqb (first xs).number 0 && eqb (first ys).number 0
append-kept xs ys p = ap (λ (v : Verdict). eqb v.number 0) (first-append xs ys p) ∙ go (eqb (first xs).number 0) refl
  where
    go : (b : Bool) → eqb (first xs).number 0 ≡ b → eqb (first xs ▷ first ys).number 0 ≡ eqb (first xs).number 0 && eqb (first ys).number 0
    go true e = rw e
    go false e = rw (e, e)

-- the same of rules that stand behind others
reaches-behind : (k : ℕ) (front xs ys : List Rule) → From 1 front → Below k front → From 1 xs → Below k xs → From k ys
    → reaches k (first (front ++ (xs ++ ys))).number ≡ eqb (first front).number 0 && eqb (first xs).number 0
unfolding reaches first all
reaches-behind k [] xs ys a b p q r = reaches-kept k xs ys p q r
reaches-behind k (x ∷ front) xs ys a b p q r =
    go x.outcome refl (reaches-behind k front xs ys (and-eq (leb 1 x.number) _ a).1 (and-eq (ltb x.number k) _ b).1 p q r)
  where
    go : (o : Outcome) → x.outcome ≡ o → reaches k (first (front ++ (xs ++ ys))).number ≡ eqb (first front).number 0 && eqb (first xs).number 0
        → reaches k (first (x ∷ front ++ (xs ++ ys))).number ≡ eqb (first (x ∷ front)).number 0 && eqb (first xs).number 0
    go kept e h = rw e h
    go (broken o) e h =
        let l : 1 ≤ x.number = leb-true _ _ (and-eq (leb 1 x.number) _ a).0 in
        let m : x.number < k = ltb-true _ _ (and-eq (ltb x.number k) _ b).0 in
        let n : eqb x.number 0 ≡ false = ne_eqb x.number 0 (λ z. omega arith) in
        rw (e, n, lt-leb k x.number m)

-- ---- the stages that a directory keeps, by the number of a verdict

-- the stage is kept
abbrev keeps : Verdict → Bool
keeps v = eqb v.number 0

-- rules that stand in front of the directory's rules, 4 to 7, and rules that stand behind them
record Around (front later : List Rule) : Type 0 where
  pub some : From 1 front
  pub low5 : Below 5 front
  pub low6 : Below 6 front
  pub low8 : Below 8 front
  pub high5 : From 5 later
  pub high6 : From 6 later
  pub high8 : From 8 later

module _ (f : List ℕ) (h : Head) (front later : List Rule) (around : Around front later) where
  abbrev Offset : List Rule
  Offset = offset_rules h

  abbrev Count : List Rule
  Count = count_rules h (count_in f h)

  abbrev Entries : List Rule
  Entries = entry_rules h (entries_in f h)

  -- the verdict of all these
  abbrev Number : ℕ
  Number = (first (front ++ (directory_rules f h ++ later))).number

  reaches5 : reaches 5 Number ≡ keeps (first front) && keeps (offset_stage h)
  unfolding offset_stage directory_rules offset_rules count_rules entry_rules all
  reaches5 = reaches-behind 5 front Offset (Count ++ (Entries ++ later)) around.some around.low5 refl refl around.high5

  reaches6 : reaches 6 Number ≡ keeps (first front) && (keeps (offset_stage h) && keeps (count_stage f h))
  unfolding offset_stage count_stage directory_rules offset_rules count_rules entry_rules all
  reaches6 =
      reaches-behind 6 front (Offset ++ Count) (Entries ++ later) around.some around.low6 refl refl around.high6
      ∙ ap (λ (b : Bool). keeps (first front) && b) (append-kept Offset Count refl)

  reaches8 : reaches 8 Number ≡ keeps (first front) && (keeps (offset_stage h) && (keeps (count_stage f h) && keeps (entry_stage f h)))
  unfolding offset_stage count_stage entry_stage directory_rules offset_rules count_rules entry_rules all
  reaches8 =
      reaches-behind 8 front (Offset ++ (Count ++ Entries)) later around.some around.low8 refl refl around.high8
      ∙ ap (λ (b : Bool). keeps (first front) && b)
      (append-kept Offset (Count ++ Entries) refl
      ∙ ap (λ (b : Bool). keeps (offset_stage h) && b) (append-kept Count Entries refl))

-- ---- the parts

-- stage within stage, and each by itself
staged : (a b c d : Bool) (p q : Part) (rs : List Part)
    → cond a (cond b (p ∷ cond c (q ∷ cond d rs []) []) []) []
    ≡ cond (a && b) (p ∷ []) [] ++ (cond (a && (b && c)) (q ∷ []) [] ++ cond (a && (b && (c && d))) rs [])
staged false b c d p q rs = refl
staged true false c d p q rs = refl
staged true true false d p q rs = refl
staged true true true false p q rs = refl
staged true true true true p q rs = refl

-- the values of the entries that are held, and of the entries
values-are : (tb : List Line) (f : List ℕ) (es : List Entry)
    → value_parts tb (map (hold tb f) es) ≡ map (λ e. part e.start e.len) (keep (λ e. in_table tb e.tag && typed e) es)
unfolding value_parts keep hold listed
values-are tb f [] = refl
values-are tb f (e ∷ es) = go (in_table tb e.tag && typed e) refl (values-are tb f es)
  where
    go : (b : Bool) → in_table tb e.tag && typed e ≡ b
        → value_parts tb (map (hold tb f) es) ≡ map (λ e. part e.start e.len) (keep (λ e. in_table tb e.tag && typed e) es)
        → value_parts tb (map (hold tb f) (e ∷ es)) ≡ map (λ e. part e.start e.len) (keep (λ e. in_table tb e.tag && typed e) (e ∷ es))
    go true p r = rw p (ap (λ (ps : List Part). part e.start e.len ∷ ps) r)
    go false p r = rw p r

-- what the stages of a directory let be read, by the number of the verdict
directory-by : (tb : List Line) (f : List ℕ) (h : Head) (front later : List Rule) → Around front later
    → where_kept (first front) (directory_parts tb f h) ≡ directory_by (first (front ++ (directory_rules f h ++ later))).number tb f h
unfolding directory_parts view_at directory_by
directory-by tb f h front later around =
    staged (keeps (first front)) (keeps (offset_stage h)) (keeps (count_stage f h)) (keeps (entry_stage f h)) _ _ _
    ∙ rw (reaches5 f h front later around, reaches6 f h front later around, reaches8 f h front later around, values-are tb f (entries_in f h))

-- ---- a file

-- a verdict of rules below k is
first_below : (k : ℕ) → 0 < k → (rs : List Rule) → Below k rs → (first rs).number < k
unfolding first all
first_below k l [] p = l
first_below k l (r ∷ rs) p = go r.outcome refl (first_below k l rs (and-eq (ltb r.number k) _ p).1)
  where
    go : (o : Outcome) → r.outcome ≡ o → (first rs).number < k → (first (r ∷ rs)).number < k
    go kept e h = rw e h
    go (broken q) e h = rw e (ltb-true _ _ (and-eq (ltb r.number k) _ p).0)

chain-below : (k : ℕ) (a b : Verdict) → a.number < k → b.number < k → (a ▷ b).number < k
chain-below k a b p q = go (eqb a.number 0) refl
  where
    go : (t : Bool) → eqb a.number 0 ≡ t → (a ▷ b).number < k
    go true e = rw e q
    go false e = rw e p

module _ (f : List ℕ) where
  image-by : where_kept (head_stage f) (directory_parts table f (head_in f)) ≡ directory_by (verdict_of f).number table f (head_in f)
  unfolding head_stage rules head_rules picture_rules table_rules piece_rules survey_rules key_rules ground_rules all
  image-by =
      directory-by table f (head_in f) (head_rules (length f) (head_run f)) (picture_rules (view f) ++ (survey_rules (view f) ++ (28 ▸ rule28 f ∷ [])))
      (record { some = refl; low5 = refl; low6 = refl; low8 = refl; high5 = refl; high6 = refl; high8 = refl })
      ∙ ap (λ (v : Verdict). directory_by v.number table f (head_in f)) (sym (verdict-rules f))

  mask-by : directory_parts (mask_lines f) f (mask_head f) ≡ directory_by (mask_verdict f).number (mask_lines f) f (mask_head f)
  unfolding mask_rules next_rules mask_picture_rules table_rules first all
  mask-by =
      directory-by (mask_lines f) f (mask_head f) [] (next_rules (next_in f (mask_head f)) ++ mask_picture_rules f)
      (record { some = refl; low5 = refl; low6 = refl; low8 = refl; high5 = refl; high6 = refl; high8 = refl })
      ∙ ap (λ (v : Verdict). directory_by v.number (mask_lines f) f (mask_head f)) (sym (mask-rules f))

  -- the numbers of rules 1 to 22 and 27 are below 28
  own_below : (file_stage f).number < 28
  unfolding file_stage image_stage head_stage directory_stage offset_stage count_stage entry_stage picture_stage survey_stage head_rules offset_rules count_rules entry_rules
      picture_rules table_rules piece_rules survey_rules key_rules ground_rules all
  own_below =
      let some : 0 < 28 = lit< tt in
      chain-below 28 (image_stage f) _
      (chain-below 28 (head_stage f) _ (first_below 28 some (head_rules (length f) (head_run f)) refl)
      (chain-below 28 (directory_stage f (head_in f)) _
      (chain-below 28 (offset_stage (head_in f)) _ (first_below 28 some (offset_rules (head_in f)) refl)
      (chain-below 28 (count_stage f (head_in f)) _ (first_below 28 some (count_rules (head_in f) (count_in f (head_in f))) refl)
      (first_below 28 some (entry_rules (head_in f) (entries_in f (head_in f))) refl)))
      (first_below 28 some (picture_rules (view f)) refl)))
      (first_below 28 some (survey_rules (view f)) refl)

  -- what is read of the mask goes by v
  abbrev ReadBy : Verdict → Type 0
  ReadBy v =
      where_kept (file_stage f) (cond (has_mask f) (directory_parts (mask_lines f) f (mask_head f)) [])
      ≡ cond (masked v f) (directory_by v.place (mask_lines f) f (mask_head f)) []

  unread : eqb (file_stage f).number 0 ≡ false → ReadBy (verdict_of f)
  unfolding masked verdict_of
  unread z =
      let low : (file_stage f).number < 28 = own_below in
      let l : eqb (file_stage f).number 28 ≡ false = ne_eqb (file_stage f).number 28 (λ e. omega (arith, low, e)) in
      rw (z, z, l)

  no-mask : eqb (file_stage f).number 0 ≡ true → has_mask f ≡ false → ReadBy (verdict_of f)
  unfolding masked verdict_of mask_stage rule28 first
  no-mask z m = rw (z, m)

  mask-kept : eqb (file_stage f).number 0 ≡ true → has_mask f ≡ true → eqb (mask_verdict f).number 0 ≡ true → ReadBy (verdict_of f)
  unfolding masked verdict_of mask_stage rule28 first
  mask-kept z m e = let k : (mask_verdict f).number ≡ 0 = eqb-true _ _ e in rw (z, m, e) (mask-by ∙ ap (λ (j : ℕ). directory_by j (mask_lines f) f (mask_head f)) k)

  mask-broken : eqb (file_stage f).number 0 ≡ true → has_mask f ≡ true → eqb (mask_verdict f).number 0 ≡ false → ReadBy (verdict_of f)
  unfolding masked verdict_of mask_stage rule28 first
  mask-broken z m e = rw (z, m, e) mask-by

  mask-read : ReadBy (verdict_of f)
  mask-read = own (eqb (file_stage f).number 0) refl
    where
      there : eqb (file_stage f).number 0 ≡ true → has_mask f ≡ true → (b : Bool) → eqb (mask_verdict f).number 0 ≡ b → ReadBy (verdict_of f)
      there z m true e = mask-kept z m e
      there z m false e = mask-broken z m e

      which : eqb (file_stage f).number 0 ≡ true → (b : Bool) → has_mask f ≡ b → ReadBy (verdict_of f)
      which z true m = there z m (eqb (mask_verdict f).number 0) refl
      which z false m = no-mask z m

      own : (b : Bool) → eqb (file_stage f).number 0 ≡ b → ReadBy (verdict_of f)
      own true z = which z (has_mask f) refl
      own false z = unread z

pub list-is : (f : List ℕ) → reading_list f ≡ list_by (verdict_of f) f
unfolding reading_list list_by
list-is f = λ i. part 0 (min 8 (length f)) ∷ (image-by f i ++ mask-read f i)

-- rule 14 is read where rule 1 is kept, so that no file is shorter. The image's own list
pub full_is : (f : List ℕ) → 8 ≤ length f → full_of (view f) ≡ part 0 (min 8 (length f)) ∷ directory_by 0 table f (head_in f)
unfolding full_of full_list view view_at directory_by reaches
full_is f l =
    let e : min 8 (length f) ≡ 8 = omega arith in
    rw (e, values-are table f (entries_in f (head_in f)))

-- and that of both directories
pub both_is : (f : List ℕ) → 8 ≤ length f → has_mask f ≡ true → both_parts f ≡ list_by (verdict 0 0) f
unfolding both_parts list_by masked directory_of mask_view view_at directory_by reaches
both_is f l there =
    rw (full_is f l, there, values-are (mask_lines f) f (entries_in f (mask_head f)))
