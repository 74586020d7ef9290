-- Rule 6 where 50909 may stand more than once: the pass that counts these tags, and when it need not be made. Assumes nothing.
use Prim.Native.Nat.{ℕ, ◌+◌, ◌-◌, ◌*◌, ◌≤◌, ◌<◌, zero-le}
use mathlib.Core.Path.{◌≡◌, refl, sym, ap, ◌∙◌}
use mathlib.Core.Bool.{Bool, true, false}
use mathlib.Core.List.{List, [], ◌∷◌, map}
use native.Mathlib.Nat.{sub-zero, zero-add}
use native.Mathlib.Omega.{arith}
use lib.Dec.{ltb}
use lib.ListN.{length, drop}
use borrow.Author.Tests.{ne_eqb, eq-eqb, lt-ltb, le-ltb}
use Rattle.std.specs.Prelude.{Option, Some, None, IfSome}
use Rattle.paper.specs.Bytes.{num, build}
use Rattle.paper.specs.Outcome.{ascending, ordered, ordered_from}
use Rattle.paper.specs.declared.Outcome.{Outcome}
use Rattle.paper.specs.declared.Outcome.TheVariants.{Kept as kept, Broken as broken}
use Rattle.paper.specs.Tests.{keep}
use Rattle.paper.specs.Layout.{entry_of, entry_at, entries, behind, rule6}
use Rattle.paper.specs.declared.Entry.{Entry}
use Rattle.paper.specs.Tag
use Rattle.paper.proofs.Loops.{build-end}
use Rattle.paper.proofs.Several.{rises-strict, no_other, rising}
use Rattle.outcomes.proofs.Back.{step_back}
use Rattle.layout.specs.declared.Ordered.{Ordered}
use Rattle.layout.specs.Opening.{further_by, follow_of, ordered_of}
use Rattle.layout.specs.Repeats.{is_text, text_count, first_text, no_further, further_of}

-- ---- the pass

-- the first of the tags, if there is one
abbrev pub front : List ℕ → Option ℕ
front [] = None
front (b ∷ bs) = Some b

-- tags in order, with one more in front
order-front : (a : ℕ) (next : Option ℕ) (six : Outcome) (bs : List ℕ) → six ≡ ordered behind bs → next ≡ front bs → follow_of a next six ≡ ordered behind (a ∷ bs)
unfolding ordered ordered_from
order-front a next six [] known after = rw after known
order-front a next six (b ∷ bs) known after = rw (after, known) refl

-- before entry i - 1 is looked at
pub record Counting (big : Bool) (at c : ℕ) (dir : List ℕ) (i : ℕ) (six : Outcome) (next : Option ℕ) (first many : ℕ) : Type 0 where
  pub few : i ≤ c
  pub near : IfSome next (λ n. n < 65536)
  pub rises : six ≡ rule6 (build (entry_at big at dir) i (c - i))
  pub after : next ≡ front (map (λ e. e.tag) (build (entry_at big at dir) i (c - i)))
  pub count : many ≡ text_count (build (entry_at big at dir) i (c - i))
  pub less : many ≤ c - i
  pub place : 0 < many → first ≡ i + first_text (build (entry_at big at dir) i (c - i))
  pub low : first ≤ c

pub count-start : (big : Bool) (at c : ℕ) (dir : List ℕ) → Counting big at c dir c kept None 0 0
unfolding rule6 ordered text_count keep
count-start big at c dir =
    let z : build (entry_at big at dir) c (c - c) ≡ [] = build-end (entry_at big at dir) c in
    record {
      few = omega arith;
      near = tt;
      rises = rw z refl;
      after = rw z refl;
      count = rw z refl;
      less = omega arith;
      place = λ l. absurd (omega arith);
      low = omega arith;
    }

module _ {big : Bool} {at c : ℕ} {dir : List ℕ} {h : ℕ} {six : Outcome} {next : Option ℕ} {first many : ℕ} (pass : Counting big at c dir h six next first many) (some : 0 < h)
    {tag : ℕ} (is-tag : (tag ≡ num big 2 dir (2 + 12 * (h - 1))) × (tag < 65536)) {six' : Outcome} (is-six : six' ≡ follow_of tag next six) where
  abbrev Rest : List Entry
  Rest = build (entry_at big at dir) h (c - h)

  abbrev Here : Entry
  Here = entry_at big at dir (h - 1)

  here : Here.tag ≡ tag
  unfolding entry_of
  here = sym is-tag.0

  back : build (entry_at big at dir) (h - 1) (c - (h - 1)) ≡ Here ∷ Rest
  back = step_back (entry_at big at dir) c h some pass.few

  rises' : six' ≡ rule6 (Here ∷ Rest)
  unfolding rule6
  rises' = rw (is-six, here) (order-front tag next six (map (λ e. e.tag) Rest) pass.rises pass.after)

  pub count-text : tag ≡ Tag.metadata → Counting big at c dir (h - 1) six' (Some tag) (h - 1) (many + 1)
  unfolding text_count keep first_text
  count-text e =
      let t : is_text Here ≡ true = eq-eqb Here.tag Tag.metadata (here ∙ e) in
      record {
        few = omega (arith, pass.few);
        near = is-tag.1;
        rises = rw back rises';
        after = rw back (ap Some (sym here));
        count = rw (back, t) (ap (λ (n : ℕ). n + 1) pass.count ∙ (omega arith));
        less = let l = pass.less in let w = pass.few in omega arith;
        place = λ l. rw (back, t) (omega arith);
        low = omega (arith, pass.few);
      }

  pub count-other : (tag ≡ Tag.metadata → ⊥) → Counting big at c dir (h - 1) six' (Some tag) first many
  unfolding text_count keep first_text
  count-other e =
      let t : is_text Here ≡ false = ne_eqb Here.tag Tag.metadata (λ z. e (sym here ∙ z)) in
      record {
        few = omega (arith, pass.few);
        near = is-tag.1;
        rises = rw back rises';
        after = rw back (ap Some (sym here));
        count = rw (back, t) pass.count;
        less = let l = pass.less in let w = pass.few in omega arith;
        place = λ l. rw (back, t) (let p = pass.place l in omega arith);
        low = pass.low;
      }

-- ---- what is then known

-- a pass that tells of no further entries
abbrev pub alone : Outcome → Ordered
alone o = record { six = o; further = no_further }

few-further : (at : ℕ) (es : List Entry) → text_count es ≤ 1 → further_of at es ≡ no_further
unfolding further_of
few-further at es l = rw (le-ltb 1 (text_count es) l)

module _ {big : Bool} {at c : ℕ} {dir : List ℕ} {i : ℕ} {six : Outcome} {next : Option ℕ} {first many : ℕ} (pass : Counting big at c dir i six next first many) (done : i ≤ 0) where
  abbrev Es : List Entry
  Es = entries big at c dir

  all-entries : build (entry_at big at dir) i (c - i) ≡ entries big at c dir
  unfolding entries
  all-entries = let z : i ≡ 0 = omega arith in rw (z, sub-zero)

  pub six-is : six ≡ rule6 (entries big at c dir)
  six-is = rw (← all-entries) pass.rises

  count-is : many ≡ text_count Es
  count-is = rw (← all-entries) pass.count

  pub count_broken : {p : ℕ} → six ≡ broken p → alone six ≡ ordered_of (entries big at c dir) at
  unfolding ordered_of
  count_broken e = rw (← six-is, e)

  pub count_few : many ≤ 1 → alone six ≡ ordered_of (entries big at c dir) at
  unfolding ordered_of
  count_few l = rw (← six-is) (go six)
    where
      go : (o : Outcome) → alone o ≡ record { six = o; further = further_by o at Es }
      go (broken p) = refl
      go kept = let n = count-is in rw (few-further at Es (omega arith))

  pub count-some : six ≡ kept → 1 < many
      → record { six = six; further = record { start = at + (2 + 12 * (first + 1)); many = many - 1 } } ≡ ordered_of (entries big at c dir) at
  unfolding ordered_of further_of
  count-some k two =
      let n = count-is in
      let m : ltb 1 (text_count Es) ≡ true = lt-ltb 1 (text_count Es) (omega arith) in
      let i-none : i ≡ 0 = omega arith in
      let p : first ≡ first_text Es = pass.place (omega arith) ∙ ap (λ (es : List Entry). i + first_text es) all-entries ∙ ap (λ (x : ℕ). x + first_text Es) i-none ∙ zero-add (first_text Es) in
      rw (← six-is, k, m, p, n)

-- the tags ascend, or they do not and not because of 50909
one-text : (es : List Entry) → ascending (map (λ e. e.tag) es) ≡ kept → text_count es ≤ 1
unfolding text_count
one-text es h = go (keep is_text es) (no_other (λ e. e.tag) ltb Tag.metadata (rises-strict Tag.metadata) es h)
  where
    go : (xs : List Entry) → drop 1 xs ≡ [] → length xs ≤ 1
    go [] e = zero-le
    go (x ∷ xs) e = let w : length xs ≡ 0 = ap length e in omega arith

pub order-known : (at : ℕ) (es : List Entry) {six : Outcome} → six ≡ ascending (map (λ e. e.tag) es) → (six ≡ broken Tag.metadata → ⊥)
    → alone six ≡ ordered_of es at
unfolding ordered_of rule6
order-known at es {six} known n =
    let same : ordered behind (map (λ e. e.tag) es) ≡ ascending (map (λ e. e.tag) es) = rising (map (λ e. e.tag) es) (λ w. n (known ∙ w)) in
    rw (same, ← known) (go six known)
  where
    go : (o : Outcome) → o ≡ ascending (map (λ e. e.tag) es) → alone o ≡ record { six = o; further = further_by o at es }
    go (broken p) e = refl
    go kept e = rw (few-further at es (one-text es (sym e)))
