-- A file stage by stage up to rule 7, with any verdict behind: where a stage refuses, its verdict is the whole one; where none does, it is the one behind.
-- Assumes nothing.
use Prim.Native.Nat.{ℕ, ◌+◌, ◌≤◌, ◌<◌}
use mathlib.Core.Path.{◌≡◌, refl, sym, ap, ◌∙◌}
use mathlib.Core.Bool.{Bool}
use mathlib.Core.List.{List}
use native.Mathlib.Omega.{arith}
use lib.ListN.{length}
use Rattle.std.specs.Prelude.{Ok, Err}
use Rattle.paper.specs.Bytes.{run}
use Rattle.paper.specs.Outcome.{first, ◌▷◌}
use Rattle.paper.specs.Layout.{dir_len, entries}
use Rattle.paper.specs.Judge.{Head as Place, head_in, dir_run, entries_in, entry_rules, head_stage, offset_stage, count_stage, entry_stage, directory_stage}
use Rattle.paper.specs.declared.Verdict.{Verdict}
use Rattle.paper.proofs.First.{chain-zero, chain-stop, chain-turn}
use Rattle.outcomes.specs.Ruled.{ruled}
use Rattle.outcomes.proofs.Ruled.{found-ruled, broken-ruled}
use Rattle.layout.specs.Opening.{headed_of, opened_of, scanned_of, LaidAt}
use Rattle.layout.specs.declared.Head.{Head}
use Rattle.layout.specs.declared.Directory.{Directory}
use Rattle.layout.specs.declared.Scanned.{Scanned}
use Rattle.layout.proofs.Opening.{Heading, head-good, Laying, laid, laid-place}

-- the verdict of rules 1 to 7, and then v
abbrev pub up_to7 : List ℕ → Verdict → Verdict
up_to7 f v = head_stage f ▷ (directory_stage f (head_in f) ▷ v)

-- a verdict that refuses
pub record Refuses (whole e : Verdict) : Type 0 where
  pub is : whole ≡ e
  pub some : e.number ≡ 0 → ⊥

module _ (f : List ℕ) (v : Verdict) where
  -- rules 1 to 3 refuse
  pub head-refuses : {e : Verdict} → Err e ≡ headed_of f → Refuses (head_stage f ▷ (directory_stage f (head_in f) ▷ v)) e
  unfolding headed_of
  head-refuses {e} bad =
      let b = broken-ruled (head_stage f) _ e bad in
      rw b.1 record { is = chain-stop (head_stage f) _ b.0; some = b.0 }

  module _ {h : Head} (good : Ok h ≡ headed_of f) where
    abbrev Start : Place
    Start = record { size = length f; big = h.big; at = h.at }

    heading : Heading f h.big h.at
    heading = head-good f h good

    after-head : up_to7 f v ≡ directory_stage f Start ▷ v
    after-head = chain-zero (head_stage f) _ heading.zero ∙ ap (λ (h : Place). directory_stage f h ▷ v) heading.head

    -- rules 4 and 5 refuse
    pub open-refuses : {e : Verdict} → Err e ≡ opened_of f (record { size = length f; big = h.big; at = h.at })
        → Refuses (head_stage f ▷ (directory_stage f (head_in f) ▷ v)) e
    unfolding opened_of directory_stage
    open-refuses {e} bad =
        let w = offset_stage Start ▷ count_stage f Start in
        let b = broken-ruled w _ e bad in
        rw b.1 record {
          is =
              after-head
              ∙ ap (λ (x : Verdict). x ▷ v) (sym (chain-turn (offset_stage Start) (count_stage f Start) (entry_stage f Start)))
              ∙ chain-turn w (entry_stage f Start) _
              ∙ chain-stop w _ b.0;
          some = b.0;
        }

-- they do not, and so the directory is laid at its place
pub laid-at : {f : List ℕ} {h : Head} {d : Directory} → Ok h ≡ headed_of f → Ok d ≡ opened_of f (record { size = length f; big = h.big; at = h.at })
    → LaidAt f d.big d.at d.count
laid-at {f} {h} {d} good opened =
    let p = laid-place f (record { size = length f; big = h.big; at = h.at }) d opened in
    rw (p.0, p.1) record { head = sym good; count = sym opened ∙ ap Ok (rw (p.0, p.1) refl) }

module _ {f : List ℕ} {big : Bool} {at c : ℕ} (o : LaidAt f big at c) where
  abbrev Here : Place
  Here = record { size = length f; big = big; at = at }

  abbrev Bytes : List ℕ
  Bytes = run f at (dir_len c)

  pub lay : Laying f (record { size = length f; big = big; at = at }) c
  lay = laid f Here (record { big = big; at = at; count = c }) (sym o.count)

  pub head-is : head_in f ≡ record { size = length f; big = big; at = at }
  head-is = (head-good f _ (sym o.head)).head

  pub file-size : length f ≤ 4294967295
  file-size = (head-good f _ (sym o.head)).size

  -- what is asked of its entries
  pub entries-asked : (at + dir_len c ≤ length f) × (c ≤ 1024) × (at < 4294967296)
  entries-asked = (lay.whole, lay.few, omega (arith, lay.whole, file-size))

  entries-are : entry_stage f Here ≡ first (entry_rules Here (entries big at c Bytes))
  unfolding entry_stage entries_in dir_run
  entries-are = ap (λ (k : ℕ). first (entry_rules Here (entries big at k (run f at (dir_len k))))) (sym lay.count)

  -- and what it answered
  module _ {s : Scanned} (so : s ≡ scanned_of (record { size = length f; big = big; at = at }) c (run f at (dir_len c))) where
    abbrev Six_seven : Verdict
    Six_seven = first (entry_rules (record { size = length f; big = big; at = at }) (entries big at c (run f at (dir_len c))))

    pub judged-is : s.judged ≡ ruled (first (entry_rules (record { size = length f; big = big; at = at }) (entries big at c (run f at (dir_len c))))) (tt {0})
    unfolding scanned_of
    judged-is = ap (λ (x : Scanned). x.judged) so

    after-scan : (v : Verdict) → up_to7 f v ≡ Six_seven ▷ v
    unfolding directory_stage
    after-scan v =
        after-head f v (sym o.head)
        ∙ ap (λ (x : Verdict). x ▷ v)
        (chain-zero (offset_stage Here) _ lay.offset_zero ∙ chain-zero (count_stage f Here) _ lay.count_zero ∙ entries-are)

    -- rules 6 and 7 refuse
    pub scan-refuses : (v : Verdict) {e : Verdict} → s.judged ≡ Err e → Refuses (head_stage f ▷ (directory_stage f (head_in f) ▷ v)) e
    scan-refuses v {e} bad =
        let b = broken-ruled Six_seven (tt {0}) e (sym bad ∙ judged-is) in
        rw b.1 record { is = after-scan v ∙ chain-stop Six_seven v b.0; some = b.0 }

    -- they do not, and so the verdict behind them is the whole one
    pub scan-keeps : (v : Verdict) {x : Unit {0}} → s.judged ≡ Ok x → head_stage f ▷ (directory_stage f (head_in f) ▷ v) ≡ v
    scan-keeps v {x} good = after-scan v ∙ chain-zero Six_seven v (found-ruled Six_seven (tt {0}) x (sym good ∙ judged-is)).0
