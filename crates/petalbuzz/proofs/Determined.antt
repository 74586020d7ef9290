-- Every call's answer is determined: two results that meet a call's contract on the same input are equal, in every number, row, byte and part that a
-- caller gets. `Learnt` is the contract itself, as the checker reads it from the code: all that a caller learns. It is a claim about lifetimes κs,
-- the arguments a, the result x, and s, the parameters as they are at exit: s.0 the first, s.1.0 the second, and so on. Assumes nothing.
use Prim.Native.Nat.{ℕ}
use mathlib.Core.Path.{◌≡◌, refl, sym, ◌∙◌}
use mathlib.Core.List.{List}
use lib.Ieee.{Float}
use base.Logic.{emp}
use contract.Lifetimes.{Lfts}
use denote.Triple.Clauses.{AtExit}
use borrow.Fn.Claims.{AllOf}
use borrow.Fn.Read.{Read, all_models, no_know, r_last}
use borrow.Fn.World.{World, Pr, ArgsD, ResD}
use Rattle.std.specs.Prelude.{Result}
use Rattle.paper.specs.declared.Verdict.{Verdict}
use Rattle.paper.specs.declared.Judged.{Judged}
use Rattle.paper.specs.declared.Counted.{Counted}
use Rattle.paper.specs.declared.BlockRead.{BlockRead}
use Rattle.paper.specs.declared.Row.{Row}
use Rattle.paper.specs.declared.Cited.{Cited}
use Rattle.paper.specs.declared.Text.{Text}
use Rattle.paper.specs.declared.Block.{Block}
use Rattle.judge.specs.declared.Examined.{Examined}
use Rattle.rows.specs.declared.Lent.{Lent}
use Rattle.judge.proofs.examine.Reads as examine
use Rattle.judge.proofs.judge.Reads as judge
use Rattle.rows.specs.contracts.key_rows as key-rows
use Rattle.rows.specs.contracts.lend as lend
use Rattle.texts.proofs.cite.Reads as cite
use Rattle.texts.proofs.citation.Reads as citation
use Rattle.texts.proofs.text.Reads as text
use Rattle.texts.proofs.metadata.Reads as metadata
use Rattle.block.proofs.key_block.Reads as key-block
use Rattle.block.proofs.read_block.Reads as read-block
use Rattle.petalbuzz.proofs.petalbuzz_judge.Reads as c-judge
use Rattle.petalbuzz.proofs.petalbuzz_ground.Reads as c-ground
use Rattle.petalbuzz.specs.contracts.petalbuzz_rows as c-rows
use Rattle.petalbuzz.proofs.petalbuzz_citation.Reads as c-citation
use Rattle.petalbuzz.proofs.petalbuzz_metadata.Reads as c-metadata
use Rattle.petalbuzz.proofs.petalbuzz_key_block.Reads as c-key-block
use Rattle.petalbuzz.proofs.petalbuzz_read_block.Reads as c-read-block

-- what a caller gets is the same for any two results that meet the contract
abbrev pub Determined : {K : Type 0} {A R E : K → Type 0} (S : Type 0) → ((κs : K) → A κs → R κs → E κs → Type 0)
    → ((κs : K) → R κs → E κs → S) → Type 0
Determined {K} {A} {R} {E} S Meets gets =
    (κs : K) (a : A κs) (x y : R κs) (s t : E κs) → Meets κs a x s → Meets κs a y t → gets κs x s ≡ gets κs y t

-- ---- the judgement

pub examine-determined : Determined (Result Examined Verdict) examine.Learnt (λ κs x s. x)
examine-determined κs a x y s t p q = p ∙ sym q

pub judge-determined : Determined Judged judge.Learnt (λ κs x s. x)
judge-determined κs a x y s t p q = p ∙ sym q

-- verdict, place
pub c-judge-determined : Determined (ℕ × ℕ) c-judge.Learnt (λ κs x s. (s.1.0.now, s.1.1.0.now))
c-judge-determined κs a x y s t p q = rw (p.0, p.1, q.0, q.1)

-- verdict, place, form, the six doubles, the corners
pub c-ground-determined : Determined (ℕ × ℕ × ℕ × List Float × List Float) c-ground.Learnt
    (λ κs x s. (s.1.0.now, s.1.1.0.now, s.1.1.1.0.now, s.1.1.1.1.0.now, s.1.1.1.1.1.0.now))
c-ground-determined κs a x y s t p q = rw (p.0, p.1.0, p.1.1.0, p.1.1.1.0, p.1.1.1.1, q.0, q.1.0, q.1.1.0, q.1.1.1.0, q.1.1.1.1)

-- ---- the key rows

-- Of these three, what a caller learns is read here from the contract itself, in the same way.
abbrev learnt : (P : (w : World) → Pr w) → Read (λ w. emp w.𝓤) no_know P → Type 0
learnt P r = AllOf r.tells

abbrev KeyRows : (κs : Lfts 2) → ArgsD key-rows.signature κs → ResD key-rows.signature κs → AtExit key-rows.ended κs → Type 0
KeyRows κs a x s = learnt (λ w. (key-rows.clauses w.𝓛 w.𝓜.mem w.𝓡.run κs a).ensures tt x s)
    (all_models _ (λ w. r_last _) (λ w. refl) (λ w. refl) (λ w. refl))

abbrev Lend : (κs : Lfts 1) → ArgsD lend.signature κs → ResD lend.signature κs → AtExit lend.ended κs → Type 0
Lend κs a x s = learnt (λ w. (lend.clauses w.𝓛 w.𝓜.mem w.𝓡.run κs a).ensures tt x s)
    (all_models _ (λ w. r_last _) (λ w. refl) (λ w. refl) (λ w. refl))

abbrev CRows : (κs : Lfts 5) → ArgsD c-rows.signature κs → ResD c-rows.signature κs → AtExit c-rows.ended κs → Type 0
CRows κs a x s = learnt (λ w. (c-rows.clauses w.𝓛 w.𝓜.mem w.𝓡.run κs a).ensures tt x s)
    (all_models _ (λ w. r_last _) (λ w. refl) (λ w. refl) (λ w. refl))

-- verdict and K; every lent row
pub key-rows-determined : Determined (Counted × List Row) KeyRows (λ κs x s. (x, s.1.0.now))
key-rows-determined κs a x y s t p q = rw (p.0, p.1, q.0, q.1)

pub lend-determined : Determined Lent Lend (λ κs x s. x)
lend-determined κs a x y s t p q = p ∙ sym q

-- every lent row; verdict, place, K
pub c-rows-determined : Determined (List Row × ℕ × ℕ × ℕ) CRows (λ κs x s. (s.1.0.now, s.1.1.0.now, s.1.1.1.0.now, s.1.1.1.1.0.now))
c-rows-determined κs a x y s t p q = rw (p.0, p.1, p.2, p.3, q.0, q.1, q.2, q.3)

-- ---- the texts

pub cite-determined : Determined Cited cite.Learnt (λ κs x s. x)
cite-determined κs a x y s t p q = p.0 ∙ sym q.0

-- the bytes of the part; verdict, place
pub citation-determined : Determined (List ℕ × ℕ × ℕ) citation.Learnt (λ κs x s. (x.now, s.1.1.0.now, s.1.1.1.0.now))
citation-determined κs a x y s t p q = rw (p.0, p.1.0, p.1.1, q.0, q.1.0, q.1.1)

-- verdict, place, start, length
pub c-citation-determined : Determined (ℕ × ℕ × ℕ × ℕ) c-citation.Learnt
    (λ κs x s. (s.1.1.0.now, s.1.1.1.0.now, s.1.1.1.1.0.now, s.1.1.1.1.1.0.now))
c-citation-determined κs a x y s t p q = rw (p.0, p.1.0, p.1.1.0, p.1.1.1.0, q.0, q.1.0, q.1.1.0, q.1.1.1.0)

pub text-determined : Determined Text text.Learnt (λ κs x s. x)
text-determined κs a x y s t p q = p.0 ∙ sym q.0

-- the bytes of the part; verdict, place
pub metadata-determined : Determined (List ℕ × ℕ × ℕ) metadata.Learnt (λ κs x s. (x.now, s.1.1.1.0.now, s.1.1.1.1.0.now))
metadata-determined κs a x y s t p q = rw (p.0, p.1.0, p.1.1, q.0, q.1.0, q.1.1)

-- verdict, place, from, start, length
pub c-metadata-determined : Determined (ℕ × ℕ × ℕ × ℕ × ℕ) c-metadata.Learnt
    (λ κs x s. (s.1.1.1.0.now, s.1.1.1.1.0.now, s.1.1.1.1.1.0.now, s.1.1.1.1.1.1.0.now, s.1.1.1.1.1.1.1.0.now))
c-metadata-determined κs a x y s t p q =
    rw (p.0, p.1.0, p.1.1.0, p.1.1.1.0, p.1.1.1.1.0, q.0, q.1.0, q.1.1.0, q.1.1.1.0, q.1.1.1.1.0)

-- ---- the key block

-- verdict and the three lengths; every lent byte
pub key-block-determined : Determined (Block × List ℕ) key-block.Learnt (λ κs x s. (x, s.1.0.now))
key-block-determined κs a x y s t p q = rw (p.0, p.1, q.0, q.1)

-- every lent byte; verdict, place, the three lengths
pub c-key-block-determined : Determined (List ℕ × ℕ × ℕ × List ℕ) c-key-block.Learnt
    (λ κs x s. (s.1.0.now, s.1.1.0.now, s.1.1.1.0.now, s.1.1.1.1.0.now))
c-key-block-determined κs a x y s t p q = rw (p.0, p.1.0, p.1.1.0, p.1.1.1, q.0, q.1.0, q.1.1.0, q.1.1.1)

pub read-block-determined : Determined BlockRead read-block.Learnt (λ κs x s. x)
read-block-determined κs a x y s t p q = p ∙ sym q

-- verdict, place, K, the minor revision
pub c-read-block-determined : Determined (ℕ × ℕ × ℕ × ℕ) c-read-block.Learnt
    (λ κs x s. (s.1.1.1.0.now, s.1.1.1.1.0.now, s.1.1.1.1.1.0.now, s.1.1.1.1.1.1.0.now))
c-read-block-determined κs a x y s t p q = rw (p.0, p.1.0, p.1.1.0, p.1.1.1, q.0, q.1.0, q.1.1.0, q.1.1.1)
