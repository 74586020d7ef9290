-- Written and read back: for all answers that meet the contracts of `key_block` and of `read_block`, the second on the three parts of the lent
-- bytes that the first's lengths cut out, verdict 0 of the first gives verdict 0, place 0, the file's K and its minor revision of the second, and the same keys with
-- the same values. Assumes nothing.
use Prim.Native.Nat.{ℕ, ◌+◌}
use mathlib.Core.Path.{◌≡◌, sym, ap, ◌∙◌, subst}
use mathlib.Core.List.{List}
use lib.ListN.{length}
use Rattle.paper.specs.Bytes.{run}
use Rattle.paper.specs.Keys.{Runs, minor_revision, key_count}
use Rattle.paper.specs.Judge.{view, runs_of}
use Rattle.paper.specs.Calls.{back_of, read_runs, reading_back}
use Rattle.paper.specs.Block.{block_of, block_left}
use Rattle.paper.specs.Asked.{Bytes, SameKeys, lent_runs}
use Rattle.paper.specs.declared.Block.{Block}
use Rattle.paper.specs.declared.BlockRead.{BlockRead}
use Rattle.paper.proofs.Trip.{read-accepted, read_same}

pub record ReadAgain (f d x c : List ℕ) (k : BlockRead) : Type 0 where
  pub number : k.verdict.number ≡ 0
  pub place : k.verdict.place ≡ 0
  pub many : k.keys ≡ key_count (runs_of (view f))
  pub minor : k.minor ≡ minor_revision (runs_of (view f))
  pub same : SameKeys (runs_of (view f)) (back_of d x c)

-- f the file, out the lent bytes before the call and left after it, d, x and c the three parts of left
pub written_read : (f out left : List ℕ) (b : Block) → Bytes f → b ≡ block_of f (length out) → left ≡ block_left f out → b.verdict.number ≡ 0
    → (d x c : List ℕ) (k : BlockRead) → d ≡ run left 0 b.directory → x ≡ run left b.directory b.doubles
    → c ≡ run left (b.directory + b.doubles) b.characters → k ≡ reading_back d x c → ReadAgain f d x c k
unfolding reading_back lent_runs
written_read f out left b bytes is_b is-left zero d x c k is-d is_x is_c is-k =
    let z : (block_of f (length out)).verdict.number ≡ 0 = subst (λ (y : Block). y.verdict.number ≡ 0) is_b zero in
    let parts : back_of d x c ≡ lent_runs (block_left f out) (block_of f (length out)) =
    (λ i. back_of (is-d i) (is_x i) (is_c i)) ∙ (λ i. lent_runs (is-left i) (is_b i)) in
    let all = is-k ∙ ap read_runs parts ∙ read-accepted f out bytes z in
    record {
      number = ap (λ (y : BlockRead). y.verdict.number) all;
      place = ap (λ (y : BlockRead). y.verdict.place) all;
      many = ap (λ (y : BlockRead). y.keys) all;
      minor = ap (λ (y : BlockRead). y.minor) all;
      same = subst (λ (r : Runs). SameKeys (runs_of (view f)) r) (sym parts) (read_same f out bytes z);
    }
