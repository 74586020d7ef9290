-- What the header of a key directory says where rule 15 is kept. Assumes nothing.
use Prim.Native.Nat.{◌+◌, ◌*◌, ◌/◌, ◌≤◌}
use mathlib.Core.Path.{◌≡◌}
use mathlib.Core.Bool.{Bool, not, ◌||◌}
use native.Mathlib.Omega.{arith}
use lib.Dec.{eqb, ltb}
use lib.ListN.{length}
use borrow.Author.Tests.{eqb-true, ltb-false, not-false}
use Rattle.paper.specs.Outcome.{kept}
use Rattle.paper.specs.Keys.{Runs, short, minor_revision, newest_minor, key_count, most_keys, rule15}
use Rattle.paper.proofs.Laws.{or-false, breaks-kept}

-- its first two numbers, the minor revision, K, and room for as many entries
pub record HeaderKept (r : Runs) : Type 0 where
  pub version : short r 0 ≡ 1
  pub revision : short r 1 ≡ 1
  pub minor : minor_revision r ≤ newest_minor
  pub few : key_count r ≤ most_keys
  pub whole : 8 + 8 * key_count r ≤ length r.directory

pub header-kept : (r : Runs) → rule15 r ≡ kept → HeaderKept r
unfolding rule15
header-kept r h =
    let many : Bool = ltb 256 (key_count r) || ltb (length r.directory / 2) (4 + 4 * key_count r) in
    let minor : Bool = ltb 1 (minor_revision r) in
    let revision : Bool = not (eqb (short r 1) 1) in
    let version : Bool = not (eqb (short r 0) 1) in
    let a = or-false version (revision || (minor || many)) (breaks-kept (version || (revision || (minor || many))) 0 h) in
    let b = or-false revision (minor || many) a.1 in
    let c = or-false minor many b.1 in
    let d = or-false (ltb 256 (key_count r)) (ltb (length r.directory / 2) (4 + 4 * key_count r)) c.1 in
    let l : 4 + 4 * key_count r ≤ length r.directory / 2 = ltb-false _ _ d.1 in
    record {
      version = eqb-true _ _ (not-false _ a.0);
      revision = eqb-true _ _ (not-false _ b.0);
      minor = ltb-false _ _ c.0;
      few = ltb-false _ _ d.0;
      whole = omega arith;
    }
