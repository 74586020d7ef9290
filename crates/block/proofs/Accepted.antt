-- An examined file: whether it is accepted is what the examination answers; and where it is, the values of its three key tags lie in it and are the paper's
-- runs, their header is as it was told, and rules 15 and 17 are kept. Assumes nothing.
use Prim.Native.Nat.{ℕ, ◌+◌, ◌*◌, ◌≤◌}
use mathlib.Core.Path.{◌≡◌, refl, sym, ap, ◌∙◌}
use mathlib.Core.List.{List}
use lib.Dec.{lit<}
use lib.ListN.{length}
use Rattle.paper.specs.Bytes.{run}
use Rattle.paper.specs.Tag
use Rattle.paper.specs.Tags.{table}
use Rattle.paper.specs.Keys.{minor_revision, key_count, keys, rule17}
use Rattle.paper.specs.Judge.{view, runs_of, verdict_of}
use Rattle.paper.specs.declared.Outcome.TheVariants.{Kept as kept}
use Rattle.paper.specs.declared.Part.{Part}
use Rattle.paper.proofs.Header.{header-kept}
use Rattle.paper.proofs.Keeps.{rule15-kept, rule17-kept}
use Rattle.tags.specs.Index
use Rattle.tags.specs.Slots.{tag_at, line_at}
use Rattle.keys.specs.Pass.{runs}
use Rattle.image.specs.Imaging.{lasting_in, tag_part}
use Rattle.judge.specs.Examining.{examined_in, examined_of}
use Rattle.judge.specs.declared.Examined.{Examined}
use Rattle.paper.specs.declared.Verdict.{Verdict}
use Rattle.std.specs.Prelude.{Result, Ok, Err, IsOk, IsErr}
use Rattle.image.proofs.Seen.{Stands}
use Rattle.judge.proofs.Seen.{accepted, found, refuses, stands}

-- ---- what is answered

pub examined_good : (f : List ℕ) → IsOk (examined_of f) → (examined_of f ≡ Ok (examined_in f)) × ((verdict_of f).number ≡ 0)
examined_good f = go (examined_of f) refl
  where
    go : (r : Result Examined Verdict) → r ≡ examined_of f → IsOk r → (examined_of f ≡ Ok (examined_in f)) × ((verdict_of f).number ≡ 0)
    go (Ok e) is h = (sym is ∙ ap Ok (found f e is), accepted f e is)
    go (Err v) is h = cc

pub examined_bad : (f : List ℕ) → IsErr (examined_of f) → (examined_of f ≡ Err (verdict_of f)) × ((verdict_of f).number ≡ 0 → ⊥)
examined_bad f = go (examined_of f) refl
  where
    go : (r : Result Examined Verdict) → r ≡ examined_of f → IsErr r → (examined_of f ≡ Err (verdict_of f)) × ((verdict_of f).number ≡ 0 → ⊥)
    go (Ok e) is h = cc
    go (Err v) is h = let r = refuses f v is in (sym is ∙ ap Err r.0, r.1)

-- ---- the runs of a file

-- K and the minor revision are those of the header
pub header_told : (f : List ℕ)
    → ((examined_in f).surveyed.keys ≡ key_count (runs_of (view f))) × ((examined_in f).surveyed.minor ≡ minor_revision (runs_of (view f)))
unfolding examined_in
header_told f = (refl, refl)

-- the bytes of a part
abbrev part_of : List ℕ → Part → List ℕ
part_of f p = run f p.start p.len

module _ (f : List ℕ) (zero : (verdict_of f).number ≡ 0) where
  directory : Stands f (view f).held Tag.key_directory
  unfolding tag_at line_at table
  directory = stands f zero Index.key_directory (lit< tt)

  doubles : Stands f (view f).held Tag.doubles
  unfolding tag_at line_at table
  doubles = stands f zero Index.doubles (lit< tt)

  characters : Stands f (view f).held Tag.characters
  unfolding tag_at line_at table
  characters = stands f zero Index.characters (lit< tt)

  pub directory_in : (examined_in f).image.directory.start + (examined_in f).image.directory.len ≤ length f
  unfolding examined_in lasting_in tag_part
  directory_in = directory.within

  pub doubles_in : (examined_in f).image.doubles.start + (examined_in f).image.doubles.len ≤ length f
  unfolding examined_in lasting_in tag_part
  doubles_in = doubles.within

  pub characters_in : (examined_in f).image.characters.start + (examined_in f).image.characters.len ≤ length f
  unfolding examined_in lasting_in tag_part
  characters_in = characters.within

  pub runs_are : runs (examined_in f).image.big (part_of f (examined_in f).image.directory) (part_of f (examined_in f).image.doubles)
      (part_of f (examined_in f).image.characters)
      ≡ runs_of (view f)
  unfolding examined_in lasting_in runs_of tag_part
  runs_are = λ i. runs (view f).head.big (directory.bytes i) (doubles.bytes i) (characters.bytes i)

  pub header_kept : (key_count (runs_of (view f)) ≤ 256) × (8 + 8 * key_count (runs_of (view f)) ≤ length (runs_of (view f)).directory)
  header_kept =
      let k = header-kept (runs_of (view f)) (rule15-kept f zero) in
      (k.few, k.whole)

  pub each_placed : rule17 (runs_of (view f)) (keys (runs_of (view f))) ≡ kept
  each_placed = rule17-kept f zero

-- what `write` asks of all that
pub ruleset good_runs = (examined_good, examined_bad, directory_in, doubles_in, characters_in, runs_are, header_told, header_kept, each_placed)
