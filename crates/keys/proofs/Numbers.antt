-- Rules 18 and 19 from the numbers found of the keys that they ask for. Assumes nothing.
use Prim.Native.Nat.{ℕ}
use mathlib.Core.Path.{◌≡◌, refl}
use mathlib.Core.Bool.{Bool, true, false, not}
use mathlib.Core.List.{List, [], ◌∷◌}
use lib.Dec.{eqb}
use Rattle.paper.specs.Outcome.{first_bad}
use Rattle.paper.specs.Tests.{just}
use Rattle.paper.specs.Key
use Rattle.paper.specs.Keys.{find_key, has_key, key_value, rule18, Fixed, fixed, fixed_keys, forbidden, rule19}
use Rattle.paper.specs.declared.KeyEntry.{KeyEntry}
use Rattle.keys.specs.Pass.{held, found_in, absent, has, needed, wrong, one_or_two, zones, heights, allowed}

-- ---- the number found of a key

held-absent : (k : ℕ) (ks : List KeyEntry) → eqb 0 k ≡ false → absent (held k ks) ≡ not (has_key k ks)
unfolding held has_key find_key
held-absent k [] z = rw z
held-absent k (e ∷ es) z = go (eqb e.key k) refl (held-absent k es z)
  where
    go : (b : Bool) → eqb e.key k ≡ b → absent (held k es) ≡ not (has_key k es) → absent (held k (e ∷ es)) ≡ not (has_key k (e ∷ es))
    go true p h = rw (p, p)
    go false p h = rw p h

-- a number that is not 0
pub held-is : (k v : ℕ) (ks : List KeyEntry) → eqb 0 v ≡ false → has (held k ks) v ≡ eqb (key_value k ks) v
unfolding held find_key
held-is k v [] z = rw z
held-is k v (e ∷ es) z = go (eqb e.key k) refl (held-is k v es z)
  where
    go : (b : Bool) → eqb e.key k ≡ b → has (held k es) v ≡ eqb (find_key k es).index v → has (held k (e ∷ es)) v ≡ eqb (find_key k (e ∷ es)).index v
    go true p h = rw p
    go false p h = rw p h

held-wrong : (x : Fixed) (ks : List KeyEntry) → eqb 0 x.key ≡ false → wrong x.values (held x.key ks) ≡ forbidden ks x
unfolding wrong forbidden held has_key find_key
held-wrong x [] z = rw z
held-wrong x (e ∷ es) z = go (eqb e.key x.key) refl (held-wrong x es z)
  where
    go : (b : Bool) → eqb e.key x.key ≡ b → wrong x.values (held x.key es) ≡ forbidden es x
        → wrong x.values (held x.key (e ∷ es)) ≡ forbidden (e ∷ es) x
    go true p h = rw (key_value, p, p)
    go false p h = rw (key_value, p) h

-- ---- the two rules

module _ (ks : List KeyEntry) where
  pub needed-is : needed (found_in ks) ≡ rule18 ks
  unfolding needed rule18
  needed-is =
      rw (
        held-absent Key.model_type ks refl,
        held-absent Key.raster_type ks refl,
        held-absent Key.geodetic_crs ks refl,
        held-absent Key.projected_crs ks refl,
        held-is Key.model_type 2 ks refl,
        held-is Key.model_type 1 ks refl,
      )

  pub allowed-is : allowed (found_in ks) ≡ rule19 ks
  unfolding allowed rule19 first_bad fixed_keys
  allowed-is =
      rw (
        held-wrong (fixed Key.model_type one_or_two) ks refl,
        held-wrong (fixed Key.raster_type one_or_two) ks refl,
        held-wrong (fixed Key.geodetic_crs (just 4326 ∷ [])) ks refl,
        held-wrong (fixed Key.angular_units (just 9102 ∷ [])) ks refl,
        held-wrong (fixed Key.projected_crs zones) ks refl,
        held-wrong (fixed Key.linear_units (just 9001 ∷ [])) ks refl,
        held-wrong (fixed Key.vertical_crs heights) ks refl,
      )
