-- The keys that a rule names, each number once, under the names of OGC 19-008r4. Assumes nothing.
use Rattle.std.specs.Prelude.{ℕ}

abbrev pub model_type : ℕ
model_type = 1024

abbrev pub raster_type : ℕ
raster_type = 1025

abbrev pub geodetic_crs : ℕ
geodetic_crs = 2048

abbrev pub angular_units : ℕ
angular_units = 2054

abbrev pub projected_crs : ℕ
projected_crs = 3072

abbrev pub linear_units : ℕ
linear_units = 3076

abbrev pub vertical_crs : ℕ
vertical_crs = 4096
