-- The tags of the tables, each number once, under the documents' words. The tables themselves are in `Tags`. Assumes nothing.
use Rattle.std.specs.Prelude.{ℕ}

abbrev pub subfile : ℕ
subfile = 254

abbrev pub width : ℕ
width = 256

abbrev pub length : ℕ
length = 257

abbrev pub bits : ℕ
bits = 258

abbrev pub compression : ℕ
compression = 259

abbrev pub photometric : ℕ
photometric = 262

abbrev pub strip_offsets : ℕ
strip_offsets = 273

abbrev pub samples : ℕ
samples = 277

abbrev pub rows_per_strip : ℕ
rows_per_strip = 278

abbrev pub strip_byte_counts : ℕ
strip_byte_counts = 279

abbrev pub planar : ℕ
planar = 284

abbrev pub tile_width : ℕ
tile_width = 322

abbrev pub tile_length : ℕ
tile_length = 323

abbrev pub tile_offsets : ℕ
tile_offsets = 324

abbrev pub tile_byte_counts : ℕ
tile_byte_counts = 325

abbrev pub scale : ℕ
scale = 33550

abbrev pub tiepoint : ℕ
tiepoint = 33922

abbrev pub matrix : ℕ
matrix = 34264

abbrev pub key_directory : ℕ
key_directory = 34735

abbrev pub doubles : ℕ
doubles = 34736

abbrev pub characters : ℕ
characters = 34737

abbrev pub metadata : ℕ
metadata = 50909
