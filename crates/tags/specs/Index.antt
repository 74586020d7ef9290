-- The line of each tag in the image's table, counted from 0, under the tag's name: the slot of its entry. Those of a picture's tags, in front, are the
-- same in every table of a picture. Assumes nothing.
use Rattle.std.specs.Prelude.{ℕ}

abbrev pub width : ℕ
width = 0

abbrev pub length : ℕ
length = 1

abbrev pub bits : ℕ
bits = 2

abbrev pub compression : ℕ
compression = 3

abbrev pub photometric : ℕ
photometric = 4

abbrev pub strip_offsets : ℕ
strip_offsets = 5

abbrev pub samples : ℕ
samples = 6

abbrev pub rows_per_strip : ℕ
rows_per_strip = 7

abbrev pub strip_byte_counts : ℕ
strip_byte_counts = 8

abbrev pub planar : ℕ
planar = 9

abbrev pub tile_width : ℕ
tile_width = 10

abbrev pub tile_length : ℕ
tile_length = 11

abbrev pub tile_offsets : ℕ
tile_offsets = 12

abbrev pub tile_byte_counts : ℕ
tile_byte_counts = 13

-- how many tags of a picture there are
abbrev pub pictured : ℕ
pictured = 14

abbrev pub scale : ℕ
scale = 14

abbrev pub tiepoint : ℕ
tiepoint = 15

abbrev pub matrix : ℕ
matrix = 16

abbrev pub key_directory : ℕ
key_directory = 17

abbrev pub doubles : ℕ
doubles = 18

abbrev pub characters : ℕ
characters = 19

abbrev pub metadata : ℕ
metadata = 20

-- how many there are
abbrev pub many : ℕ
many = 21
