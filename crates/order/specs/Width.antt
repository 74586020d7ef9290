-- The bytes of a number that is a LONG (wide) or a SHORT. Assumes nothing.
use Rattle.std.specs.Prelude.{ℕ, Bool, true, false}

abbrev pub width : Bool → ℕ
width true = 4
width false = 2
