-- The key table as code holds it: the number of a kind, a known key as the paper has it, and the place where a key stands, if it stands anywhere.
-- Assumes nothing.
use Rattle.std.specs.Prelude.{ℕ, ◌+◌, ◌-◌, cond, ltb, Option, Some, None}
use Rattle.paper.specs.Keys.{short_kind, double_kind, ascii_kind, other_kind, Known}
use Rattle.keys.specs.declared.Kind.{Kind}
use Rattle.keys.specs.declared.Kind.TheVariants.{Short, Double, Ascii, Other}

abbrev pub number : Kind → ℕ
number Short = short_kind
number Double = double_kind
number Ascii = ascii_kind
number Other = other_kind

abbrev pub numbered : ℕ × Kind → Known
numbered k = record { key = k.0; kind = number k.1 }

-- the known keys are four rows without a gap: 1024 to 1026, 2048 to 2061, 3072 to 3095, 4096 to 4099; a place behind the end of a row is none of its own
unfoldable pub slot_of : ℕ → Option ℕ
slot_of k =
    cond (ltb k 2048) (cond (ltb k 1024) None (Some (k - 1024)))
    (cond (ltb k 3072) (Some (k - 2048 + 3)) (cond (ltb k 4096) (Some (k - 3072 + 17)) (Some (k - 4096 + 41))))
