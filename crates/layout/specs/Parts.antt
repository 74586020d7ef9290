-- Parts of a file that a directory names. Assumes nothing.
use Rattle.paper.specs.Pieces.{part}
use Rattle.paper.specs.declared.Entry.{Entry}
use Rattle.paper.specs.declared.Part.{Part}

-- where the value of an entry stands
abbrev pub value_part : Entry → Part
value_part e = part e.start e.len
