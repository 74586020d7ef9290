-- `first` asks where the first entry of a tag stands, and takes that entry. Assumes nothing.
use mathlib.Core.Path.{◌∙◌}
use Rattle.std.proofs.Common.{rules}
use Rattle.layout.proofs.Plain.{found-placed}
use Rattle.layout.proofs.Entries.first.Goals as goal

pub returns-in_err-i : goal.returns-in_err-i
returns-in_err-i c =
    let d = c.args.self.directory in
    (search rules) ∙ found-placed c.args.tag d.big d.at d.count c.args.self.bytes.now (c.in_err-i.ensures.place d.at)

pub returns : goal.returns
returns c =
    let d = c.args.self.directory in
    rw c.at.ensures.entry (found-placed c.args.tag d.big d.at d.count c.args.self.bytes.now (c.in_ok-i.ensures.place d.at))
