-- What the calls answer of what was found: on a refusal the verdict alone. Assumes nothing.
use Rattle.std.specs.Prelude.{ℕ, Option, Some, None, Result, Ok, Err}
use Rattle.paper.specs.Outcome.{verdict}
use Rattle.paper.specs.declared.Cited.{Cited}
use Rattle.paper.specs.declared.Part.{Part}
use Rattle.paper.specs.declared.Text.{Text}
use Rattle.paper.specs.declared.Verdict.{Verdict}

-- a citation
abbrev pub cited_by : Result Part Verdict → Cited
cited_by (Ok p) = record { verdict = verdict 0 0; start = p.start; len = p.len }
cited_by (Err v) = record { verdict = v; start = 0; len = 0 }

-- a metadata text of the file
abbrev pub text_by : Result Part Verdict → Text
text_by (Ok p) = record { verdict = verdict 0 0; from = 0; start = p.start; len = p.len }
text_by (Err v) = record { verdict = v; from = 0; start = 0; len = 0 }

-- a metadata text of the file, or the m bytes outside
abbrev pub text_or : ℕ → Result (Option Part) Verdict → Text
text_or m (Ok (Some p)) = record { verdict = verdict 0 0; from = 0; start = p.start; len = p.len }
text_or m (Ok None) = record { verdict = verdict 0 0; from = 1; start = 0; len = m }
text_or m (Err v) = record { verdict = v; from = 0; start = 0; len = 0 }
