-- The text of a rehearsal, written over the front of one that has room for the longest.
use Rattle.std.specs.Prelude.{ℕ, ◌≤◌, ◌≡◌, List, length, Result, Ok, Err}
use Rattle.header.specs.declared.BadLine.{BadLine}
use Rattle.report.specs.Report.{text_most, Writes}
use Rattle.rehearsal.specs.Rehearsal.{bad_text, rehearsal_of}

-- w is to be written, and is no longer than the longest report
pub record Tells (w text : List ℕ) (answer : ℕ) (after : List ℕ) : Type 0 where
  pub writes : Writes w text answer after
  pub most : length w ≤ text_most

-- the text of what a run comes to is written; where a line is bad, the text is that line's, and nothing is written yet
abbrev pub TellsRun : (s text : List ℕ) → Result ℕ BadLine → (after : List ℕ) → Type 0
TellsRun s text (Ok size) after = Tells (rehearsal_of s) text size after
TellsRun s text (Err line) after = (rehearsal_of s ≡ bad_text line.0) × (after ≡ text)
