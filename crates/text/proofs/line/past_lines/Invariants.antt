use Rattle.std.proofs.Common.{◌≡◌, drop}
use Rattle.text.specs.Lines.{lines_of}
use Rattle.text.proofs.line.past_lines.Given as goal

abbrev pub invariant-loop : goal.invariant-loop
invariant-loop l = lines_of l.rest ≡ drop l.counter (lines_of l.s)
