-- Before turn i the logs of the correct nodes below i are numbered.
use Rattle.outcome.specs.Signing.{has_bit}
use Rattle.outcome.specs.Held.{log_at, Numbered}
use Rattle.outcome.proofs.marks.number_all.Given as goal

abbrev pub invariant-loop-i : goal.invariant-loop-i
invariant-loop-i l = Numbered (has_bit l.header.faulty) (log_at l.logs) l.i l.numbers
