-- Before turn i the lines of the correct nodes below i stand over the front.
use Rattle.std.proofs.Common.{◌≡◌, length, get_or}
use Rattle.outcome.specs.Signing.{has_bit}
use Rattle.outcome.specs.Held.{log_at}
use Rattle.report.specs.Lines.{all_lines, lines_text, nodes_that}
use Rattle.report.specs.Report.{Writes}
use Rattle.report.specs.Listing.{AllEntries}
use Rattle.report.proofs.lines.put_nodes.Given as goal

abbrev pub invariant-loop-i : goal.invariant-loop-i
invariant-loop-i l =
    (length l.text ≡ length l.initial.text) × Writes (lines_text
    (all_lines (has_bit l.header.faulty) (log_at l.outcome.logs) (λ j. nodes_that (has_bit (get_or l.outcome.signers j 0)) l.header.n) l.i)) l.initial.text l.at l.text
    × AllEntries (has_bit l.header.faulty) (log_at l.outcome.logs) l.i
