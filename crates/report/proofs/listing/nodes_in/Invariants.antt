-- Before turn j the nodes below j whose bit is set are listed.
use Rattle.outcome.specs.Signing.{has_bit}
use Rattle.report.proofs.Counting.{Listed}
use Rattle.report.proofs.listing.nodes_in.Given as goal

abbrev pub invariant-loop-j : goal.invariant-loop-j
invariant-loop-j l = Listed (has_bit l.mask) l.j l.nodes
