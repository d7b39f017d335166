-- The lines of the sizes, then those of the nodes, by what the run comes to.
use native.Mathlib.Omega.{arith}
use Rattle.report.proofs.Printing.{writes_both}
use Rattle.report.proofs.Whole.{as_report}
use Rattle.report.proofs.report_into.Goals as goal

pub returns : goal.returns
returns c =
    let a = c.args in
    let o = c.outcome_of-outcome in
    let p = c.put_sizes-at in
    let q = c.put_nodes in
    as_report a.header.n a.header.f a.header.faulty a.nodes o.result o.ensures (omega arith) a.text.now _ _
    (writes_both _ _ _ p.result p.new.text p.ensures p.auto.text q.result _ q.ensures.0) q.ensures.1
