-- A node whose bit is set comes after those listed.
use Rattle.std.proofs.Common.{◌+◌, ◌∙◌, arith, sym, subst}
use Rattle.outcome.specs.Signing.{has_bit}
use Rattle.report.proofs.Counting.{Listed, none_listed, not_listed, one_listed}
use Rattle.report.proofs.listing.nodes_in.Goals as goal
use Rattle.report.proofs.listing.nodes_in.Goals.{then-has_bit, else-has_bit}

pub loop-j-init : goal.loop-j-init
loop-j-init c = subst (Listed (has_bit c.args.mask) 0) (sym c.none-nodes.ensures) (none_listed (has_bit c.args.mask))

pub loop-j-preserved : goal.loop-j-preserved
loop-j-preserved c =
    let t = has_bit c.args.mask in
    let l = c.loop-j in
    elim c.if-has_bit.branch [
      | then-has_bit w ↦ subst (Listed t (l.j + 1)) (sym w.nodes-is) (one_listed t l.j l.nodes l.invariant (sym c.has_bit.ensures ∙ w.if-has_bit.true) (omega arith))
      | else-has_bit w ↦ subst (Listed t (l.j + 1)) (sym w.nodes-is) (not_listed t l.j l.nodes l.invariant (sym c.has_bit.ensures ∙ w.if-has_bit.false))
    ]
