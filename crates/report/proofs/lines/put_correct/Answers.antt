-- Of a faulty node nothing is written; of a correct one its lines.
use mathlib.Core.Path.{sym, ◌∙◌}
use Rattle.laws.proofs.Tests.{clash}
use Rattle.outcome.specs.Signing.{has_bit}
use Rattle.report.specs.Lines.{node_lines, nodes_that}
use Rattle.report.proofs.Printing.{writes_as, writes_none, faulty_prints_none}
use Rattle.report.proofs.lines.put_correct.Goals as goal

pub returns-then-is_faulty : goal.returns-then-is_faulty
returns-then-is_faulty c =
    let a = c.args in
    let faulty = sym c.is_faulty.ensures ∙ c.if-is_faulty.true in (
      writes_as _ _ _ _ _ (faulty_prints_none a.header.faulty a.i (node_lines a.i a.log.now (nodes_that (has_bit a.mask) a.header.n)) faulty)
          (writes_none a.text.now),
      λ f. absurd (clash faulty f),
    )
