-- Three lines, each after the one before.
use Rattle.report.proofs.Printing.{put_writes, writes_as, writes_both, three_lines}
use borrow.Author.Rules.{rules}
use Rattle.report.proofs.lines.put_node.Goals as goal

pub returns : goal.returns
returns c =
    let a = c.put_number_line-a in
    let b = c.put_log-b in
    let d = c.put_signers-c in
    let two = writes_both _ _ _ a.result a.new.output (put_writes _ _ _ _ a.ensures) a.auto.output b.result _ b.ensures.0 in
    (writes_as _ _ _ _ _ (three_lines _ _ _) (writes_both _ _ _ _ _ two (search rules) d.result _ d.ensures), b.ensures.1)
