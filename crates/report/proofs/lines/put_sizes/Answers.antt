-- Two lines, the second after the first.
use Rattle.report.proofs.Printing.{put_writes, writes_as, writes_both, two_lines}
use Rattle.report.proofs.lines.put_sizes.Goals as goal

pub returns : goal.returns
returns c =
    let a = c.put_number_line-a in
    let b = c.put_number_line-b in
    writes_as _ _ _ _ _ (two_lines _ _) (writes_both _ _ _ a.result a.new.output (put_writes _ _ _ _ a.ensures) a.auto.output b.result _ (put_writes _ _ _ _ b.ensures))
