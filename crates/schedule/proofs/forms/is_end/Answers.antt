-- The key alone, and LF.
use Rattle.std.proofs.Common.{◌∙◌, sym}
use Rattle.schedule.proofs.Turns.{end_no, end_yes}
use Rattle.schedule.proofs.forms.is_end.Goals as goal

pub returns-then-keyed : goal.returns-then-keyed
returns-then-keyed c = sym (end_yes c.args.line.now (sym c.if-keyed.ensures))

pub returns-else-keyed : goal.returns-else-keyed
returns-else-keyed c =
    let no = sym c.if-keyed.ensures in c.keyed.ensures ∙ no ∙ sym (end_no c.args.line.now no)
