-- A list that could be read.
use Rattle.std.proofs.Common.{◌∙◌, ap, is_some}
use Rattle.schedule.proofs.Turns.{tray_is}
use Rattle.schedule.proofs.forms.is_tray.Goals as goal

pub returns : goal.returns
returns c = c.is_some.ensures ∙ ap (λ o. is_some o) c.line_list.ensures ∙ tray_is c.args.line.now
