-- Past three commas of the value.
use mathlib.Core.Path.{◌∙◌, ap}
use Rattle.text.specs.Places.{comma, past}
use Rattle.schedule.proofs.sends.message_text.Goals as goal

pub returns : goal.returns
returns c =
    c.past-2.ensures
    ∙ ap (past comma) (c.past.ensures ∙ ap (past comma) (c.past-after.ensures
    ∙ ap (past comma) c.value-v.ensures))
