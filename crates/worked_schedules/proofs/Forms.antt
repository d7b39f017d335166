-- The forms, computed.
use Rattle.std.proofs.Common.{refl}
use Rattle.worked_schedules.specs.Forms.{HeaderForms, TrayForms, SendForms}
use Rattle.worked_schedules.proofs.Computing.{computing}

pub forms : HeaderForms × TrayForms × SendForms
unfolding computing
forms = (
  (refl, refl, refl, refl, refl, refl, refl, refl, refl, refl, refl, refl),
  (refl, refl, refl, refl, refl),
  (refl, refl, refl, refl, refl, refl, refl, refl, refl, refl, refl, refl, refl, refl, refl),
)
