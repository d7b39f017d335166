-- The claim is what was computed.
use mathlib.Core.Path.{refl}
use Rattle.worked_schedules.proofs.Forms.{forms}
use Rattle.worked_schedules.proofs.Contents.{document_contents}
use Rattle.worked_schedules.proofs.Printed.{document_told}
use Rattle.worked_schedules.proofs.worked_schedules_hold.Goals as goal

pub returns : goal.returns
returns c = (
  refl,
  record {
    header_forms = forms.0;
    tray_forms = forms.1;
    send_forms = forms.2;
    contents = document_contents;
    not_bad = (document_told.0, document_told.1);
    prints = document_told.2;
  },
)
