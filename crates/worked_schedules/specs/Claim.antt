-- Document 01's schedule has a good form, breaks no rule and prints what the document prints; schedules that are bad in each way have the forms that it says.
use Rattle.std.specs.Prelude.{◌≡◌, Ok}
use Rattle.schedule.specs.Forms.{form_of}
use Rattle.played.specs.Playing.{breach}
use Rattle.rehearsal.specs.Rehearsal.{rehearsal_of}
use Rattle.worked_schedules.specs.Document.{document, header, printed}
use Rattle.worked_schedules.specs.Forms.{HeaderForms, TrayForms, SendForms}
use Rattle.worked_schedules.specs.Contents.{DocumentContents}

pub record WorkedSchedules : Type 0 where
  pub header_forms : HeaderForms
  pub tray_forms : TrayForms
  pub send_forms : SendForms
  pub contents : DocumentContents
  pub not_bad : (form_of document ≡ Ok header) × (breach document 3 1 ≡ 0)
  pub prints : rehearsal_of document ≡ printed
