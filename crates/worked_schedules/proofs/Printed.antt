-- Document 01's own schedule is not bad, and what is printed of it is what the document prints, computed.
use Rattle.std.proofs.Common.{◌≡◌, Ok, refl}
use Rattle.schedule.specs.Forms.{form_of}
use Rattle.played.specs.Playing.{breach}
use Rattle.rehearsal.specs.Rehearsal.{rehearsal_of}
use Rattle.worked_schedules.specs.Document.{document, header, printed}
use Rattle.worked_schedules.proofs.Computing.{computing}

pub document_told : (form_of document ≡ Ok header) × (breach document 3 1 ≡ 0) × (rehearsal_of document ≡ printed)
unfolding computing
document_told = (refl, refl, refl)
