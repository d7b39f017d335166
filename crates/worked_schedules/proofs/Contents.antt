-- What document 01's schedule holds, computed.
use Rattle.std.proofs.Common.{refl}
use Rattle.worked_schedules.specs.Contents.{DocumentContents}
use Rattle.worked_schedules.proofs.Computing.{computing}

pub document_contents : DocumentContents
unfolding computing
document_contents = (refl, refl, refl, refl, refl, refl, refl, refl)
