-- The claim is the theorem.
use mathlib.Core.Path.{refl}
use Rattle.rehearsal.proofs.Agreed.{rehearsals_agree_lem}
use Rattle.rehearsal.proofs.rehearsals_agree.Goals as goal

pub returns : goal.returns
returns c = (refl, rehearsals_agree_lem)
