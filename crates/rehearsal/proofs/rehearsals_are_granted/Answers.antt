-- The claim is the theorem.
use mathlib.Core.Path.{refl}
use Rattle.rehearsal.proofs.Signing.{rehearsals_granted}
use Rattle.rehearsal.proofs.rehearsals_are_granted.Goals as goal

pub returns : goal.returns
returns c = (refl, rehearsals_granted)
