-- The claim is the theorem.
use mathlib.Core.Path.{refl}
use Rattle.agreement.proofs.Calls.{calls_give}
use Rattle.agreement.proofs.calls_give_the_run.Goals as goal

pub returns : goal.returns
returns c = (refl, calls_give)
