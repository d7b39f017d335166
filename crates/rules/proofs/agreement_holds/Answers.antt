-- The claim is the theorem.
use mathlib.Core.Path.{refl}
use Rattle.rules.proofs.Signed.{demand_3}
use Rattle.rules.proofs.agreement_holds.Goals as goal

pub returns : goal.returns
returns c = (refl, demand_3)
