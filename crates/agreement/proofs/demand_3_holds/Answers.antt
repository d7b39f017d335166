-- The claim is the theorem.
use mathlib.Core.Path.{refl}
use Rattle.agreement.proofs.Demand3.{demand_3}
use Rattle.agreement.proofs.demand_3_holds.Goals as goal

pub returns : goal.returns
returns c = (refl, demand_3)
