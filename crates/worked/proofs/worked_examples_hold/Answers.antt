-- The claim is what was computed.
use mathlib.Core.Path.{refl}
use Rattle.worked.proofs.Computed.{worked_examples}
use Rattle.worked.proofs.worked_examples_hold.Goals as goal

pub returns : goal.returns
returns c = (refl, worked_examples)
