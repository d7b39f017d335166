-- The claim is the theorem.
use mathlib.Core.Path.{refl}
use Rattle.agreement.proofs.AllCorrect.{all_correct_lem}
use Rattle.agreement.proofs.all_correct_is_granted.Goals as goal

pub returns : goal.returns
returns c = (refl, all_correct_lem)
