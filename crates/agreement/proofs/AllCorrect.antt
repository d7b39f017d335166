-- A run of all correct nodes keeps what demand 3 grants: there is no faulty node to count or to show anything.
use mathlib.Core.Path.{refl}
use mathlib.Core.List.{[]}
use native.Mathlib.Omega.{arith}
use Rattle.laws.proofs.Tests.{clash}
use Rattle.laws.proofs.Count.{count_none}
use Rattle.agreement.specs.AllCorrect.{none_faulty, AllCorrectGranted}
use Rattle.agreement.proofs.Carried.{carried_granted}

pub all_correct_lem : AllCorrectGranted
all_correct_lem n f nodes above tray sound entries old well_formed =
    carried_granted n f none_faulty tray (λ r j i. []) old
    (record {
      nodes = nodes;
      above = above;
      trays = λ i ci. sound i ci.node;
      entries = λ i ci. entries i ci.node;
      messages = λ i j r ci fj b. absurd (clash fj.lies refl);
    })
    (omega (arith, count_none n)) well_formed (λ i j r ci fj b. absurd (clash fj.lies refl))
