-- "n above 2f" is needed: of two nodes, one of them faulty and silent, the other is not even made. Were it made, it would be its only signer, where f + 1 are two.
use Rattle.std.specs.Prelude.{ℕ, ◌*◌, ◌≡◌, false, List, [], ◌∷◌, replicate}
use Rattle.std.specs.Int.Count.{ones}
use Rattle.rules.specs.Signers.{Mark, signers_of, enough}
use Rattle.entries.specs.Fields.{entry}
use Rattle.node.specs.State.{new_number}
use Rattle.signing.specs.Slots.{mark_size, slot_size, slot_of}
use Rattle.signing.specs.Count.{signers_number}
use Rattle.agreement.specs.Hall.{closes}
use Rattle.runs.specs.Premises.{above}
use Rattle.runs.specs.Outcomes.{Needed}
use Rattle.runs.specs.Schedule.{Schedule, hall_of}

abbrev pub half_faulty : Schedule
half_faulty = record { n = 2; f = 1; faulty = 0 ∷ []; trays = [] ∷ (entry 1 5 40 ∷ []) ∷ []; sends = [] }

abbrev pub mark : Mark
mark = replicate mark_size 0

-- two slots, both silent; node 1's own is not read
abbrev pub slots : List ℕ
slots = replicate (2 * slot_size) 0

pub record HalfFaultyRuns : Type 0 where
  -- 2 and 1 are not taken: a node of zeros closes, and is not sound
  pub not_made : new_number 2 1 1 ≡ 1
  pub node1 : closes (hall_of half_faulty) 1 ≡ 2
  pub needed : Needed above (hall_of half_faulty)
  pub refused : signers_number 2 1 1 mark slots ≡ 1
  -- whatever the sizes say, it is its only signer
  pub alone : signers_of 2 1 mark (slot_of slots) ≡ 2
  pub one : ones (signers_of 2 1 mark (slot_of slots)) ≡ 1
  pub too_few : enough 1 (signers_of 2 1 mark (slot_of slots)) ≡ false
