-- A run in which a faulty node shows correct nodes' votes, sent in that round and before, while another primary equivocates: it keeps what demand 3 grants, and
-- all correct nodes make the same log.
use Rattle.std.specs.Prelude.{ℕ, ◌≡◌, true, false, List, [], ◌∷◌}
use Rattle.rules.specs.Vote.{Batch}
use Rattle.node.specs.State.{kept_for}
use Rattle.entries.specs.Fields.{entry}
use Rattle.agreement.specs.Hall.{Hall, node_after}
use Rattle.agreement.specs.Granted.{Granted}
use Rattle.agreement.specs.Rule.{has_sent}
use Rattle.runs.specs.Outcomes.{Makes}
use Rattle.runs.specs.Schedule.{vote, sending, Schedule, hall_of, breaks}

-- the two batches of primary 0, and the one of primary 1
abbrev pub early : Batch
early = entry 10 5 1 ∷ []

abbrev pub late : Batch
late = entry 10 5 2 ∷ []

abbrev pub other : Batch
other = entry 11 5 7 ∷ []

-- Nodes 0 and 1 are faulty. Primary 0 hands a batch to node 2 in round 1, and another, of which node 1 is a witness, to node 3 in round 2. Node 1 opens to node 2
-- alone. In round 3 it shows node 4 both batches: the first with node 2's bit, sent in round 2, the second with node 3's, sent in that very round.
abbrev pub shown : Schedule
shown = record {
  n = 5;
  f = 2;
  faulty = 0 ∷ 1 ∷ [];
  trays = [] ∷ [] ∷ (entry 2 5 60 ∷ []) ∷ (entry 3 5 70 ∷ []) ∷ (entry 4 5 80 ∷ []) ∷ [];
  sends =
      sending 1 0 2 (vote 0 (0 ∷ []) early ∷ [])
      ∷ sending 1 1 2 (vote 1 (1 ∷ []) other ∷ [])
      ∷ sending 2 0 3 (vote 0 (0 ∷ 1 ∷ []) late ∷ [])
      ∷ sending 3 1 4 (vote 0 (0 ∷ 1 ∷ 2 ∷ []) early ∷ vote 0 (0 ∷ 1 ∷ 3 ∷ []) late ∷ [])
      ∷ [];
}

abbrev pub hall : Hall
hall = hall_of shown

-- what the correct nodes opened with, and the batch of primary 1
abbrev pub log : List ℕ
log = entry 2 5 60 ∷ entry 3 5 70 ∷ entry 4 5 80 ∷ entry 11 5 7 ∷ []

pub record ShownRuns : Type 0 where
  -- node 2 has sent the first batch in round 2, node 3 the second in round 3 and not before
  pub before : has_sent hall 2 2 0 early ≡ true
  pub not_before : has_sent hall 2 3 0 late ≡ false
  pub that_round : has_sent hall 3 3 0 late ≡ true
  pub rule : breaks shown ≡ false ∷ false ∷ false ∷ false ∷ []
  pub granted : Granted hall
  -- after round 3 both batches of primary 0 are kept by each
  pub kept2 : kept_for (node_after hall 2 3) 0 ≡ early ∷ late ∷ []
  pub kept3 : kept_for (node_after hall 3 3) 0 ≡ late ∷ early ∷ []
  pub kept4 : kept_for (node_after hall 4 3) 0 ≡ early ∷ late ∷ []
  pub node2 : Makes hall 2 log
  pub node3 : Makes hall 3 log
  pub node4 : Makes hall 4 log
