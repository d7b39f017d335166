-- "in that round or before" is needed: where a vote may also be shown that its node sends in the next round, a node can be shown its own bit for a batch that it
-- keeps by that very vote. It passes the batch on with no bit more, so nobody else accepts it.
use Rattle.std.specs.Prelude.{ℕ, ◌≡◌, true, false, List, [], ◌∷◌}
use Rattle.rules.specs.Vote.{Batch}
use Rattle.entries.specs.Fields.{entry}
use Rattle.agreement.specs.Hall.{Hall}
use Rattle.agreement.specs.Rule.{has_sent}
use Rattle.runs.specs.Premises.{unforged}
use Rattle.runs.specs.Outcomes.{Needed, Makes}
use Rattle.runs.specs.Schedule.{vote, sending, Schedule, hall_of, breaks}

-- a batch of primary 0
abbrev pub batch : Batch
batch = entry 10 5 1 ∷ []

-- Nodes 0 and 1 are faulty. In round 2 node 0 shows node 2 a batch of its own, with node 2's own bit; node 1 is silent.
abbrev pub next_round : Schedule
next_round = record {
  n = 5;
  f = 2;
  faulty = 0 ∷ 1 ∷ [];
  trays = [] ∷ [] ∷ (entry 2 5 60 ∷ []) ∷ (entry 3 5 70 ∷ []) ∷ [] ∷ [];
  sends = sending 2 0 2 (vote 0 (0 ∷ 2 ∷ []) batch ∷ []) ∷ [];
}

abbrev pub hall : Hall
hall = hall_of next_round

-- the log without it, and with it
abbrev pub without_it : List ℕ
without_it = entry 2 5 60 ∷ entry 3 5 70 ∷ []

abbrev pub with_it : List ℕ
with_it = entry 2 5 60 ∷ entry 3 5 70 ∷ entry 10 5 1 ∷ []

pub record NextRoundRuns : Type 0 where
  -- node 2 has not sent it by round 2, and sends it in round 3
  pub rule : breaks next_round ≡ true ∷ []
  pub not_yet : has_sent hall 2 2 0 batch ≡ false
  pub next : has_sent hall 3 2 0 batch ≡ true
  pub node2 : Makes hall 2 with_it
  pub node3 : Makes hall 3 without_it
  pub node4 : Makes hall 4 without_it
  pub needed : Needed unforged hall
