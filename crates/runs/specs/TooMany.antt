-- "at most f faulty nodes of n" is needed: with f = 0 one faulty node hands one batch to node 1 and another to node 2, and two different logs are made.
use Rattle.std.specs.Prelude.{◌≡◌, false, [], ◌∷◌}
use Rattle.entries.specs.Fields.{entry}
use Rattle.runs.specs.Premises.{few}
use Rattle.runs.specs.Outcomes.{Needed, Makes}
use Rattle.runs.specs.Schedule.{Schedule, vote, sending, hall_of, breaks}

abbrev pub too_many : Schedule
too_many = record {
  n = 3;
  f = 0;
  faulty = 0 ∷ [];
  trays = [] ∷ (entry 1 5 40 ∷ []) ∷ (entry 2 5 60 ∷ []) ∷ [];
  sends = sending 1 0 1 (vote 0 (0 ∷ []) (entry 3 5 70 ∷ []) ∷ []) ∷ sending 1 0 2 (vote 0 (0 ∷ []) (entry 3 5 80 ∷ []) ∷ []) ∷ [];
}

pub record TooManyRuns : Type 0 where
  -- it shows no other node's vote
  pub rule : breaks too_many ≡ false ∷ false ∷ []
  pub node1 : Makes (hall_of too_many) 1 (entry 1 5 40 ∷ entry 2 5 60 ∷ entry 3 5 70 ∷ [])
  pub node2 : Makes (hall_of too_many) 2 (entry 1 5 40 ∷ entry 2 5 60 ∷ entry 3 5 80 ∷ [])
  pub needed : Needed few (hall_of too_many)
