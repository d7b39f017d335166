-- Unforgeability is needed: document 01's schedule with one vote more, which shows the bit of a correct node that never sent it, makes two different logs.
use Rattle.std.specs.Prelude.{◌≡◌, true, false, [], ◌∷◌}
use Rattle.entries.specs.Fields.{entry}
use Rattle.runs.specs.Premises.{unforged}
use Rattle.runs.specs.Outcomes.{Needed, Makes}
use Rattle.runs.specs.Schedule.{vote, sending, Schedule, hall_of, breaks}
use Rattle.runs.specs.Document.{schedule, twelve, printed}

-- in round 2 node 0 shows node 1 alone a second batch of its own, with node 2's bit
abbrev pub forged : Schedule
forged = record {
  n = 3;
  f = 1;
  faulty = 0 ∷ [];
  trays = schedule.trays;
  sends = record { round = 1; from = 0; to = 1; message = twelve } ∷ sending 2 0 1 (vote 0 (0 ∷ 2 ∷ []) (entry 3 5 80 ∷ []) ∷ []) ∷ [];
}

pub record ForgedRuns : Type 0 where
  pub rule : breaks forged ≡ false ∷ true ∷ []
  -- node 1 keeps two batches of primary 0 and decides empty, node 2 keeps one
  pub node1 : Makes (hall_of forged) 1 (entry 1 5 40 ∷ entry 2 5 60 ∷ [])
  pub node2 : Makes (hall_of forged) 2 printed
  pub needed : Needed unforged (hall_of forged)
