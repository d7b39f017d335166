-- "a message too long for its two length bytes comes as silence": document 01's schedule, in which the faulty node sends 65,536 bytes in round 2 and nothing else, keeps
-- what demand 3 grants, and the log is made without that node.
use Rattle.std.specs.Prelude.{◌≡◌, [], ◌∷◌, replicate}
use Rattle.wire.specs.Inbox.{message_of}
use Rattle.entries.specs.Fields.{entry}
use Rattle.agreement.specs.Granted.{Granted}
use Rattle.runs.specs.Outcomes.{Makes}
use Rattle.runs.specs.Schedule.{Schedule, hall_of}
use Rattle.runs.specs.Document.{schedule}

abbrev pub too_long : Schedule
too_long = record {
  n = 3;
  f = 1;
  faulty = 0 ∷ [];
  trays = schedule.trays;
  sends = record { round = 2; from = 0; to = 1; message = replicate 65536 0 } ∷ [];
}

pub record TooLongRuns : Type 0 where
  pub silence : message_of ((hall_of too_long).inbox 1 2) 0 ≡ []
  pub node1 : Makes (hall_of too_long) 1 (entry 1 5 40 ∷ entry 2 5 60 ∷ [])
  pub node2 : Makes (hall_of too_long) 2 (entry 1 5 40 ∷ entry 2 5 60 ∷ [])
  pub granted : Granted (hall_of too_long)
