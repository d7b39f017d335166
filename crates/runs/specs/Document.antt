-- Document 01's own schedule: it keeps what demand 3 grants, and both correct nodes make the log that it prints.
use Rattle.std.specs.Prelude.{ℕ, ◌≡◌, false, List, [], ◌∷◌}
use Rattle.wire.specs.Message.{message_bytes}
use Rattle.entries.specs.Fields.{entry}
use Rattle.agreement.specs.Granted.{Granted}
use Rattle.runs.specs.Outcomes.{Makes}
use Rattle.runs.specs.Schedule.{vote, Schedule, hall_of, breaks}

-- 000101000003000500000046
abbrev pub twelve : List ℕ
twelve = 0x00 ∷ 0x01 ∷ 0x01 ∷ 0x00 ∷ 0x00 ∷ 0x03 ∷ 0x00 ∷ 0x05 ∷ 0x00 ∷ 0x00 ∷ 0x00 ∷ 0x46 ∷ []

abbrev pub schedule : Schedule
schedule = record {
  n = 3;
  f = 1;
  faulty = 0 ∷ [];
  trays = [] ∷ (entry 1 5 40 ∷ []) ∷ (entry 2 5 60 ∷ []) ∷ [];
  sends = record { round = 1; from = 0; to = 1; message = twelve } ∷ [];
}

-- "log=1.5.40,2.5.60,3.5.70"
abbrev pub printed : List ℕ
printed = entry 1 5 40 ∷ entry 2 5 60 ∷ entry 3 5 70 ∷ []

pub record ScheduleRuns : Type 0 where
  -- the twelve bytes are the message of one vote
  pub bytes : message_bytes (vote 0 (0 ∷ []) (entry 3 5 70 ∷ []) ∷ []) ≡ twelve
  pub node1 : Makes (hall_of schedule) 1 printed
  pub node2 : Makes (hall_of schedule) 2 printed
  pub rule : breaks schedule ≡ false ∷ []
  pub granted : Granted (hall_of schedule)
