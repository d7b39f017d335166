-- "with room enough" is needed for what a step passes on: a node whose outbox of round 2 is one byte too short is refused its step of round 1, and is not at the
-- end of its rounds when it closes.
use Rattle.std.specs.Prelude.{◌≡◌, cond, ◌&&◌, [], ◌∷◌, eqb, length}
use Rattle.wire.specs.Sizes.{message_most}
use Rattle.wire.specs.Message.{message_bytes}
use Rattle.entries.specs.Fields.{entry}
use Rattle.agreement.specs.Hall.{Hall, sends, closes}
use Rattle.runs.specs.Premises.{step_room}
use Rattle.runs.specs.Outcomes.{Needed, Makes}
use Rattle.runs.specs.Schedule.{sending}
use Rattle.runs.specs.Handed.{opening1, opening2, passed1, passed2, hall}

-- node 1 would pass on twelve bytes, and is lent eleven: it sends nothing in round 2. Everything that is sent arrives.
abbrev pub no_room : Hall
no_room = hall (sending 1 1 2 opening1 ∷ sending 1 2 1 opening2 ∷ sending 2 2 1 passed2 ∷ []) (λ i r. cond (eqb i 1 && eqb r 2) 11 message_most)

pub record NoRoomRuns : Type 0 where
  pub twelve : length (message_bytes passed1) ≡ 12
  pub sent : sends no_room 1 2 ≡ []
  pub node1 : closes no_room 1 ≡ 3
  pub node2 : Makes no_room 2 (entry 1 5 40 ∷ entry 2 5 60 ∷ [])
  pub needed : Needed step_room no_room
