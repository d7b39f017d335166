-- "Messages among correct nodes arrive whole in their round" is needed: where one of them is lost, two different logs are made.
use Rattle.std.specs.Prelude.{◌≡◌, [], ◌∷◌}
use Rattle.wire.specs.Sizes.{message_most}
use Rattle.wire.specs.Message.{message_bytes}
use Rattle.wire.specs.Inbox.{message_of}
use Rattle.entries.specs.Fields.{entry}
use Rattle.agreement.specs.Hall.{Hall, sends}
use Rattle.runs.specs.Premises.{whole}
use Rattle.runs.specs.Outcomes.{Needed, Makes}
use Rattle.runs.specs.Schedule.{sending}
use Rattle.runs.specs.Handed.{opening1, opening2, passed1, hall}

-- node 1's opening does not reach node 2; every other message between the two arrives
abbrev pub not_whole : Hall
not_whole = hall (sending 1 2 1 opening2 ∷ sending 2 1 2 passed1 ∷ []) (λ i r. message_most)

pub record NotWholeRuns : Type 0 where
  pub sent : sends not_whole 1 1 ≡ message_bytes opening1
  pub lost : message_of (not_whole.inbox 2 1) 1 ≡ []
  pub node1 : Makes not_whole 1 (entry 1 5 40 ∷ entry 2 5 60 ∷ [])
  pub node2 : Makes not_whole 2 (entry 2 5 60 ∷ [])
  pub needed : Needed whole not_whole
