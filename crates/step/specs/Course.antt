-- A node's course: the states and outboxes that `Node::new`, `open` and `step` give over any tray, inboxes and outbox lengths. "A refusal returns the
-- number and nothing else of use [..]; tray, state and outputs stay unchanged."
use Rattle.std.specs.Prelude.{ℕ, zero, suc, List, []}
use Rattle.rules.specs.Refusals.{if_done}
use Rattle.wire.specs.Record.{record_bytes}
use Rattle.wire.specs.Message.{message_bytes}
use Rattle.tray.specs.declared.Tray.{Tray}
use Rattle.node.specs.State.{fresh, new_number}
use Rattle.node.specs.Opening.{opening_vote, opened_node, open_number}
use Rattle.node.specs.declared.Node.{Node}
use Rattle.step.specs.Step.{passed_by, stepped_node, step_number}

-- the node that is made
abbrev pub made : (n f me : ℕ) → Node
made n f me = if_done (new_number n f me) (fresh n f me) (fresh 0 0 0)

-- inbox r: what is received in round r; room r: the length of the outbox lent for what is sent in round r
module _ (n f me : ℕ) (tray : Tray) (inbox : ℕ → List ℕ) (room : ℕ → ℕ) where
  -- the node after so many rounds; after none, after the opening
  unfoldable pub after : ℕ → Node
  after zero = if_done (open_number (made n f me) tray (room 1)) (opened_node (made n f me) tray) (made n f me)
  after (suc r) = if_done (step_number (after r) (inbox (suc r)) (room (suc (suc r)))) (stepped_node (after r) (inbox (suc r))) (after r)

  -- what is sent in round r: in round 1 the opening, then what the step of the round before passes on; nothing where the call is refused
  unfoldable pub outbox : ℕ → List ℕ
  outbox zero = []
  outbox (suc zero) = if_done (open_number (made n f me) tray (room 1)) (record_bytes (opening_vote (made n f me) tray)) []
  outbox (suc (suc r)) = if_done (step_number (after r) (inbox (suc r)) (room (suc (suc r)))) (message_bytes (passed_by (after r) (inbox (suc r)))) []
