-- Where a run stands: the nodes' states before a round, and what they send in it.
use Rattle.std.specs.Prelude.{ℕ, zero, suc, Bool, not, ◌&&◌, cond, List, [], ◌∷◌, ltb, replicate}
use Rattle.rules.specs.Sizes.{nodes_most}
use Rattle.rules.specs.Refusals.{if_done}
use Rattle.rules.specs.Step.{gather}
use Rattle.wire.specs.Sizes.{message_most}
use Rattle.wire.specs.Message.{message_bytes}
use Rattle.node.specs.State.{fresh}
use Rattle.node.specs.declared.Node.{Node}
use Rattle.step.specs.Step.{passed_by, stepped_node, step_number}
use Rattle.agreement.specs.Hall.{Hall, node_after, sends}
use Rattle.inboxes.specs.Inboxes.{outbox_of}
use Rattle.standing.specs.declared.Stood.{Stood}
use Rattle.standing.specs.declared.Standing.{Standing}

-- one node and what it sends
abbrev pub stood_of : Node → List ℕ → Stood
stood_of s m = record { node = s; outbox = outbox_of m }

-- a number that no correct node has
abbrev pub nobody : Node
nobody = fresh 0 0 0

abbrev pub no_nodes : List Node
no_nodes = replicate nodes_most nobody

-- before the opening
abbrev pub unopened : Standing
unopened = record { next = 0; nodes = no_nodes; outboxes = replicate nodes_most (outbox_of []) }

-- a node and what it sends once it has taken its step
abbrev pub stepped_to : Node → List ℕ → Stood
stepped_to s inbox =
    stood_of (if_done (step_number s inbox message_most) (stepped_node s inbox) s)
    (if_done (step_number s inbox message_most) (message_bytes (passed_by s inbox)) [])

module _ (hall : Hall) where
  -- i is the number of a correct node
  abbrev pub correct : ℕ → Bool
  correct i = ltb i hall.n && not (hall.faulty i)

  -- node i before round k; round 0 stands for the opening
  unfoldable pub node_before : (i k : ℕ) → Node
  node_before i zero = nobody
  node_before i (suc r) = node_after hall i r

  -- the correct nodes before round k, by number, and what they send in round k; zeros for every other number
  abbrev pub stood_at : (k i : ℕ) → Stood
  stood_at k i = cond (correct i) (stood_of (node_before i k) (sends hall i k)) (stood_of nobody [])

  abbrev pub standing : ℕ → Standing
  standing k = record {
    next = k;
    nodes = gather (λ (i : ℕ). (stood_at k i).node ∷ []) nodes_most;
    outboxes = gather (λ (i : ℕ). (stood_at k i).outbox ∷ []) nodes_most;
  }
