-- A run in bytes: n nodes that step in order, each on the course that `Node::new`, `open` and `step` give it, and close after round f + 1.
use Rattle.std.specs.Prelude.{ℕ, ◌+◌, Bool, List}
use Rattle.tray.specs.declared.Tray.{Tray}
use Rattle.node.specs.declared.Node.{Node}
use Rattle.step.specs.Course.{after, outbox}
use Rattle.closing.specs.Close.{new_log_of, close_number}

pub record Hall : Type 0 where
  -- n nodes, of which f may be faulty
  pub n : ℕ
  pub f : ℕ
  pub faulty : ℕ → Bool
  -- the tray that each node opens with
  pub tray : ℕ → Tray
  -- inbox i r: what node i is handed in round r
  pub inbox : ℕ → ℕ → List ℕ
  -- room i r: the length of the outbox lent to node i for what it sends in round r
  pub room : ℕ → ℕ → ℕ
  -- the old log, and the length of the output lent to each node's close
  pub old : List ℕ
  pub output : ℕ → ℕ

module _ (hall : Hall) where
  -- node i after r rounds
  abbrev pub node_after : (i r : ℕ) → Node
  node_after i r = after hall.n hall.f i (hall.tray i) (hall.inbox i) (hall.room i) r

  -- what node i sends in round r
  abbrev pub sends : (i r : ℕ) → List ℕ
  sends i r = outbox hall.n hall.f i (hall.tray i) (hall.inbox i) (hall.room i) r

  -- the number of the row that refuses node i's close after round f + 1, 0 where none does; and the log that it makes
  abbrev pub closes : (i : ℕ) → ℕ
  closes i = close_number (node_after i (hall.f + 1)) hall.old (hall.output i)

  abbrev pub log_of : (i : ℕ) → List ℕ
  log_of i = new_log_of (node_after i (hall.f + 1)) hall.old
