-- A node's course is what its calls answer: whatever `Node::new`, `open`, `step` in rounds 1 to f + 1, and `close` answer by their promises, called in order.
use Rattle.std.specs.Prelude.{ℕ, suc, ◌+◌, ◌≤◌, ◌≡◌, List, length, take, Result}
use Rattle.std.specs.Result.{result_unwrap_or}
use Rattle.rules.specs.Refusals.{done}
use Rattle.rules.specs.Answers.{number_in}
use Rattle.rules.specs.declared.refusal.Refusal.{Refusal}
use Rattle.node.specs.State.{fresh, New}
use Rattle.node.specs.Opening.{Open}
use Rattle.node.specs.declared.Node.{Node}
use Rattle.step.specs.Step.{Step}
use Rattle.step.specs.declared.Stepped.{Stepped}
use Rattle.closing.specs.Close.{Close}
use Rattle.agreement.specs.Hall.{Hall, node_after, sends, closes, log_of}
use Rattle.agreement.specs.Granted.{Round}

-- the node that is made, or a node of zeros where none is
abbrev pub node_in : Result Node Refusal → Node
node_in made = result_unwrap_or made (fresh 0 0 0)

-- how much a call wrote: nothing where it is refused
abbrev pub length_in : Result ℕ Refusal → ℕ
length_in answer = result_unwrap_or answer 0

abbrev pub stepped_length : Result Stepped Refusal → ℕ
stepped_length answer = (result_unwrap_or answer (record { length = 0; unreadable = 0 })).length

-- node i's calls in order: state r is the node after r rounds, stepped r what the step of round r + 1 answers, lent r the outbox lent for what is sent in round r,
-- back r that outbox afterwards
pub record Calls (hall : Hall) (i : ℕ) : Type 0 where
  pub made : Result Node Refusal
  pub opened : Result ℕ Refusal
  pub stepped : ℕ → Result Stepped Refusal
  pub closed : Result ℕ Refusal
  pub state : ℕ → Node
  pub lent : ℕ → List ℕ
  pub back : ℕ → List ℕ
  pub output : List ℕ
  pub written : List ℕ
  pub opening_room : length (lent 1) ≡ hall.room i 1
  pub rooms : (r : ℕ) → Round hall (suc r) → length (lent (suc (suc r))) ≡ hall.room i (suc (suc r))
  pub output_room : length output ≡ hall.output i
  -- what each call promises; each is lent the very node that the one before left
  pub news : New hall.n hall.f i made
  pub opens : Open (node_in made) (hall.tray i) (lent 1) opened (state 0) (back 1)
  pub steps : (r : ℕ) → Round hall (suc r) → Step (state r) (hall.inbox i (suc r)) (lent (suc (suc r))) (stepped r) (state (suc r)) (back (suc (suc r)))
  pub closing : Close (state (hall.f + 1)) hall.old output closed written

-- they give the run's nodes, outboxes and logs
pub record Gives (hall : Hall) (i : ℕ) (calls : Calls hall i) : Type 0 where
  pub nodes : (r : ℕ) → r ≤ hall.f + 1 → calls.state r ≡ node_after hall i r
  pub opening : take (length_in calls.opened) (calls.back 1) ≡ sends hall i 1
  pub outboxes : (r : ℕ) → Round hall (suc r) → take (stepped_length (calls.stepped r)) (calls.back (suc (suc r))) ≡ sends hall i (suc (suc r))
  pub number : number_in calls.closed ≡ closes hall i
  pub log : closes hall i ≡ done → take (length_in calls.closed) calls.written ≡ log_of hall i

abbrev pub CallsGive : Type 0
CallsGive = (hall : Hall) (i : ℕ) (calls : Calls hall i) → Gives hall i calls
