-- "Old logs are empty." Each node closes; the program numbers the distinct logs of the correct nodes, each of them signs, and counts who signed its mark.
use Rattle.std.specs.Prelude.{ℕ, ◌≤◌, ◌<◌, ◌≡◌, false, List, get_or}
use Rattle.rules.specs.Sizes.{nodes_most}
use Rattle.node.specs.State.{node_at}
use Rattle.node.specs.declared.Node.{Node}
use Rattle.outcome.specs.Logs.{made_log}
use Rattle.outcome.specs.Signing.{has_bit, mask_at}
use Rattle.outcome.specs.Held.{AllHeld}
use Rattle.outcome.specs.declared.Outcome.{Outcome}

-- what `outcome_of` promises: the log that each node makes, and for each correct node of n the signers that it counts
pub record ComesTo (n f faulty : ℕ) (nodes : List Node) (answer : Outcome) : Type 0 where
  pub made : AllHeld (λ j. made_log (node_at nodes j)) nodes_most answer.logs
  pub signed : n ≤ nodes_most → (i : ℕ) → i < n → has_bit faulty i ≡ false → get_or answer.signers i 0 ≡ mask_at n f (has_bit faulty) (λ j. made_log (node_at nodes j)) i
