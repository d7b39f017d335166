-- What is printed goes by the correct nodes' logs: nodes that are faulty alike and, where correct, have the same logs, print the same.
use Prim.Native.Nat.{ℕ, ◌<◌}
use mathlib.Core.Path.{◌≡◌, ap, ap₂}
use mathlib.Core.Bool.{Bool, false, cond}
use mathlib.Core.List.{List, [], ◌++◌}
use Rattle.rules.proofs.Inbox.{gather_same}
use Rattle.node.specs.declared.Node.{Node}
use Rattle.outcome.specs.Logs.{made_log}
use Rattle.outcome.specs.Signing.{has_bit}
use Rattle.outcome.proofs.Alike.{by_correct, masks_same}
use Rattle.report.specs.Lines.{Line, lines_text, sizes_lines, node_lines, all_lines, nodes_that, signers_at, report_lines}
use Rattle.report.specs.Report.{report_of}

module _ (n : ℕ) (t u : ℕ → Bool) (faulty : (j : ℕ) → j < n → t j ≡ u j) where
  pub lines_same : (log log' signers signers' : ℕ → List ℕ) → ((j : ℕ) → j < n → t j ≡ false → log j ≡ log' j) → ((j : ℕ) → j < n → t j ≡ false → signers j ≡ signers' j)
      → all_lines t log signers n ≡ all_lines u log' signers' n
  unfolding all_lines
  lines_same log log' signers signers' e s =
      gather_same (λ (i : ℕ). cond (t i) [] (node_lines i (log i) (signers i))) (λ (i : ℕ). cond (u i) [] (node_lines i (log' i) (signers' i))) n
      (by_correct n t u faulty _ (λ i. node_lines i (log i) (signers i)) (λ i. node_lines i (log' i) (signers' i)) (λ j l f. ap₂ (node_lines j) (e j l f) (s j l f)))

  module _ (log log' : ℕ → List ℕ) (logs : (j : ℕ) → j < n → t j ≡ false → log j ≡ log' j) where
    signers_same : (f j : ℕ) → j < n → t j ≡ false → signers_at n f t log j ≡ signers_at n f u log' j
    signers_same f j l e = ap (λ (m : ℕ). nodes_that (has_bit m) n) (masks_same n t u faulty log log' logs f j l e)

    report_same : (f : ℕ) → report_lines n f t log ≡ report_lines n f u log'
    report_same f = ap (λ (ls : List Line). sizes_lines n f ++ ls) (lines_same log log' (signers_at n f t log) (signers_at n f u log') logs (signers_same f))

  -- of nodes that are in the same states, where correct
  pub same_nodes : (node other : ℕ → Node) → ((j : ℕ) → j < n → t j ≡ false → node j ≡ other j) → (f : ℕ) → report_of n f t node ≡ report_of n f u other
  same_nodes node other e f = ap lines_text (report_same (λ j. made_log (node j)) (λ j. made_log (other j)) (λ j l p. ap made_log (e j l p)) f)
