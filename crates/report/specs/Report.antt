-- What the rehearsal prints of a run that is over: "n, f, then for each correct node, ascending, its number, log and signers".
use Rattle.std.specs.Prelude.{ℕ, ◌*◌, ◌<◌, ◌≤◌, ◌≡◌, Bool, List, length}
use Rattle.laws.specs.Parts.{onto}
use Rattle.node.specs.State.{node_at}
use Rattle.rules.specs.Sizes.{nodes_most}
use Rattle.node.specs.declared.Node.{Node}
use Rattle.outcome.specs.Logs.{made_log}
use Rattle.outcome.specs.Signing.{has_bit}
use Rattle.report.specs.Lines.{lines_text, report_lines}

-- the whole text; node i: the state of node i after round f + 1, where it is correct
abbrev pub report_of : (n f : ℕ) (faulty : ℕ → Bool) (node : ℕ → Node) → List ℕ
report_of n f faulty node = lines_text (report_lines n f faulty (λ (i : ℕ). made_log (node i)))

-- bytes of a report, at most: 6,144 for each of sixteen nodes
abbrev pub text_most : ℕ
text_most = 6144 * nodes_most

-- w is to be written over the front of a text that has room for it: how many bytes are, and the text afterwards
pub record Writes (w text : List ℕ) (answer : ℕ) (after : List ℕ) : Type 0 where
  pub within : answer ≤ length text
  pub answers : length w ≤ length text → answer ≡ length w
  pub leaves : length w ≤ length text → after ≡ onto w text

-- what `report_into` promises: the whole text where there is room for it, and how much room that is at most; nothing is written of more than sixteen nodes
pub record Reports (n f faulty : ℕ) (nodes : List Node) (text : List ℕ) (answer : ℕ) (after : List ℕ) : Type 0 where
  pub writes : n ≤ nodes_most → Writes (report_of n f (has_bit faulty) (node_at nodes)) text answer after
  pub most : n ≤ nodes_most → f ≤ nodes_most → length (report_of n f (has_bit faulty) (node_at nodes)) ≤ text_most
  pub nothing : nodes_most < n → answer ≡ 0
  pub untouched : nodes_most < n → after ≡ text
