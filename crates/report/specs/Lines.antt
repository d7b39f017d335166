-- "Output, whole: n, f, then for each correct node, ascending, its number, log and signers; an empty log is `log=`."
use Rattle.std.specs.Prelude.{ℕ, Bool, cond, List, [], ◌∷◌, ◌++◌}
use Rattle.rules.specs.Step.{gather}
use Rattle.print.specs.Texts.{decimal_of, list_text, line_text}
use Rattle.print.specs.declared.Items.TheVariants.{Nodes, Entries}
use Rattle.header.specs.Keys.{nodes_key, faults_key}
use Rattle.outcome.specs.Signing.{has_bit, mask_at}

-- a line: a key with its `=`, and a value
pub record Line : Type 0 where
  pub key : List ℕ
  pub value : List ℕ

abbrev pub line : (key value : List ℕ) → Line
line key value = record { key = key; value = value }

-- the text of some lines
unfoldable pub lines_text : List Line → List ℕ
lines_text [] = []
lines_text (l ∷ ls) = line_text l.key l.value ++ lines_text ls

-- node=
abbrev pub node_key : List ℕ
node_key = 110 ∷ 111 ∷ 100 ∷ 101 ∷ 61 ∷ []

-- log=
abbrev pub log_key : List ℕ
log_key = 108 ∷ 111 ∷ 103 ∷ 61 ∷ []

-- signers=
abbrev pub signers_key : List ℕ
signers_key = 115 ∷ 105 ∷ 103 ∷ 110 ∷ 101 ∷ 114 ∷ 115 ∷ 61 ∷ []

-- the lines of the sizes
abbrev pub sizes_lines : (n f : ℕ) → List Line
sizes_lines n f = line nodes_key (decimal_of n) ∷ line faults_key (decimal_of f) ∷ []

-- the lines of node i, with its log and signers
abbrev pub node_lines : (i : ℕ) (log signers : List ℕ) → List Line
node_lines i log signers = line node_key (decimal_of i) ∷ line log_key (list_text Entries log) ∷ line signers_key (list_text Nodes signers) ∷ []

-- the lines of each correct node of n; log i, signers i: those of node i, where it is correct
unfoldable pub all_lines : (faulty : ℕ → Bool) (log signers : ℕ → List ℕ) (n : ℕ) → List Line
all_lines faulty log signers n = gather (λ (i : ℕ). cond (faulty i) [] (node_lines i (log i) (signers i))) n

-- those of n nodes that pass the test, ascending
unfoldable pub nodes_that : (ℕ → Bool) → (n : ℕ) → List ℕ
nodes_that t n = gather (λ (j : ℕ). cond (t j) (j ∷ []) []) n

-- the signers of node i's log, as that node counts them
abbrev pub signers_at : (n f : ℕ) (faulty : ℕ → Bool) (log : ℕ → List ℕ) (i : ℕ) → List ℕ
signers_at n f faulty log i = nodes_that (has_bit (mask_at n f faulty log i)) n

-- all lines
abbrev pub report_lines : (n f : ℕ) (faulty : ℕ → Bool) (log : ℕ → List ℕ) → List Line
report_lines n f faulty log = sizes_lines n f ++ all_lines faulty log (signers_at n f faulty log) n
