-- Of every schedule that is not bad, all printed logs are the same log, at most 4,096 entries that ascend strictly, with every entry of every correct node's tray,
-- and every printed `signers` is exactly the correct nodes, f + 1 or more.
use Rattle.std.specs.Prelude.{ℕ, ◌+◌, ◌≤◌, ◌<◌, ◌≡◌, true, false, not, cond, List, [], ◌++◌, length, Ok}
use Rattle.laws.specs.Members.{In}
use Rattle.rules.specs.Sizes.{is_log}
use Rattle.rules.specs.Step.{gather}
use Rattle.rules.specs.Signers.{Mark}
use Rattle.agreement.specs.Hall.{node_after}
use Rattle.agreement.specs.Granted.{Correct, Granted, Counting, Signing}
use Rattle.schedule.specs.Forms.{form_of}
use Rattle.header.specs.declared.Header.{Header}
use Rattle.contents.specs.Contents.{is_faulty, entries_of_tray}
use Rattle.standing.specs.Run.{hall_of}
use Rattle.played.specs.Playing.{breach}
use Rattle.outcome.specs.Logs.{made_log}
use Rattle.outcome.specs.Marks.{mark_at}
use Rattle.outcome.specs.Spoken.{slots_at}
use Rattle.report.specs.Lines.{lines_text, sizes_lines, node_lines, nodes_that}
use Rattle.rehearsal.specs.Rehearsal.{rehearsal_of}

-- the correct nodes of n
abbrev pub correct_nodes : (s : List ℕ) (n : ℕ) → List ℕ
correct_nodes s n = nodes_that (λ (j : ℕ). not (is_faulty s j)) n

-- n, f, then for each correct node its number, this log and these signers
abbrev pub one_text : (s : List ℕ) (n f : ℕ) (log signers : List ℕ) → List ℕ
one_text s n f log signers = lines_text (sizes_lines n f ++ gather (λ (i : ℕ). cond (is_faulty s i) [] (node_lines i log signers)) n)

pub record OneLog (s : List ℕ) (n f : ℕ) (log : List ℕ) : Type 0 where
  pub prints : rehearsal_of s ≡ one_text s n f log (correct_nodes s n)
  -- "A log is at most 4,096 entries, strictly ascending."
  pub well_formed : is_log log ≡ true
  pub opened_in : (c e : ℕ) → c < n → is_faulty s c ≡ false → In e (entries_of_tray s c) → In e log
  pub enough : f + 1 ≤ length (correct_nodes s n)

abbrev pub RehearsalsAgree : Type 0
RehearsalsAgree = (s : List ℕ) (h : Header) → form_of s ≡ Ok h → breach s h.n h.f ≡ 0 → (log : List ℕ) × OneLog s h.n h.f log

-- ---- such a schedule is a run that demand 3 grants, signing included

module _ (s : List ℕ) (n f : ℕ) where
  -- the log that is printed of node i
  abbrev pub printed_log : ℕ → List ℕ
  printed_log i = made_log (node_after (hall_of s n f) i (f + 1))

  -- node i's mark, and the slots that every node is handed
  abbrev pub marks : ℕ → Mark
  marks i = mark_at (is_faulty s) printed_log n i

  abbrev pub slots : List ℕ
  slots = slots_at (is_faulty s) printed_log n

  pub record Grants : Type 0 where
    pub run : Granted (hall_of s n f)
    pub signing : Signing (hall_of s n f) marks (λ i. slots)
    pub counting : (k : ℕ) → Correct (hall_of s n f) k → Counting (hall_of s n f) marks k (marks k) slots

abbrev pub RehearsalsGranted : Type 0
RehearsalsGranted = (s : List ℕ) (h : Header) → form_of s ≡ Ok h → breach s h.n h.f ≡ 0 → Grants s h.n h.f
