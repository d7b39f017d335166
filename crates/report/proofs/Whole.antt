-- The whole text: what is held and counted is what the logs of the correct nodes give.
use Prim.Native.Nat.{ℕ, ◌+◌, ◌≤◌, ◌<◌}
use mathlib.Core.Path.{◌≡◌, refl, sym, ap, subst, ◌∙◌}
use mathlib.Core.Logic.{⊎_elim}
use mathlib.Core.Bool.{Bool, false}
use mathlib.Core.List.{List, ◌++◌}
use native.Mathlib.Nat.{le_of_suc-le-suc, eq-or-lt_of_le, le_trans}
use native.Mathlib.Numerals.{add-one}
use native.Mathlib.Omega.{arith}
use lib.ListN.{get_or}
use Rattle.rules.specs.Sizes.{nodes_most}
use Rattle.entries.specs.Bytes.{AreEntries}
use Rattle.node.specs.State.{node_at}
use Rattle.node.specs.declared.Node.{Node}
use Rattle.outcome.specs.Logs.{made_log}
use Rattle.outcome.specs.Signing.{has_bit}
use Rattle.outcome.specs.Held.{log_at}
use Rattle.outcome.specs.Outcome.{ComesTo}
use Rattle.outcome.specs.declared.Outcome.{Outcome}
use Rattle.entries.specs.Places.{held_in}
use Rattle.outcome.proofs.Made.{held_log}
use Rattle.report.specs.Lines.{lines_text, sizes_lines, all_lines, nodes_that, signers_at, report_lines}
use Rattle.report.specs.Report.{Writes, Reports}
use Rattle.report.specs.Listing.{AllEntries}
use Rattle.report.proofs.Printing.{writes_as, lines_append}
use Rattle.report.proofs.Bounds.{report_most}
use Rattle.report.proofs.Alike.{lines_same}

-- one turn: so it is of node i, where it is correct
pub one_more_entries : (t : ℕ → Bool) (log : ℕ → List ℕ) (i : ℕ) → AllEntries t log i → (t i ≡ false → AreEntries (log i)) → AllEntries t log (i + 1)
one_more_entries t log i h e j l f =
    ⊎_elim (λ q. rw q (e (ap t (sym q) ∙ f))) (λ k. h j k f) (eq-or-lt_of_le (le_of_suc-le-suc (rw (sym (add-one i)) l)))

-- nothing is written of more than sixteen nodes
pub too_many : (n f faulty : ℕ) (nodes : List Node) (text : List ℕ) → nodes_most < n → Reports n f faulty nodes text 0 text
too_many n f faulty nodes text h = record { writes = λ l. absurd (omega arith); most = λ l. absurd (omega arith); nothing = λ l. refl; untouched = λ l. refl }

module _ (n f faulty : ℕ) (nodes : List Node) (o : Outcome) (comes : ComesTo n f faulty nodes o) (most : n ≤ nodes_most) where
  abbrev log : ℕ → List ℕ
  log i = made_log (node_at nodes i)

  abbrev held : ℕ → List ℕ
  held = log_at o.logs

  abbrev listed : ℕ → List ℕ
  listed i = nodes_that (has_bit (get_or o.signers i 0)) n

  its_log : (j : ℕ) → j < n → has_bit faulty j ≡ false → held j ≡ log j
  its_log j l e = ap held_in (comes.made j (le_trans l most)) ∙ held_log (log j)

  its_signers : (j : ℕ) → j < n → has_bit faulty j ≡ false → listed j ≡ signers_at n f (has_bit faulty) log j
  its_signers j l e = ap (λ (m : ℕ). nodes_that (has_bit m) n) (comes.signed most j l e)

  whole_text : lines_text (sizes_lines n f) ++ lines_text (all_lines (has_bit faulty) held listed n) ≡ lines_text (report_lines n f (has_bit faulty) log)
  whole_text =
      ap (λ ls. lines_text (sizes_lines n f) ++ lines_text ls)
      (lines_same n (has_bit faulty) (has_bit faulty) (λ k m. refl) held log listed (signers_at n f (has_bit faulty) log) its_log its_signers)
      ∙ sym (lines_append (sizes_lines n f) (all_lines (has_bit faulty) log (signers_at n f (has_bit faulty) log) n))

  pub as_report : (text : List ℕ) (r : ℕ) (after : List ℕ)
      → Writes (lines_text (sizes_lines n f) ++ lines_text (all_lines (has_bit faulty) held listed n)) text r after → AllEntries (has_bit faulty) held n
      → Reports n f faulty nodes text r after
  as_report text r after w e = record {
    writes = λ m. writes_as _ _ text r after whole_text w;
    most = λ m k. report_most n f (has_bit faulty) (node_at nodes) m k (λ i l c. subst AreEntries (its_log i l c) (e i l c));
    nothing = λ m. absurd (omega arith);
    untouched = λ m. absurd (omega arith);
  }
