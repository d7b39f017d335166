-- The lines of the next node come after those of the nodes below it.
use Rattle.std.proofs.Common.{◌≡◌, ℕ, List, [], cond, refl, sym, ap, subst, get_or}
use native.Mathlib.Nat.{not-suc-le-zero}
use borrow.Author.Rules.{rules}
use Rattle.entries.specs.Bytes.{AreEntries}
use Rattle.outcome.specs.Signing.{has_bit}
use Rattle.outcome.specs.Held.{log_at}
use Rattle.report.specs.Lines.{lines_text, node_lines, nodes_that}
use Rattle.report.proofs.Whole.{one_more_entries}
use Rattle.report.proofs.Printing.{writes_as, writes_none, writes_both, no_nodes_lem, node_after_lem}
use Rattle.report.proofs.lines.put_nodes.Goals as goal

pub loop-i-init : goal.loop-i-init
loop-i-init c =
    let a = c.args in
    let o = a.outcome.now in (
      refl,
      writes_as _ _ _ _ _ (sym (no_nodes_lem (has_bit a.header.faulty) (log_at o.logs) (λ j. nodes_that (has_bit (get_or o.signers j 0)) a.header.n)))
          (writes_none a.text.now),
      λ j l. absurd (not-suc-le-zero l),
    )

pub loop-i-preserved : goal.loop-i-preserved
loop-i-preserved c =
    let a = c.args in
    let l = c.loop-i in
    let d = c.put_correct-at in
    let t = has_bit a.header.faulty in
    let logs = log_at a.outcome.now.logs in
    let signers : ℕ → List ℕ = λ j. nodes_that (has_bit (get_or a.outcome.now.signers j 0)) a.header.n in
    let log : c.in_use-log.result.now ≡ logs l.i = c.in_use-log.ensures in
    let writes = writes_as _ _ _ _ _ (ap (λ (x : List ℕ). lines_text (cond (t l.i) [] (node_lines l.i x (signers l.i)))) log) d.ensures.0 in (
      search rules,
      writes_as _ _ _ _ _ (node_after_lem t logs signers l.i) (writes_both _ _ _ l.at l.text l.invariant.1 l.invariant.0 d.result _ writes),
      one_more_entries t logs l.i l.invariant.2 (λ f. subst AreEntries log (d.ensures.1 f)),
    )
