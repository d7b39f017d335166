-- Where all correct nodes have the same log, that log is printed of each, with exactly the correct nodes as its signers.
use Prim.Native.Nat.{ℕ, ◌+◌, ◌≤◌, ◌<◌}
use mathlib.Core.Path.{◌≡◌, refl, ap, ◌∙◌}
use mathlib.Core.Bool.{Bool, true, false, not, cond}
use mathlib.Core.List.{List, [], ◌∷◌, ◌++◌}
use Rattle.laws.specs.Masks.{count, mask_of}
use Rattle.laws.proofs.Bits.{mask_tells}
use Rattle.rules.specs.Sizes.{sizes}
use Rattle.rules.proofs.Inbox.{gather_same}
use Rattle.node.specs.declared.Node.{Node}
use Rattle.outcome.specs.Logs.{made_log}
use Rattle.outcome.specs.Signing.{has_bit}
use Rattle.outcome.proofs.OneLog.{one_counted}
use Rattle.report.specs.Lines.{lines_text, sizes_lines, all_lines, nodes_that, signers_at}
use Rattle.report.specs.Report.{report_of}
use Rattle.report.proofs.Alike.{lines_same}

-- the nodes of a mask are those that it was made of
mask_nodes : (t : ℕ → Bool) (n : ℕ) → nodes_that (has_bit (mask_of t n)) n ≡ nodes_that t n
unfolding nodes_that
mask_nodes t n =
    gather_same (λ (j : ℕ). cond (has_bit (mask_of t n) j) (j ∷ []) []) (λ (j : ℕ). cond (t j) (j ∷ []) []) n (λ j l. ap (λ (b : Bool). cond b (j ∷ []) []) (mask_tells t n j l))

-- the whole text of a run whose correct nodes all made this log
pub one_report : (n f : ℕ) (t : ℕ → Bool) (node : ℕ → Node) (one : List ℕ) → ((i : ℕ) → i < n → t i ≡ false → sizes n f i ≡ true) → f + 1 ≤ count (λ (j : ℕ). not (t j)) n
    → ((i : ℕ) → i < n → t i ≡ false → made_log (node i) ≡ one)
    → report_of n f t node ≡ lines_text (sizes_lines n f ++ all_lines t (λ (i : ℕ). one) (λ (i : ℕ). nodes_that (λ (j : ℕ). not (t j)) n) n)
one_report n f t node one sized many all =
    ap (λ ls. lines_text (sizes_lines n f ++ ls))
    (lines_same n t t (λ j l. refl) (λ (i : ℕ). made_log (node i)) (λ (i : ℕ). one) (signers_at n f t (λ (i : ℕ). made_log (node i)))
    (λ (i : ℕ). nodes_that (λ (j : ℕ). not (t j)) n) all
    (λ i l e.
    ap (λ (m : ℕ). nodes_that (has_bit m) n) (one_counted n t (λ (i : ℕ). made_log (node i)) one all i l e f (sized i l e) many)
    ∙ mask_nodes (λ (j : ℕ). not (t j)) n))
