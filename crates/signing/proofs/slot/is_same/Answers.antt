-- The fold joins the tests of all pairs.
use Rattle.std.proofs.Common.{rules, ℕ, Bool, true, ◌&&◌, eqb, arith, ◌∙◌}
use borrow.Author.Tests.{tests}
use Rattle.std.proofs.lemmas.Iterator.{YieldsList-from_slice, YieldsList-from_zip}
use Rattle.std.proofs.lemmas.Iterator.Consumers.{fold_from_yields_List}
use Rattle.signing.proofs.Slots.{alike}
use Rattle.signing.proofs.slot.is_same.Goals as goal

pub returns : goal.returns
returns c =
    let a = c.args in
    fold_from_yields_List _ (λ (b : Bool) (p : ℕ × ℕ). b && eqb p.0 p.1) true c.fold.result c.fold.ensures.ran
    (YieldsList-from_zip (YieldsList-from_slice a.mark.now cc) (YieldsList-from_slice a.other.now cc)) (λ b x r q k. search (rules, tests))
    ∙ alike a.mark.now a.other.now (omega arith)
