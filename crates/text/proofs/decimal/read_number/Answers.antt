-- The number of the whole is that of the digits that are left after v.
use Rattle.std.proofs.Common.{arith, sym, ◌∙◌}
use borrow.Author.Tests.{eqb-false, eqb-true}
use Rattle.text.proofs.Digits.{number_end, number_go, number_none, number_over, number_start, number_stop, number_zero}
use Rattle.text.proofs.decimal.read_number.Goals.{then-is_empty-via-then-is_empty, then-is_empty-via-else-is_empty+then-leading_zero}
use Rattle.text.proofs.decimal.read_number.Goals as goal

pub returns-then-is_empty : goal.returns-then-is_empty
returns-then-is_empty c = elim c.then-is_empty.branch [
  | then-is_empty-via-then-is_empty w ↦ sym (number_none c.args.most c.args.s.now (eqb-true _ _ (sym w.if-is_empty.ensures)))
  | then-is_empty-via-else-is_empty+then-leading_zero w ↦ sym (number_zero c.args.most c.args.s.now (sym w.if-leading_zero.ensures))
]

pub loop-b-init : goal.loop-b-init
loop-b-init c = record {
  few = omega arith;
  left = number_start _ _ (eqb-false _ _ (sym c.if-is_empty.ensures)) (sym c.if-leading_zero.ensures);
}

pub returns-in_err-v : goal.returns-in_err-v
returns-in_err-v c =
    c.from_residual.ensures ∙ sym (c.loop-b.invariant.left ∙ number_stop _ _ _ _ c.loop-b-test.true (sym c.in_err-v.ensures))

pub returns-then-most-v : goal.returns-then-most-v
returns-then-most-v c =
    let go = number_go _ _ _ _ c.loop-b-test.true _ (sym c.in_ok-v.ensures) in
    sym (c.loop-b.invariant.left ∙ go ∙ number_over _ _ _ c.if-most-v.true)

pub loop-b-preserved : goal.loop-b-preserved
loop-b-preserved c =
    let go = number_go _ _ _ _ c.loop-b-test.true _ (sym c.in_ok-v.ensures) in
    record { few = omega arith; left = c.loop-b.invariant.left ∙ go }

pub returns : goal.returns
returns c = sym (c.loop-b.invariant.left ∙ number_end _ _ _ _ c.loop-b-test.false c.loop-b.invariant.few)
