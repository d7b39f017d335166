-- Three numbers, each read behind the one before.
use Rattle.std.proofs.Common.{arith, sym, ◌∙◌}
use Rattle.text.specs.Numbers.{half_most, word_most}
use Rattle.text.specs.Places.{dot}
use Rattle.text.proofs.Digits.{entry_one, entry_three, entry_two, entry_whole, field_small, number_small}
use Rattle.text.proofs.decimal.read_entry.Goals as goal

pub returns-in_err-meter : goal.returns-in_err-meter
returns-in_err-meter c = c.from_residual.ensures ∙ sym (entry_one c.args.s.now (sym c.in_err-meter.ensures))

pub returns-in_err-interval : goal.returns-in_err-interval
returns-in_err-interval c =
    c.from_residual-in_err-interval.ensures
    ∙ sym (entry_two c.args.s.now _ c.past-low.ensures _ (sym c.in_ok-meter.ensures) (sym c.in_err-interval.ensures))

pub returns-in_err-watthours : goal.returns-in_err-watthours
returns-in_err-watthours c =
    c.from_residual-in_err-watthours.ensures
    ∙ sym (entry_three c.args.s.now _ c.past-low.ensures _ (sym c.in_ok-meter.ensures) _ c.past.ensures _ (sym c.in_ok-interval.ensures)
    (sym c.in_err-watthours.ensures))

-- the three numbers are small
pub overflow_mul-result : goal.overflow_mul-result
overflow_mul-result c = omega (arith, field_small dot half_most c.args.s.now _ c.in_ok-meter.ensures)

pub overflow_mul-result-2 : goal.overflow_mul-result-2
overflow_mul-result-2 c = omega (arith, field_small dot half_most c.past-low.result.now _ c.in_ok-interval.ensures)

pub overflow_add-result : goal.overflow_add-result
overflow_add-result c =
    let m = field_small dot half_most c.args.s.now _ c.in_ok-meter.ensures in
    let i = field_small dot half_most c.past-low.result.now _ c.in_ok-interval.ensures in
    omega arith

pub overflow_add-result-2 : goal.overflow_add-result-2
overflow_add-result-2 c =
    let m = field_small dot half_most c.args.s.now _ c.in_ok-meter.ensures in
    let i = field_small dot half_most c.past-low.result.now _ c.in_ok-interval.ensures in
    let w = number_small word_most c.past.result.now _ c.in_ok-watthours.ensures in
    omega arith

pub returns : goal.returns
returns c =
    sym (entry_whole c.args.s.now _ c.past-low.ensures _ (sym c.in_ok-meter.ensures) _ c.past.ensures _ (sym c.in_ok-interval.ensures) _
    (sym c.in_ok-watthours.ensures))
