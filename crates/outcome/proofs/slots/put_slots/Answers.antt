-- The next slot is written after those of the nodes below j.
use Rattle.std.proofs.Common.{arith, get_or, ap, ◌∙◌}
use Rattle.outcome.specs.Marks.{mark_with}
use Rattle.outcome.specs.Spoken.{slot_with}
use Rattle.outcome.specs.Signing.{has_bit}
use Rattle.outcome.proofs.Speaking.{mark_size_lem, none_spoken, next_spoken}
use Rattle.outcome.proofs.slots.put_slots.Goals as goal

pub loop-j-init : goal.loop-j-init
loop-j-init c =
    let a = c.args in
    none_spoken (has_bit a.header.faulty) (λ j. mark_with (get_or a.numbers j 0)) (λ j. mark_size_lem (get_or a.numbers j 0)) a.output.now

pub loop-j-preserved : goal.loop-j-preserved
loop-j-preserved c =
    let a = c.args in
    let l = c.loop-j in
    let slot = c.copy_from_slice.ensures.after ∙ c.slot_of-slot.ensures ∙ ap (λ b. slot_with b (mark_with (get_or a.numbers l.j 0))) c.is_faulty.ensures in
    next_spoken (has_bit a.header.faulty) (λ j. mark_with (get_or a.numbers j 0)) (λ j. mark_size_lem (get_or a.numbers j 0)) a.output.now l.output l.j l.invariant
    _ _ slot (omega arith)
