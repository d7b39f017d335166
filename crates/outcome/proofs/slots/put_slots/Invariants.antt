-- Before turn j the slots of the nodes below j stand over the front.
use Rattle.std.proofs.Common.{◌≡◌, ◌*◌, ◌++◌, get_or, drop}
use Rattle.signing.specs.Slots.{slot_size}
use Rattle.outcome.specs.Marks.{mark_with}
use Rattle.outcome.specs.Spoken.{slots_with}
use Rattle.outcome.specs.Signing.{has_bit}
use Rattle.outcome.proofs.slots.put_slots.Given as goal

abbrev pub invariant-loop-j : goal.invariant-loop-j
invariant-loop-j l = l.output ≡ slots_with (has_bit l.header.faulty) (λ i. mark_with (get_or l.numbers i 0)) l.j ++ drop (slot_size * l.j) l.initial.output
