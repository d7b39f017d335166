-- The bytes are written out.
use Rattle.outcome.specs.Marks.{mark_with}
use Rattle.outcome.proofs.Speaking.{silent_slot, speaking_slot}
use Rattle.outcome.proofs.slots.slot_of.Goals as goal

pub returns-then-not-faulty : goal.returns-then-not-faulty
returns-then-not-faulty c = speaking_slot c.args.faulty (mark_with c.args.number) c.if-not-faulty.true

pub returns-else-not-faulty : goal.returns-else-not-faulty
returns-else-not-faulty c = silent_slot c.args.faulty _ c.if-not-faulty.false
