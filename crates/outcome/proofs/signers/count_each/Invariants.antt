-- Before turn i the signers of the nodes below i are counted.
use Rattle.std.proofs.Common.{◌≡◌, length, get_or}
use Rattle.rules.specs.Sizes.{nodes_most}
use Rattle.outcome.specs.Marks.{mark_with}
use Rattle.outcome.specs.Held.{AllCounted}
use Rattle.outcome.proofs.signers.count_each.Given as goal

abbrev pub invariant-loop-i : goal.invariant-loop-i
invariant-loop-i l = (length l.masks ≡ nodes_most) × AllCounted l.header.n l.header.f (λ j. mark_with (get_or l.numbers j 0)) l.slots l.i l.masks
