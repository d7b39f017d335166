-- Before the first turn none is numbered.
use Rattle.std.proofs.Common.{refl}
use lib.ListN.{replicate}
use Rattle.rules.specs.Sizes.{nodes_most}
use Rattle.outcome.specs.Signing.{has_bit}
use Rattle.outcome.specs.Held.{log_at}
use Rattle.outcome.proofs.Numbering.{none_numbered}
use Rattle.outcome.proofs.marks.number_all.Goals as goal

pub loop-i-init : goal.loop-i-init
loop-i-init c = none_numbered (has_bit c.args.header.faulty) (log_at c.args.logs.now) (replicate nodes_most 0) refl
