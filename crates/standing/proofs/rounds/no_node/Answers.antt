-- The node of zeros, and silence.
use mathlib.Core.Path.{ap}
use mathlib.Core.List.{[]}
use Rattle.node.specs.declared.Node.{Node}
use Rattle.standing.specs.Standing.{stood_of}
use Rattle.standing.proofs.rounds.no_node.Goals as goal

pub returns : goal.returns
returns c = ap (λ (x : Node). stood_of x []) c.zeros.ensures
