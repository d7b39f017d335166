-- The calls of a node's course, with its tray and a whole message's room.
use mathlib.Core.Path.{ap, ◌∙◌}
use Rattle.std.specs.Result.{result_unwrap_or}
use Rattle.standing.proofs.Stands.{opened_stands}
use Rattle.standing.proofs.rounds.Run.open_node.Goals as goal

pub returns : goal.returns
returns c =
    let r = c.args.self.now in
    opened_stands r.s.now r.header.n r.header.f c.args.i c.new.result _ c.tray_of.result c.open.result c.open.new.node _ c.open.new.outbox c.new.ensures
    (c.unwrap_or-node.ensures ∙ ap (result_unwrap_or c.new.result) c.zeros.ensures) c.tray_of.ensures c.open.ensures c.unwrap_or-size.ensures
