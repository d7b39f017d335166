-- One law for each answer: the number is no node's or a faulty node's, or the node opens, or it steps.
use Rattle.standing.proofs.Standings.{nodes_most_lem, beyond_all, is_faulty_lem, opens, steps}
use Rattle.standing.proofs.rounds.Run.next_node.Goals as goal
use Rattle.standing.proofs.rounds.Run.next_node.Goals.{then-self-i-via-then-self-i, then-self-i-via-else-self-i+then-is_faulty}

pub returns-then-self-i : goal.returns-then-self-i
returns-then-self-i c here =
    elim c.then-self-i.branch [
      | then-self-i-via-then-self-i w ↦ beyond_all _ _ here.form _ here.stands c.args.i c.requires _ w.if-self-i.true c.no_node.ensures
      | then-self-i-via-else-self-i+then-is_faulty w ↦
          is_faulty_lem _ _ here.form _ here.stands c.args.i c.requires _ w.is_faulty.ensures _ w.if-self-i.false w.if-is_faulty.true c.no_node.ensures
    ]

pub returns-then-here-eq0 : goal.returns-then-here-eq0
returns-then-here-eq0 c here =
    opens _ _ here.form _ here.stands c.args.i c.requires _ c.is_faulty.ensures c.if-self-i.false c.if-is_faulty.false _ c.if-here-eq0.true c.open_node.ensures

pub returns : goal.returns
returns c here =
    steps _ _ here.form _ here.stands c.args.i c.requires _ c.is_faulty.ensures c.if-self-i.false c.if-is_faulty.false _ c.if-here-eq0.false
    (c.step_node.ensures (nodes_most_lem _ _ here.form))
