use Prim.Native.Nat.{◌+◌}
use mathlib.Core.Path.{◌≡◌}
use mathlib.Core.List.{[]}
use lib.ListN.{length}
use Rattle.rules.specs.Sizes.{nodes_most}
use Rattle.inboxes.specs.Inboxes.{outbox_of}
use Rattle.standing.specs.Standing.{nobody, stood_at}
use Rattle.standing.specs.Run.{Reached, hall_of}
use Rattle.standing.proofs.Filled.{Filled}
use Rattle.standing.proofs.rounds.Run.advance.Given as goal

abbrev pub invariant-loop-i : goal.invariant-loop-i
invariant-loop-i l =
    let r = l.self in
    let next = stood_at (hall_of r.s.now r.header.n r.header.f) (l.here.next + 1) in
    let R = Reached r.s.now r.header l.here in
    record {
      round : l.at.next ≡ l.here.next;
      nodes_long : length l.at.nodes ≡ nodes_most;
      outboxes_long : length l.at.outboxes ≡ nodes_most;
      nodes : R → Filled nobody (λ j. (next j).node) l.at.nodes l.i;
      outboxes : R → Filled (outbox_of []) (λ j. (next j).outbox) l.at.outboxes l.i;
    }
