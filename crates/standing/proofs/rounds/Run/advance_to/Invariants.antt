-- The run stands before its next round, which is not past the round asked for.
use Prim.Native.Nat.{◌-◌, ◌≤◌}
use Rattle.standing.specs.Run.{Reached}
use Rattle.standing.proofs.rounds.Run.advance_to.Given as goal

abbrev pub invariant-loop-at : goal.invariant-loop-at
invariant-loop-at l =
    let R = Reached l.self.s.now l.self.header in
    (l.initial.at.next ≤ l.round → l.at.next ≤ l.round) × (R l.initial.at → R l.at)

abbrev pub decreases-loop-at : goal.decreases-loop-at
decreases-loop-at l = l.round - l.at.next
