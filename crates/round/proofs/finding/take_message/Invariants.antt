use Rattle.std.proofs.Common.{length}
use Rattle.round.proofs.Messages.{Reached}
use Rattle.round.proofs.finding.take_message.Given as goal

abbrev pub invariant-loop-vote : goal.invariant-loop-vote
invariant-loop-vote l = Reached l.node.n l.node.me l.node.phase l.message l.initial.found l.found l.rest

abbrev pub decreases-loop-vote : goal.decreases-loop-vote
decreases-loop-vote l = length l.rest
