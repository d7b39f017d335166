use Rattle.std.proofs.Common.{◌≡◌}
use Rattle.wire.specs.Inbox.{place_of}
use Rattle.round.proofs.Inboxes.{Passed}
use Rattle.round.proofs.finding.take_inbox.Given as goal

abbrev pub invariant-loop-sender : goal.invariant-loop-sender
invariant-loop-sender l = (l.at ≡ place_of l.inbox l.sender)
    × Passed l.node.n l.node.me l.node.phase l.inbox l.unreadable l.initial.found l.found l.sender
