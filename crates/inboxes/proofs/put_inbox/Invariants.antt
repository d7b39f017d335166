use mathlib.Core.Path.{◌≡◌}
use lib.ListN.{length}
use Rattle.inboxes.specs.Inboxes.{message_to, outbox_at}
use Rattle.inboxes.proofs.Copies.{Slotted}
use Rattle.inboxes.proofs.put_inbox.Given as goal

abbrev pub invariant-loop-j : goal.invariant-loop-j
invariant-loop-j l =
    let a = l.fn in
    (length l.inbox ≡ length a.inbox) × Slotted (λ k. message_to a.s a.header.faulty a.r a.i k (outbox_at a.outboxes k)) a.inbox l.j l.at l.inbox
