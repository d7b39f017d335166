-- Before turn j the slots of the nodes below j are put, and at is where they end; there is room for sixteen.
use Rattle.std.proofs.Common.{[], ◌≡◌, ◌<◌, ◌≤◌, ◌+◌, ◌-◌, refl, arith, length, length-take, take, get_or, get_or-take, rules}
use Rattle.inboxes.specs.Inboxes.{outbox_at}
use Rattle.inboxes.proofs.Copies.{slot_most, none_slotted, one_slotted}
use Rattle.inboxes.proofs.Messages.{short}
use Rattle.inboxes.proofs.put_inbox.Goals as goal

pub loop-j-init : goal.loop-j-init
loop-j-init c = (refl, none_slotted _ _)

pub loop-j-preserved : goal.loop-j-preserved
loop-j-preserved c =
    let a = c.args in
    let l = c.loop-j in
    let inside : l.j < a.header.n = omega (arith, length-take a.header.n a.outboxes.now) in
    let its : get_or (take a.header.n a.outboxes.now) l.j (record { size = 0; bytes = [] }) ≡ outbox_at a.outboxes.now l.j = get_or-take a.header.n a.outboxes.now l.j _ inside in
    let e = rw its at c.put_slot-at.ensures in
    let room : l.at + slot_most ≤ length a.inbox.now = omega (arith, l.invariant.1.low) in
    let next = one_slotted _ a.inbox.now l.j l.at (l.at + slot_most - l.at) l.inbox _ l.invariant.1 (omega arith) room l.invariant.0
    (short a.s.now a.header.faulty a.r a.i l.j (outbox_at a.outboxes.now l.j)) _ e.0 e.1 in
    (search rules, next)
