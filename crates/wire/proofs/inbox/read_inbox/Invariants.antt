-- Before each sender: the place of its message, and the mask of the senders before it.
use Rattle.std.proofs.Common.{◌≡◌, ◌≤◌, length}
use Rattle.laws.specs.Masks.{mask_of}
use Rattle.wire.specs.Inbox.{place_of}
use Rattle.wire.proofs.Cuts.{unreadable_from}
use Rattle.wire.proofs.inbox.read_inbox.Given as goal

abbrev pub invariant-loop-sender : goal.invariant-loop-sender
invariant-loop-sender l = (l.at ≤ length l.inbox) × (l.at ≡ place_of l.inbox l.sender) × (l.unreadable ≡ mask_of (unreadable_from l.n l.me l.inbox) l.sender)
