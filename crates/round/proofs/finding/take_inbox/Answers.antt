-- Before each sender the votes of those below it are taken up, and its message stands at the place reached.
use Rattle.std.proofs.Common.{◌+◌, List, refl, sym, subst}
use Rattle.wire.specs.Inbox.{place_of, MessageAt}
use Rattle.wire.proofs.Cuts.{Told, message_told, missing_told, next_place}
use Rattle.keeping.specs.declared.Found.{Found}
use Rattle.round.proofs.Inboxes.{Passed, at_start, is_passed, is_taken, no_message}
use Rattle.round.proofs.finding.take_inbox.Goals as goal
use Rattle.round.proofs.finding.take_inbox.Goals.{In-Ok, then-is_heard, else-is_heard}

-- what the answer tells of the message at the place reached
told : (c : In-Ok) → let p = c.in-Ok.place in Told c.args.inbox.now c.loop-sender.at p.start p.end
told c = message_told _ _ _ c.in-Ok.ensures

pub loop-sender-init : goal.loop-sender-init
unfolding place_of
loop-sender-init c = let a = c.args in (refl, at_start a.node.now.n a.node.now.me a.node.now.phase a.inbox.now a.unreadable a.found.now)

pub returns-in_default : goal.returns-in_default
returns-in_default c =
    let a = c.args in
    let l = c.loop-sender in
    no_message a.node.now.n a.node.now.me a.node.now.phase a.inbox.now a.unreadable a.found.now l.found l.sender l.at l.invariant.0 l.invariant.1
    c.loop-sender-test.true (missing_told a.inbox.now l.at _ (subst (MessageAt a.inbox.now l.at) c.in_default.is c.message_at.ensures)).0

pub loop-sender-preserved : goal.loop-sender-preserved
loop-sender-preserved c =
    let a = c.args in
    let l = c.loop-sender in
    let t = told (goal.at.loop-sender-preserved c).In-Ok in
    let low = c.loop-sender-test.true in
    let turn : Passed a.node.now.n a.node.now.me a.node.now.phase a.inbox.now a.unreadable a.found.now c.if-is_heard.found (l.sender + 1) =
    elim c.if-is_heard.branch [
      | then-is_heard w ↦
          subst (λ (f : List Found). Passed a.node.now.n a.node.now.me a.node.now.phase a.inbox.now a.unreadable a.found.now f (l.sender + 1)) (sym w.found-is)
          (is_taken a.node.now.n a.node.now.me a.node.now.phase a.inbox.now a.unreadable a.found.now l.found l.sender l.at l.invariant.0 l.invariant.1 low
          _ _ c.is_heard.ensures w.if-is_heard.true _ _ t w.take_message.ensures)
      | else-is_heard w ↦
          is_passed a.node.now.n a.node.now.me a.node.now.phase a.inbox.now a.unreadable a.found.now l.found l.sender l.at l.invariant.0 l.invariant.1 low
          c.if-is_heard.found _ c.is_heard.ensures w.if-is_heard.false w.found-is
    ] in
    (next_place a.inbox.now l.sender l.at _ l.invariant.0 t.end_is, turn)
