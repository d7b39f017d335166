-- Each place is the one after the message before, so the inbox is well cut where the last of them ends with it.
use Rattle.std.proofs.Common.{◌≡◌, true, refl, sym, ap, ◌∙◌, arith}
use Rattle.std.proofs.lemmas.Result.{err_from_is_err_and}
use Rattle.laws.specs.Masks.{mask_of}
use Rattle.rules.specs.Sizes.{sized}
use Rattle.rules.proofs.Sizes.{sized_most}
use Rattle.wire.specs.Inbox.{place_of}
use Rattle.wire.proofs.Cuts.{Told, unreadable_from, sender_joins, still_fits, no_nodes_lem, no_me, ill_cut, heard, too_long, too_short, missing_told, message_told, next_place}
use Rattle.wire.proofs.inbox.read_inbox.Goals as goal
use Rattle.wire.proofs.inbox.read_inbox.Goals.{Else-not-is_sized, In_ok-place, then-not-is_sized-via-then-not-is_sized, then-not-is_sized-via-else-not-is_sized+then-n-me}

nodes : (c : goal.Else-not-is_sized) → sized c.args.n ≡ true
nodes c = sym c.is_sized.ensures ∙ c.if-not-is_sized.false

-- what the answer tells of the message at the place reached
told : (c : goal.In_ok-place) → Told c.args.inbox.now c.loop-sender.at c.in_ok-place.place.start c.in_ok-place.place.end
told c = message_told c.args.inbox.now c.loop-sender.at c.in_ok-place.place c.in_ok-place.ensures

pub returns-then-not-is_sized : goal.returns-then-not-is_sized
returns-then-not-is_sized c =
    let a = c.args in
    elim c.then-not-is_sized.branch [
      | then-not-is_sized-via-then-not-is_sized w ↦ no_nodes_lem a.n a.me a.inbox.now (sym c.is_sized.ensures ∙ w.if-not-is_sized.true)
      | then-not-is_sized-via-else-not-is_sized+then-n-me w ↦ no_me a.n a.me a.inbox.now (sym c.is_sized.ensures ∙ w.if-not-is_sized.false) w.if-n-me.true
    ]

pub loop-sender-init : goal.loop-sender-init
unfolding place_of mask_of
loop-sender-init c = (omega arith, refl, refl)

pub returns-in_err-place : goal.returns-in_err-place
returns-in_err-place c =
    let a = c.args in
    let l = c.loop-sender in
    let m = missing_told a.inbox.now l.at c.in_err-place.field-0.0 c.in_err-place.ensures in
    let p = err_from_is_err_and c.from_residual.result c.from_residual.ensures.1 in
    rw (p.1, p.2)
    (ill_cut a.n a.me a.inbox.now (nodes (goal.at.returns-in_err-place c).Else-not-is_sized) (omega arith) _ m.1
    (too_short a.n a.inbox.now l.sender c.loop-sender-test.true (rw l.invariant.1 at m.0)))

pub overflow_add-unreadable : goal.overflow_add-unreadable
overflow_add-unreadable c =
    let a = c.args in
    let l = c.loop-sender in
    let most = sized_most a.n (nodes (goal.at.overflow_add-unreadable c).Else-not-is_sized) in
    let t = told (goal.at.overflow_add-unreadable c).In_ok-place in
    let fit = still_fits a.n a.me a.inbox.now l.sender l.at _ _ l.unreadable _ t l.invariant.1 l.invariant.2 c.sender_bit-unreadable.ensures (omega arith) in
    omega (arith, fit)

pub loop-sender-preserved : goal.loop-sender-preserved
loop-sender-preserved c =
    let a = c.args in
    let l = c.loop-sender in
    let t = told (goal.at.loop-sender-preserved c).In_ok-place in
    let turn = sender_joins a.n a.me a.inbox.now l.sender l.at _ _ l.unreadable _ t l.invariant.1 l.invariant.2 c.sender_bit-unreadable.ensures in
    (omega (arith, t.end_is, t.fits), next_place a.inbox.now l.sender l.at _ l.invariant.1 t.end_is, turn)

pub returns-then-at-inbox : goal.returns-then-at-inbox
returns-then-at-inbox c =
    let a = c.args in
    let l = c.loop-sender in
    let all : l.sender ≡ a.n = omega arith in
    let place : l.at ≡ place_of a.inbox.now a.n = l.invariant.1 ∙ ap (place_of a.inbox.now) all in
    too_long a.n a.me a.inbox.now (nodes (goal.at.returns-then-at-inbox c).Else-not-is_sized) (omega arith) (omega arith)

pub returns : goal.returns
returns c =
    let a = c.args in
    let l = c.loop-sender in
    let all : l.sender ≡ a.n = omega arith in
    let place : l.at ≡ place_of a.inbox.now a.n = l.invariant.1 ∙ ap (place_of a.inbox.now) all in
    heard a.n a.me a.inbox.now (nodes (goal.at.returns c).Else-not-is_sized) (omega arith) _ (omega arith)
    (l.invariant.2 ∙ ap (mask_of (unreadable_from a.n a.me a.inbox.now)) all)
