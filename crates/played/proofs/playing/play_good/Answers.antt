-- Before turn k no send before the k-th breaks the rule, and the run stands before a round that is not after the k-th send's.
use Prim.Native.Nat.{◌<◌, ◌≤◌}
use mathlib.Core.Path.{◌≡◌, sym, ap, ◌∙◌}
use native.Mathlib.Omega.{arith}
use lib.ListN.{length}
use Rattle.agreement.specs.Rule.{breaks_rule}
use Rattle.contents.specs.Contents.{sends_of}
use Rattle.standing.specs.Standing.{standing}
use Rattle.standing.specs.Run.{hall_of}
use Rattle.standing.specs.declared.Standing.{Standing}
use Rattle.contents.proofs.Found.{message_size}
use Rattle.played.proofs.Sends.{send_at, sent_numbers, never_none, send_fits, send_rounds, send_few}
use Rattle.standing.proofs.Standings.{starts, stands_there, nodes_above, nodes_most_lem}
use Rattle.played.proofs.Breaches.{at_first, breaks_here, breaks_later, none_left, rule_told, is_breach, is_played}
use Rattle.played.proofs.playing.play_good.Goals as goal
use Rattle.played.proofs.playing.play_good.Goals.{After-advance_to, After-breaks_send, In-Some, Start}

-- the sizes are small
few : (c : goal.Start) → let h = c.args.run.now.header in (h.n ≤ 16) × (h.f < 16)
few c =
    let r = c.args.run.now in
    let n = nodes_most_lem r.s.now r.header c.requires in
    (omega arith, omega (arith, nodes_above r.s.now r.header c.requires))

-- the k-th send is there
inside : (c : goal.In-Some) → c.loop-k.k < length (sends_of c.args.run.now.s.now)
inside c = omega (arith, c.loop-k-test.true, c.send_count-k-end.ensures)

-- its numbers
numbers : (c : goal.In-Some)
    → let x = send_at (sends_of c.args.run.now.s.now) c.loop-k.k in
    (c.in-Some.send.round ≡ x.round) × (c.in-Some.send.from ≡ x.from) × (c.in-Some.send.to ≡ x.to)
numbers c = sent_numbers _ c.loop-k.k _ (inside c) (sym c.in-Some.is ∙ c.send_at.ensures)

-- where the run stands before its round
stands : (c : goal.After-advance_to)
    → let r = c.args.run.now in
    let x = send_at (sends_of r.s.now) c.loop-k.k in
    c.loop-k.k < length (sends_of r.s.now) → c.in-Some.send.round ≡ x.round → c.advance_to.new.at ≡ standing (hall_of r.s.now r.header.n r.header.f) c.in-Some.send.round
stands c there same =
    let l = c.loop-k in
    c.advance_to.ensures
    (record { form = c.requires; stands = l.invariant.stands })
    (omega (arith, same, l.invariant.early there))
    (omega (arith, same, (send_fits _ _ c.requires l.k there).round_most))

-- what is answered of it is the rule's answer
rule : (c : goal.After-breaks_send)
    → let r = c.args.run.now in
    let hall = hall_of r.s.now r.header.n r.header.f in
    let x = send_at (sends_of r.s.now) c.loop-k.k in
    c.loop-k.k < length (sends_of r.s.now) → c.advance_to.new.at ≡ standing hall c.in-Some.send.round → c.breaks_send.result ≡ breaks_rule hall x.round x.message
rule c there before =
    rule_told _ _ c.requires c.loop-k.k there _ (sym c.in-Some.is ∙ c.send_at.ensures) c.advance_to.new.at before _
    c.breaks_send.ensures

pub loop-k-init : goal.loop-k-init
loop-k-init c =
    let r = c.args.run.now in
    let hall = hall_of r.s.now r.header.n r.header.f in
    let e = c.start-here.ensures ∙ starts hall in
    let z : c.start-here.result.next ≡ 0 = ap (λ (x : Standing). x.next) e in
    record {
      rest = at_first _ _ c.requires;
      stands = stands_there hall _ 0 e;
      most = omega (arith, z);
      early = λ l. omega (arith, z);
    }

pub unreachable-requires : goal.unreachable-requires
unreachable-requires c =
    never_none (sends_of c.args.run.now.s.now) c.loop-k.k (omega (arith, c.send_count-k-end.ensures)) (sym c.in_default.is ∙ c.send_at.ensures)

pub breaks_send-requires : goal.breaks_send-requires
breaks_send-requires c = message_size _ _ _ _ _ c.requires

pub overflow_add-result-then-breaks_send : goal.overflow_add-result-then-breaks_send
overflow_add-result-then-breaks_send c = record { fits = omega (arith, (few (goal.at.overflow_add-result-then-breaks_send c).Start).0) }

pub overflow_add-result-then-breaks_send-2 : goal.overflow_add-result-then-breaks_send-2
overflow_add-result-then-breaks_send-2 c =
    let at = goal.at.overflow_add-result-then-breaks_send-2 c in
    let z = few at.Start in
    record { fits = omega (arith, z.0, z.1, send_few _ _ c.requires _ (inside at.In-Some)) }

pub returns-then-breaks_send : goal.returns-then-breaks_send
returns-then-breaks_send c =
    let r = c.args.run.now in
    let l = c.loop-k in
    let at = goal.at.returns-then-breaks_send c in
    let there = inside at.In-Some in
    let breaks = rule at.After-breaks_send there (stands at.After-advance_to there (numbers at.In-Some).0) in
    is_breach r.s.now r.header _ (l.invariant.rest ∙ breaks_here r.s.now r.header l.k there _ breaks c.if-breaks_send.true) (omega arith)

pub loop-k-preserved : goal.loop-k-preserved
loop-k-preserved c =
    let r = c.args.run.now in
    let l = c.loop-k in
    let at = goal.at.loop-k-preserved c in
    let there = inside at.In-Some in
    let same = (numbers at.In-Some).0 in
    let e = stands at.After-advance_to there same in
    let z = ap (λ (x : Standing). x.next) e in
    record {
      rest = l.invariant.rest ∙ breaks_later r.s.now r.header l.k there _ (rule at.After-breaks_send there e) c.if-breaks_send.false;
      stands = stands_there (hall_of r.s.now r.header.n r.header.f) _ _ e;
      most = omega (arith, z, same, (send_fits _ _ c.requires l.k there).round_most);
      early = λ more. omega (arith, z, same, send_rounds _ _ c.requires l.k more);
    }

pub overflow_add-run : goal.overflow_add-run
overflow_add-run c = record { fits = omega (arith, (few (goal.at.overflow_add-run c).Start).1) }

pub returns : goal.returns
returns c =
    let r = c.args.run.now in
    let l = c.loop-k in
    let last = c.advance_to-2.ensures
    (record { form = c.requires; stands = l.invariant.stands })
    (omega (arith, l.invariant.most)) (omega arith) in
    is_played r.s.now r.header _ (l.invariant.rest ∙ none_left r.s.now r.header l.k (omega (arith, c.send_count-k-end.ensures))) last
