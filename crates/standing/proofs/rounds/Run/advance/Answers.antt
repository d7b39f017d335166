-- Before turn i the places below i hold the nodes after the round, and what they send.
use Prim.Native.Nat.{◌+◌}
use mathlib.Core.Path.{◌≡◌, refl, ap, ◌∙◌}
use mathlib.Core.List.{[]}
use native.Mathlib.Omega.{arith}
use lib.ListN.{length-set}
use Rattle.std.proofs.Common.{rules}
use Rattle.rules.specs.Sizes.{nodes_most}
use Rattle.inboxes.specs.Inboxes.{outbox_of}
use Rattle.standing.specs.Standing.{nobody, stood_at}
use Rattle.standing.specs.Run.{hall_of}
use Rattle.standing.specs.declared.Stood.{Stood}
use Rattle.standing.proofs.Filled.{one_filled, all_filled}
use Rattle.standing.proofs.rounds.Run.advance.Goals as goal

pub loop-i-init : goal.loop-i-init
loop-i-init c = record {
  round = refl;
  nodes_long = search rules;
  outboxes_long = search rules;
  nodes = λ h j l. absurd (omega arith);
  outboxes = λ h j l. absurd (omega arith);
}

pub loop-i-preserved : goal.loop-i-preserved
loop-i-preserved c =
    let l = c.loop-i in
    let e = c.next_node-stood.ensures in
    record {
      round = l.invariant.round;
      nodes_long = length-set l.at.nodes l.i _ ∙ l.invariant.nodes_long;
      outboxes_long = length-set l.at.outboxes l.i _ ∙ l.invariant.outboxes_long;
      nodes = λ h. one_filled _ _ l.at.nodes l.i _ (omega (arith, l.invariant.nodes_long)) (ap (λ (x : Stood). x.node) (e h)) (l.invariant.nodes h);
      outboxes = λ h. one_filled _ _ l.at.outboxes l.i _ (omega (arith, l.invariant.outboxes_long)) (ap (λ (x : Stood). x.outbox) (e h)) (l.invariant.outboxes h);
    }

pub returns-clause-next : goal.returns-clause-next
returns-clause-next c = ap (λ (k : _). k + 1) c.loop-i.invariant.round

pub returns-clause-stands : goal.returns-clause-stands
returns-clause-stands c h =
    let r = c.args.self.now in
    let l = c.loop-i in
    let all : l.i ≡ nodes_most = omega arith in
    let next = stood_at (hall_of r.s.now r.header.n r.header.f) (c.args.at.now.next + 1) in
    let nodes = all_filled nobody (λ j. (next j).node) l.at.nodes nodes_most l.invariant.nodes_long (rw all at (l.invariant.nodes h)) in
    let outboxes = all_filled (outbox_of []) (λ j. (next j).outbox) l.at.outboxes nodes_most l.invariant.outboxes_long (rw all at (l.invariant.outboxes h)) in
    λ k. record { next = l.invariant.round k + 1; nodes = nodes k; outboxes = outboxes k }
