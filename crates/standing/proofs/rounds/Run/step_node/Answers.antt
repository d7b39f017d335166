-- The inbox is read whole, and the step is the one of the node's course.
use Prim.Native.Nat.{ℕ, ◌≤◌}
use mathlib.Core.Path.{◌≡◌, sym, subst}
use mathlib.Core.List.{List}
use lib.ListN.{length, take, replicate, length-replicate}
use native.Mathlib.Omega.{arith}
use Rattle.rules.specs.Sizes.{nodes_most}
use Rattle.wire.specs.Sizes.{message_most}
use Rattle.node.specs.State.{node_at}
use Rattle.step.specs.Step.{Step}
use Rattle.inboxes.specs.Inboxes.{inbox_most, inbox_to}
use Rattle.inboxes.proofs.Messages.{front_read}
use Rattle.std.proofs.Common.{rules}
use Rattle.standing.proofs.Stands.{length_matched, stepped_stands}
use Rattle.standing.proofs.rounds.Run.step_node.Goals as goal
use Rattle.standing.proofs.rounds.Run.step_node.Goals.{After-put_inbox-length}

-- the buffer's length, by the law: counting 63,392 zeros takes seconds
enough : inbox_most ≤ length {A = ℕ} (replicate inbox_most 0)
enough = subst (λ (k : ℕ). inbox_most ≤ k) (sym (length-replicate {A = ℕ} inbox_most 0)) (omega arith)

-- what the buffer holds
read : (c : goal.After-put_inbox-length)
    → let r = c.args.self.now in
    let here = c.args.here.now in
    r.header.n ≤ nodes_most → take c.put_inbox-length.result c.put_inbox-length.new.inbox ≡ inbox_to r.s.now r.header.n r.header.faulty here.next c.args.i here.outboxes
read c l = (front_read _ _ _ _ (c.put_inbox-length.ensures.answers l enough) (c.put_inbox-length.ensures.leaves l enough)).1

pub returns : goal.returns
returns c l =
    let node = node_at c.args.here.now.nodes c.args.i in
    let after = c.step.new.outbox in
    stepped_stands node _ c.step.result c.step.new.node _ after
    (subst (λ (x : List ℕ). Step node x (replicate message_most 0) c.step.result c.step.new.node after) (read (goal.at.returns c).After-put_inbox-length l) c.step.ensures)
    (length_matched c.step.result _ (search rules))
