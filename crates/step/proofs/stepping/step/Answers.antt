-- Each refusal is one test, in the order of the rows; what has passed them all is a step to be taken.
use Rattle.std.proofs.Common.{◌≡◌, true, false, sym, ◌∙◌, arith, rules}
use Rattle.std.proofs.lemmas.Result.{err_from_is_err_and}
use Rattle.node.proofs.Sound.{sound_sizes}
use Rattle.node.specs.State.{sound_node}
use Rattle.step.specs.Step.{in_rounds}
use Rattle.step.proofs.Steps.{unsound, out_of_rounds, ill_cut, cut_ill, cut_well}
use Rattle.step.proofs.stepping.step.Goals as goal
use Rattle.step.proofs.stepping.step.Goals.{Else-not-is_sound, Else-not-contains}

fine : (c : Else-not-is_sound) → sound_node c.args.node.now ≡ true
fine c = sym c.is_sound.ensures ∙ c.if-not-is_sound.false

pub returns-then-not-is_sound : goal.returns-then-not-is_sound
returns-then-not-is_sound c =
    let a = c.args in
    unsound a.node.now a.inbox.now a.outbox.now (sym c.is_sound.ensures ∙ c.if-not-is_sound.true)

pub overflow_add-node : goal.overflow_add-node
overflow_add-node c =
    let t = sound_sizes c.args.node.now (fine (goal.at.overflow_add-node c).Else-not-is_sound) in
    record { fits = omega (arith, t.half, t.most) }

pub returns-then-not-contains : goal.returns-then-not-contains
returns-then-not-contains c =
    let a = c.args in
    let out : in_rounds a.node.now ≡ false = search rules in
    out_of_rounds a.node.now a.inbox.now a.outbox.now (fine (goal.at.returns-then-not-contains c).Else-not-is_sound) out

rounds : (c : Else-not-contains) → in_rounds c.args.node.now ≡ true
rounds c = search rules

pub returns-in_err-unreadable : goal.returns-in_err-unreadable
returns-in_err-unreadable c =
    let a = c.args in
    let sound = fine (goal.at.returns-in_err-unreadable c).Else-not-is_sound in
    let p = err_from_is_err_and c.from_residual.result c.from_residual.ensures.1 in
    rw (p.1, p.2)
    (ill_cut a.node.now a.inbox.now a.outbox.now sound (rounds (goal.at.returns-in_err-unreadable c).Else-not-contains) _
    (cut_ill a.node.now a.inbox.now sound _ c.in_err-unreadable.ensures))

pub take-requires : goal.take-requires
take-requires c =
    let a = c.args in
    let sound = fine (goal.at.take-requires c).Else-not-is_sound in
    let t = cut_well a.node.now a.inbox.now sound _ c.in_ok-unreadable.ensures in
    (sound, rounds (goal.at.take-requires c).Else-not-contains, t.0, t.1)
