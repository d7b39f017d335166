-- Before the turn of a node the mask is that of the nodes below it.
use Rattle.std.proofs.Common.{◌∙◌, ◌≡◌, ap, arith, refl, ℕ}
use Rattle.laws.specs.Masks.{mask_of}
use Rattle.laws.specs.Members.{holds}
use Rattle.laws.proofs.Bits.{mask_fits, mask_turn, shifted_bit}
use Rattle.rules.specs.Sizes.{nodes_most}
use Rattle.header.proofs.Heads.{holds_is}
use Rattle.header.proofs.heading.mask_of.Goals as goal

pub loop-node-init : goal.loop-node-init
unfolding mask_of
loop-node-init c = refl

pub overflow_add-mask : goal.overflow_add-mask
overflow_add-mask c =
    let a = c.args in
    let l = c.loop-node in
    let bit = shifted_bit _ _ l.node nodes_most c.loop-node-test.true (c.contains.ensures.value ∙ holds_is l.node a.nodes.now) in
    omega (arith, mask_fits nodes_most (λ (j : ℕ). holds j a.nodes.now) l.node l.mask _ l.invariant bit c.loop-node-test.true)

pub loop-node-preserved : goal.loop-node-preserved
loop-node-preserved c =
    let a = c.args in
    let l = c.loop-node in
    let bit = shifted_bit _ _ l.node nodes_most c.loop-node-test.true (c.contains.ensures.value ∙ holds_is l.node a.nodes.now) in
    mask_turn nodes_most (λ (j : ℕ). holds j a.nodes.now) l.node l.mask _ l.invariant bit

pub returns : goal.returns
returns c =
    let l = c.loop-node in
    let all : l.node ≡ nodes_most = omega arith in
    l.invariant ∙ ap (mask_of (λ (j : ℕ). holds j c.args.nodes.now)) all
