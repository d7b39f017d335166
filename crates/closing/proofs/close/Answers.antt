-- The sizes of a sound node keep f small.
use Rattle.std.proofs.Common.{sym, ◌∙◌, arith}
use Rattle.node.proofs.Sound.{sound_sizes}
use Rattle.closing.proofs.close.Goals as goal

pub overflow_add-node : goal.overflow_add-node
overflow_add-node c =
    let z = sound_sizes c.args.node (sym c.is_sound.ensures ∙ c.if-not-is_sound.false) in
    omega (arith, z.most, z.half)
