use Rattle.std.proofs.Common.{◌≡◌}
use Rattle.laws.specs.Masks.{mask_of}
use Rattle.rules.specs.Signers.{signer}
use Rattle.signing.specs.Slots.{slot_of}
use Rattle.signing.proofs.count.signers_mask.Given as goal

abbrev pub invariant-loop-j : goal.invariant-loop-j
invariant-loop-j l = l.mask ≡ mask_of (signer l.me l.mark (slot_of l.slots)) l.j
