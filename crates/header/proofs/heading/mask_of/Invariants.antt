use Rattle.std.proofs.Common.{◌≡◌, ℕ}
use Rattle.laws.specs.Masks.{mask_of}
use Rattle.laws.specs.Members.{holds}
use Rattle.header.proofs.heading.mask_of.Given as goal

abbrev pub invariant-loop-node : goal.invariant-loop-node
invariant-loop-node l = l.mask ≡ mask_of (λ (j : ℕ). holds j l.nodes) l.node
