use Prim.Native.Nat.{◌+◌}
use mathlib.Core.Path.{◌≡◌}
use lib.ListN.{length, take}
use Rattle.print.specs.Texts.{more_text}
use Rattle.print.proofs.sizes.more_fits.Given as goal

abbrev pub invariant-loop-x : goal.invariant-loop-x
invariant-loop-x l = (length (more_text l.kind (take l.x-index l.xs)) + l.left ≡ l.room)
