use Prim.Native.Nat.{◌≤◌}
use lib.ListN.{length, take}
use Rattle.print.specs.Texts.{more_text}
use Rattle.print.proofs.Printing.{Over}
use Rattle.print.proofs.fill.all_more.Given as goal

abbrev pub invariant-loop-x : goal.invariant-loop-x
invariant-loop-x l = (length (more_text l.kind l.xs) ≤ length l.initial.output) × Over (more_text l.kind (take l.x-index l.xs)) l.initial.output
    l.at l.output
