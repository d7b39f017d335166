use Rattle.std.proofs.Common.{length}
use Rattle.text.proofs.Commas.{Going}
use Rattle.text.proofs.list.read_list.Given as goal

abbrev pub invariant-loop-part : goal.invariant-loop-part
invariant-loop-part l = Going l.kind l.s l.entries l.count l.last (length l.yielded)
