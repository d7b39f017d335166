use Rattle.std.proofs.Common.{◌≡◌}
use Rattle.text.proofs.Pairs.{Hexed}
use Rattle.text.proofs.hex.pairs_into.Given as goal

abbrev pub invariant-loop-i : goal.invariant-loop-i
invariant-loop-i l = record {
  hexed : Hexed l.s l.initial.output l.output l.i-iterator.count l.i-iterator.iter.rest.now;
  two : l.i-iterator.iter.size ≡ 2;
}
