-- The decimal logarithm tells how many digits there are; zero has one.
use Rattle.std.proofs.Common.{arith}
use Rattle.print.proofs.Lengths.{decimal_length}
use Rattle.print.proofs.Printing.{small_length}
use Rattle.print.proofs.sizes.number_size.Goals as goal

pub returns-in-Some : goal.returns-in-Some
returns-in-Some c =
    let l = c.in-Some.ensures in
    omega (arith, decimal_length c.in-Some.power c.args.v l.power_le l.next_power_gt, l.bound)

pub returns-in-None : goal.returns-in-None
returns-in-None c = omega (arith, small_length c.args.v (omega (arith, c.in-None.ensures.none)), c.in-None.ensures.none)
