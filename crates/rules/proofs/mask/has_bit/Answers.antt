-- A mask has no bit 16 or above.
use Rattle.std.proofs.Common.{arith}
use Rattle.std.proofs.lemmas.Bool.Decides.{nat_tests}
use Rattle.laws.proofs.Bits.{low_bits}
use Rattle.rules.proofs.mask.has_bit.Goals as goal

pub returns-else-j-lt-NODES_MOST : goal.returns-else-j-lt-NODES_MOST
returns-else-j-lt-NODES_MOST c =
    let a = c.args in
    let z = low_bits 16 a.mask (omega arith) a.j (omega arith) in
    grind (arith, nat_tests)
