-- A 16-bit mask has no bit 16 or above.
use Rattle.std.proofs.Common.{◌^◌, ◌≤◌, arith, le-leb}
use Rattle.std.proofs.lemmas.Bool.{lt-leb}
use lib.Pow.{pow_mono}
use Rattle.wire.proofs.mask.fits.Goals as goal

pub returns-then-n-ge-NODES_MOST : goal.returns-then-n-ge-NODES_MOST
returns-then-n-ge-NODES_MOST c =
    let a = c.args in
    let wide : 2 ^ 16 ≤ 2 ^ a.n = pow_mono c.if-n-ge-NODES_MOST.true in
    simp (le-leb 16 a.n c.if-n-ge-NODES_MOST.true, lt-leb (2 ^ a.n) a.mask (omega arith))
