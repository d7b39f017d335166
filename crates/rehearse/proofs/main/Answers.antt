-- No more is told than there is room for, so what is told is a part of the output.
use mathlib.Core.Path.{sym}
use native.Mathlib.Omega.{arith}
use lib.Seq.{length-take-le}
use Rattle.rehearsal.proofs.Tellings.{told_within}
use Rattle.rehearse.proofs.main.Goals as goal

pub slice_bounds-output-end : goal.slice_bounds-output-end
slice_bounds-output-end c = omega (arith, told_within _ _ _ _ c.rehearsal.ensures, c.unwrap_or-length.ensures)

pub slice_bounds-write_all-end : goal.slice_bounds-write_all-end
slice_bounds-write_all-end c = sym (length-take-le c.unwrap_or-length.result _ (omega (arith, told_within _ _ _ _ c.rehearsal.ensures, c.unwrap_or-length.ensures)))
