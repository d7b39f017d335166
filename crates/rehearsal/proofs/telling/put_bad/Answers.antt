-- A line's number is a machine's word.
use Rattle.std.proofs.Common.{refl}
use Rattle.rehearsal.proofs.Tellings.{bad_tells}
use Rattle.rehearsal.proofs.telling.put_bad.Goals as goal

pub returns : goal.returns
returns c = bad_tells c.args.line _ _ _ _ c.ranges.line.fits refl c.put_number_line.ensures
