-- The runs are what was computed.
use mathlib.Core.Path.{refl}
use Rattle.runs.proofs.Agreeing.{schedule_runs, shown_runs, too_long_runs, counted_runs}
use Rattle.runs.proofs.premises_can_be_met.Goals as goal

pub returns : goal.returns
returns c = (refl, schedule_runs, shown_runs, too_long_runs, counted_runs)
