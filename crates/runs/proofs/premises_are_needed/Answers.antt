-- The runs are what was computed.
use mathlib.Core.Path.{refl}
use Rattle.runs.proofs.Parting.{forged_runs, next_round_runs, not_whole_runs, too_many_runs}
use Rattle.runs.proofs.Refusing.{no_room_runs, half_faulty_runs, alone_runs}
use Rattle.runs.proofs.Unsigning.{unsigned_runs}
use Rattle.runs.proofs.premises_are_needed.Goals as goal

pub returns : goal.returns
returns c = (refl, alone_runs, no_room_runs, half_faulty_runs, too_many_runs, not_whole_runs, forged_runs, next_round_runs, unsigned_runs)
