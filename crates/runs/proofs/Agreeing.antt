-- Runs that keep the premises: all of it is computed.
use mathlib.Core.Path.{refl}
use Rattle.runs.specs.Schedule.{hall_of}
use Rattle.runs.specs.Document.{schedule, ScheduleRuns}
use Rattle.runs.specs.Shown.{ShownRuns, hall as shown-hall}
use Rattle.runs.specs.TooLong.{too_long, TooLongRuns}
use Rattle.runs.specs.Counted.{hall as signed-hall, made, strange, mark, slots, CountedRuns}
use Rattle.runs.proofs.Computing.{computing}
use Rattle.runs.proofs.Deciding.{tested_granted}
use Rattle.runs.proofs.Signing.{signing_by, counting_by}

pub schedule_runs : ScheduleRuns
unfolding computing
schedule_runs = record {
  bytes = refl;
  node1 = record { makes = refl; its = refl };
  node2 = record { makes = refl; its = refl };
  rule = refl;
  granted = tested_granted (hall_of schedule) refl;
}

pub shown_runs : ShownRuns
unfolding computing
shown_runs = record {
  before = refl;
  not_before = refl;
  that_round = refl;
  rule = refl;
  granted = tested_granted shown-hall refl;
  kept2 = refl;
  kept3 = refl;
  kept4 = refl;
  node2 = record { makes = refl; its = refl };
  node3 = record { makes = refl; its = refl };
  node4 = record { makes = refl; its = refl };
}

pub too_long_runs : TooLongRuns
unfolding computing
too_long_runs = record {
  silence = refl;
  node1 = record { makes = refl; its = refl };
  node2 = record { makes = refl; its = refl };
  granted = tested_granted (hall_of too_long) refl;
}

pub counted_runs : CountedRuns
unfolding computing
counted_runs = record {
  granted = schedule_runs.granted;
  signing = signing_by signed-hall mark slots refl refl refl;
  node1 = record { counting = counting_by signed-hall mark 1 made (slots 1) refl refl; number = refl; mask = refl };
  node2 = record { counting = counting_by signed-hall mark 2 made (slots 2) refl refl; number = refl; mask = refl };
  alone0 = record { counting = counting_by signed-hall mark 0 strange (slots 0) refl refl; number = refl; mask = refl };
  node0 = record { counting = counting_by signed-hall mark 0 made (slots 0) refl refl; number = refl; mask = refl };
}
