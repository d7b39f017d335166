-- Runs in which one premise fails and two correct nodes make different logs: all of it is computed.
use mathlib.Core.Path.{refl}
use Rattle.runs.specs.Premises.{few, whole, unforged}
use Rattle.runs.specs.Schedule.{hall_of}
use Rattle.runs.specs.Forged.{forged, ForgedRuns}
use Rattle.runs.specs.NextRound.{NextRoundRuns, hall as next-round-hall}
use Rattle.runs.specs.NotWhole.{not_whole, NotWholeRuns}
use Rattle.runs.specs.TooMany.{too_many, TooManyRuns}
use Rattle.runs.proofs.Computing.{computing}
use Rattle.runs.proofs.Failing.{parted}

pub forged_runs : ForgedRuns
unfolding computing
forged_runs = record {
  rule = refl;
  node1 = record { makes = refl; its = refl };
  node2 = record { makes = refl; its = refl };
  needed = parted (hall_of forged) unforged 1 2 refl refl refl refl refl;
}

pub next_round_runs : NextRoundRuns
unfolding computing
next_round_runs = record {
  rule = refl;
  not_yet = refl;
  next = refl;
  node2 = record { makes = refl; its = refl };
  node3 = record { makes = refl; its = refl };
  node4 = record { makes = refl; its = refl };
  needed = parted next-round-hall unforged 2 3 refl refl refl refl refl;
}

pub not_whole_runs : NotWholeRuns
unfolding computing
not_whole_runs = record {
  sent = refl;
  lost = refl;
  node1 = record { makes = refl; its = refl };
  node2 = record { makes = refl; its = refl };
  needed = parted not_whole whole 1 2 refl refl refl refl refl;
}

pub too_many_runs : TooManyRuns
unfolding computing
too_many_runs = record {
  rule = refl;
  node1 = record { makes = refl; its = refl };
  node2 = record { makes = refl; its = refl };
  needed = parted (hall_of too_many) few 1 2 refl refl refl refl refl;
}
