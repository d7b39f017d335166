-- Runs in which one premise fails and a correct node is refused: all of it is computed.
use mathlib.Core.Path.{refl}
use mathlib.Core.List.{[], ◌∷◌}
use Rattle.rules.specs.Sizes.{log_most}
use Rattle.wire.specs.Sizes.{message_most}
use Rattle.runs.specs.Premises.{nodes, above, trays, well_formed, opening_room, step_room, closing_room, cut}
use Rattle.runs.specs.Schedule.{hall_of}
use Rattle.runs.specs.NoRoom.{no_room, NoRoomRuns}
use Rattle.runs.specs.HalfFaulty.{half_faulty, HalfFaultyRuns}
use Rattle.runs.specs.Alone.{hall as alone, own, unsound, silence, AloneRuns}
use Rattle.runs.proofs.Computing.{computing}
use Rattle.runs.proofs.Failing.{refused}

pub no_room_runs : NoRoomRuns
unfolding computing
no_room_runs = record {
  twelve = refl;
  sent = refl;
  node1 = refl;
  node2 = record { makes = refl; its = refl };
  needed = refused no_room step_room 1 refl refl refl;
}

pub half_faulty_runs : HalfFaultyRuns
unfolding computing
half_faulty_runs = record {
  not_made = refl;
  node1 = refl;
  needed = refused (hall_of half_faulty) above 1 refl refl refl;
  refused = refl;
  alone = refl;
  one = refl;
  too_few = refl;
}

pub alone_runs : AloneRuns
unfolding computing
alone_runs = record {
  makes = record { makes = refl; its = refl };
  seventeen = record { answer = refl; needed = refused (alone 17 own (silence 17) message_most [] log_most) nodes 0 refl refl refl };
  no_tray = record { answer = refl; needed = refused (alone 1 unsound (silence 1) message_most [] log_most) trays 0 refl refl refl };
  no_log = record { answer = refl; needed = refused (alone 1 own (silence 1) message_most (2 ∷ 1 ∷ []) log_most) well_formed 0 refl refl refl };
  no_outbox = record { answer = refl; needed = refused (alone 1 own (silence 1) 11 [] log_most) opening_room 0 refl refl refl };
  no_output = record { answer = refl; needed = refused (alone 1 own (silence 1) message_most [] 0) closing_room 0 refl refl refl };
  ill_cut = record { answer = refl; needed = refused (alone 1 own (0 ∷ []) message_most [] log_most) cut 0 refl refl refl };
}
