-- What demand 3 grants of a run, premise by premise.
use Rattle.std.specs.Prelude.{ℕ}
use Rattle.agreement.specs.Hall.{Hall}
use Rattle.agreement.specs.Granted.{Correct, Nodes, Few, Above, Trays, Entries, WellFormed, RoomToOpen, RoomToStep, RoomToClose, Cut, Bytes, Whole, Unforged}

-- the fields of `Granted`, and of `Room` in it
pub data Premise : Type 0 where
  nodes : Premise
  few : Premise
  above : Premise
  trays : Premise
  entries : Premise
  well_formed : Premise
  opening_room : Premise
  step_room : Premise
  closing_room : Premise
  cut : Premise
  bytes : Premise
  whole : Premise
  unforged : Premise

abbrev pub Holds : Hall → Premise → Type 0
Holds hall nodes = Nodes hall
Holds hall few = Few hall
Holds hall above = Above hall
Holds hall trays = Trays hall
Holds hall entries = Entries hall
Holds hall well_formed = WellFormed hall
Holds hall opening_room = (i : ℕ) → Correct hall i → RoomToOpen hall i
Holds hall step_room = (i : ℕ) → Correct hall i → RoomToStep hall i
Holds hall closing_room = (i : ℕ) → Correct hall i → RoomToClose hall i
Holds hall cut = Cut hall
Holds hall bytes = Bytes hall
Holds hall whole = Whole hall
Holds hall unforged = Unforged hall
