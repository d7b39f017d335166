-- The premises that a node's own calls ask for are needed: where one of them alone fails a call refuses, so that the close answers neither a log nor that the
-- log is full. Nobody is faulty, and all nodes are alike.
use Rattle.std.specs.Prelude.{ℕ, ◌*◌, ◌≡◌, false, List, [], ◌∷◌, replicate}
use Rattle.rules.specs.Sizes.{log_most}
use Rattle.wire.specs.Sizes.{message_most, length_size}
use Rattle.entries.specs.Fields.{entry}
use Rattle.tray.specs.Trays.{tray_with, tray_of}
use Rattle.tray.specs.declared.Tray.{Tray}
use Rattle.agreement.specs.Hall.{Hall, closes}
use Rattle.runs.specs.Premises.{Premise, nodes, trays, well_formed, opening_room, closing_room, cut}
use Rattle.runs.specs.Outcomes.{Needed, Makes}

abbrev pub hall : (n : ℕ) (tray : Tray) (inbox : List ℕ) (room : ℕ) (old : List ℕ) (output : ℕ) → Hall
hall n tray inbox room old output = record {
  n = n;
  f = 0;
  faulty = λ j. false;
  tray = λ i. tray;
  inbox = λ i r. inbox;
  room = λ i r. room;
  old = old;
  output = λ i. output;
}

abbrev pub own : Tray
own = tray_of (entry 0 0 1 ∷ [])

-- two entries, of which the first is the greater
abbrev pub unsound : Tray
unsound = tray_with 2 (2 ∷ 1 ∷ replicate 14 0)

-- the inbox of n silent nodes
abbrev pub silence : ℕ → List ℕ
silence n = replicate (n * length_size) 0

-- the premise is needed, by a run in which node 0's close answers this number
pub record Refused (p : Premise) (run : Hall) (number : ℕ) : Type 0 where
  pub answer : closes run 0 ≡ number
  pub needed : Needed p run

pub record AloneRuns : Type 0 where
  -- nothing fails: P1
  pub makes : Makes (hall 1 own (silence 1) message_most [] log_most) 0 (entry 0 0 1 ∷ [])
  -- seventeen nodes: none is made, and a node of zeros is not sound
  pub seventeen : Refused nodes (hall 17 own (silence 17) message_most [] log_most) 2
  -- a tray that is not sound: the node does not open, so its close comes too early
  pub no_tray : Refused trays (hall 1 unsound (silence 1) message_most [] log_most) 3
  -- an old log that does not ascend
  pub no_log : Refused well_formed (hall 1 own (silence 1) message_most (2 ∷ 1 ∷ []) log_most) 7
  -- one byte too few for the opening, which has twelve; no place for the log, which has one entry
  pub no_outbox : Refused opening_room (hall 1 own (silence 1) 11 [] log_most) 3
  pub no_output : Refused closing_room (hall 1 own (silence 1) message_most [] 0) 9
  -- an inbox one byte too short
  pub ill_cut : Refused cut (hall 1 own (0 ∷ []) message_most [] log_most) 3
