-- Three nodes, of which 0 is faulty and silent, 1 opens with 1.5.40 and 2 with 2.5.60; what arrives is told line by line, and the room lent for what is sent.
use Rattle.std.specs.Prelude.{ℕ, List, [], ◌∷◌, eqb, get_or}
use Rattle.rules.specs.Sizes.{log_most}
use Rattle.rules.specs.Vote.{Batch, Vote}
use Rattle.rules.specs.Step.{gather}
use Rattle.wire.specs.Inbox.{inbox_bytes}
use Rattle.tray.specs.Trays.{tray_of}
use Rattle.entries.specs.Fields.{entry}
use Rattle.agreement.specs.Hall.{Hall}
use Rattle.runs.specs.Schedule.{vote, Send, given}

abbrev own1 : Batch
own1 = entry 1 5 40 ∷ []

abbrev own2 : Batch
own2 = entry 2 5 60 ∷ []

-- the openings, and what each passes on of the other's
abbrev pub opening1 : List Vote
opening1 = vote 1 (1 ∷ []) own1 ∷ []

abbrev pub opening2 : List Vote
opening2 = vote 2 (2 ∷ []) own2 ∷ []

abbrev pub passed1 : List Vote
passed1 = vote 2 (1 ∷ 2 ∷ []) own2 ∷ []

abbrev pub passed2 : List Vote
passed2 = vote 1 (1 ∷ 2 ∷ []) own1 ∷ []

-- what node i is handed in round r
unfoldable pub inbox : (arrive : List Send) (i r : ℕ) → List ℕ
inbox arrive i r = inbox_bytes (gather (λ (j : ℕ). given arrive r j i ∷ []) 3)

abbrev pub hall : (arrive : List Send) (room : ℕ → ℕ → ℕ) → Hall
hall arrive room = record {
  n = 3;
  f = 1;
  faulty = λ j. eqb j 0;
  tray = λ i. tray_of (get_or ([] ∷ own1 ∷ own2 ∷ []) i []);
  inbox = inbox arrive;
  room = room;
  old = [];
  output = λ i. log_most;
}
