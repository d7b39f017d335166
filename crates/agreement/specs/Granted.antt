-- What demand 3 grants, and nothing else. "Take a run with at most f faulty nodes of n, n above 2f, all correct nodes on the same well-formed old log,
-- stepping in order with room enough. Messages among correct nodes arrive whole in their round. Faulty nodes send anything, but show a correct node's vote
-- only if that node sent it this run, in that round or before."
use Rattle.std.specs.Prelude.{ℕ, suc, ◌+◌, ◌*◌, ◌≤◌, ◌<◌, ◌≡◌, ◌≢◌, true, false, List, length}
use Rattle.std.proofs.Math.Option.{some}
use Rattle.laws.specs.Masks.{count}
use Rattle.laws.specs.Members.{In}
use Rattle.rules.specs.Sizes.{sized, fits, is_log}
use Rattle.rules.specs.Refusals.{done}
use Rattle.rules.specs.Vote.{Batch, Vote, opened, shows}
use Rattle.rules.specs.Signers.{Mark}
use Rattle.entries.specs.Bytes.{AreBytes, AreEntries}
use Rattle.wire.specs.Record.{record_bytes}
use Rattle.wire.specs.Message.{votes_of, message_bytes}
use Rattle.wire.specs.Inbox.{message_of, well_cut}
use Rattle.tray.specs.Trays.{entries_of, sound_tray}
use Rattle.step.specs.Step.{passed_by}
use Rattle.signing.specs.Slots.{are_slots, slot_of}
use Rattle.agreement.specs.Hall.{Hall, node_after, sends, closes, log_of}

-- a round of the run, 1 to f + 1
pub record Round (hall : Hall) (r : ℕ) : Type 0 where
  pub first : 1 ≤ r
  pub last : r ≤ hall.f + 1

pub record Correct (hall : Hall) (i : ℕ) : Type 0 where
  pub node : i < hall.n
  pub fine : hall.faulty i ≡ false

pub record Faulty (hall : Hall) (j : ℕ) : Type 0 where
  pub node : j < hall.n
  pub lies : hall.faulty j ≡ true

-- node c's outbox of round r or before has a record of primary p and batch b
pub record HasSent (hall : Hall) (r c p : ℕ) (b : Batch) : Type 0 where
  pub round : ℕ
  pub by : round ≤ r
  pub votes : List Vote
  pub read : votes_of hall.n (sends hall c round) ≡ some votes
  pub vote : Vote
  pub its : In vote votes
  pub of : vote.primary ≡ p
  pub says : vote.batch ≡ b

-- ---- the run: its premises by name, each under the demand's words

module _ (hall : Hall) where
  -- n nodes, 1 to 16
  abbrev pub Nodes : Type 0
  Nodes = sized hall.n ≡ true

  -- "at most f faulty nodes of n"
  abbrev pub Few : Type 0
  Few = count hall.faulty hall.n ≤ hall.f

  -- "n above 2f"
  abbrev pub Above : Type 0
  Above = 2 * hall.f < hall.n

  -- each correct node opens with a sound tray, of 64-bit numbers as its type has it
  abbrev pub Trays : Type 0
  Trays = (i : ℕ) → Correct hall i → sound_tray (hall.tray i) ≡ true

  abbrev pub Entries : Type 0
  Entries = (i : ℕ) → Correct hall i → AreEntries (entries_of (hall.tray i))

  -- "all correct nodes on the same well-formed old log"
  abbrev pub WellFormed : Type 0
  WellFormed = is_log hall.old ≡ true

  -- "stepping in order with room enough": each output lent to node i is as long as what is written into it
  abbrev pub RoomToOpen : ℕ → Type 0
  RoomToOpen i = length (record_bytes (opened i (entries_of (hall.tray i)))) ≤ hall.room i 1

  abbrev pub RoomToStep : ℕ → Type 0
  RoomToStep i = (r : ℕ) → Round hall (suc r) → length (message_bytes (passed_by (node_after hall i r) (hall.inbox i (suc r)))) ≤ hall.room i (suc (suc r))

  -- a log that is not full is written
  abbrev pub RoomToClose : ℕ → Type 0
  RoomToClose i = fits (log_of hall i) ≡ true → length (log_of hall i) ≤ hall.output i

  -- "In a run the transport cuts every inbox well"; an inbox is bytes, as its type has it
  abbrev pub Cut : Type 0
  Cut = (i r : ℕ) → Correct hall i → Round hall r → well_cut hall.n (hall.inbox i r) ≡ true

  abbrev pub Bytes : Type 0
  Bytes = (i r : ℕ) → Correct hall i → Round hall r → AreBytes (hall.inbox i r)

  -- "Messages among correct nodes arrive whole in their round."
  abbrev pub Whole : Type 0
  Whole = (i j r : ℕ) → Correct hall i → Correct hall j → i ≢ j → Round hall r → message_of (hall.inbox i r) j ≡ sends hall j r

  -- "Faulty nodes send anything, but show a correct node's vote only if that node sent it this run, in that round or before."
  abbrev pub Unforged : Type 0
  Unforged =
      (i j r : ℕ) → Correct hall i → Faulty hall j → Round hall r
      → (votes : List Vote) → votes_of hall.n (message_of (hall.inbox i r) j) ≡ some votes → (v : Vote) → In v votes
      → (c : ℕ) → Correct hall c → shows c v ≡ true → HasSent hall r c v.primary v.batch

-- room enough for node i
pub record Room (hall : Hall) (i : ℕ) : Type 0 where
  pub opens : RoomToOpen hall i
  pub steps : RoomToStep hall i
  pub closing : RoomToClose hall i

-- all of them
pub record Granted (hall : Hall) : Type 0 where
  pub nodes : Nodes hall
  pub few : Few hall
  pub above : Above hall
  pub trays : Trays hall
  pub entries : Entries hall
  pub well_formed : WellFormed hall
  pub room : (i : ℕ) → Correct hall i → Room hall i
  pub cut : Cut hall
  pub bytes : Bytes hall
  pub whole : Whole hall
  pub unforged : Unforged hall

-- ---- signing: "Where equal logs get equal marks, and each correct node that made a log signs that log's mark and no other, and its speaking slot reaches
-- every correct node, and a correct node without a log signs and counts none"

-- node j made a log, and m is its mark
pub record Marked (hall : Hall) (mark : ℕ → Mark) (j : ℕ) (m : Mark) : Type 0 where
  pub makes : closes hall j ≡ done
  pub its : m ≡ mark j

-- n slots of 33 bytes; slots i: what node i is handed
abbrev pub SlotsCut : (hall : Hall) (slots : ℕ → List ℕ) → Type 0
SlotsCut hall slots = (i : ℕ) → Correct hall i → are_slots hall.n (slots i) ≡ true

-- mark j: the mark of node j's log, where it made one
module _ (hall : Hall) (mark : ℕ → Mark) where
  -- "Where equal logs get equal marks"
  abbrev pub Alike : Type 0
  Alike = (i j : ℕ) → Correct hall i → Correct hall j → closes hall i ≡ done → closes hall j ≡ done → log_of hall i ≡ log_of hall j → mark i ≡ mark j

  -- "and its speaking slot reaches every correct node"
  abbrev pub Reaches : (slots : ℕ → List ℕ) → Type 0
  Reaches slots = (i j : ℕ) → Correct hall i → Correct hall j → i ≢ j → closes hall j ≡ done → slot_of (slots i) j ≡ some (mark j)

  -- "each correct node that made a log signs that log's mark and no other", "a correct node without a log signs .. none"; the counter's own slot is not read
  abbrev pub Signs : (k : ℕ) (slots : List ℕ) → Type 0
  Signs k slots = (j : ℕ) (x : Mark) → Correct hall j → j ≢ k → slot_of slots j ≡ some x → Marked hall mark j x

  -- ".. and counts none": one with a log counts that log's mark
  abbrev pub Counts : (k : ℕ) (m : Mark) → Type 0
  Counts k m = Correct hall k → Marked hall mark k m

-- what every correct node is handed
pub record Signing (hall : Hall) (mark : ℕ → Mark) (slots : ℕ → List ℕ) : Type 0 where
  pub cut : SlotsCut hall slots
  pub alike : Alike hall mark
  pub reaches : Reaches hall mark slots

-- node k, correct or faulty, counts the signers of m in these slots
pub record Counting (hall : Hall) (mark : ℕ → Mark) (k : ℕ) (m : Mark) (slots : List ℕ) : Type 0 where
  pub signs : Signs hall mark k slots
  pub counts : Counts hall mark k m
