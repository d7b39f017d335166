-- What crosses to C in numbers. "Where an answer is an enum, a definition gives this paper's number and values for each of its cases, and the promises
-- use that definition." "A refusal returns the number and nothing else of use (counts and masks 0); tray, state and outputs stay unchanged." Of each answer:
-- the numbers that tell it, and the promise, which is the wrapped call's own promise of an answer, told so and with nothing beside it.
use Rattle.std.specs.Prelude.{ℕ, ◌+◌, ◌≤◌, ◌≡◌, true, false, List, length, take, drop, Option, Some, None, Result, Ok, Err}
use Rattle.std.specs.Result.{result_unwrap_or}
use Rattle.std.specs.Borrow.{Bor}
use Rattle.rules.specs.Refusals.{done}
use Rattle.rules.specs.Answers.{number_of, number_in}
use Rattle.rules.specs.declared.refusal.Refusal.{Refusal}
use Rattle.rules.specs.Vote.{Vote}
use Rattle.rules.specs.Signers.{Mark}
use Rattle.wire.specs.Reader.{ReadRecord, BatchHanded, onward}
use Rattle.wire.specs.Message.{ReadMessage}
use Rattle.wire.specs.Writer.{WriteRecord}
use Rattle.wire.specs.Inbox.{ReadInbox}
use Rattle.wire.specs.declared.Reading.{Reading}
use Rattle.tray.specs.Put.{Put}
use Rattle.tray.specs.declared.Tray.{Tray}
use Rattle.node.specs.State.{fresh, New}
use Rattle.node.specs.Opening.{Open}
use Rattle.node.specs.declared.Node.{Node}
use Rattle.step.specs.Step.{Step}
use Rattle.step.specs.declared.Stepped.{Stepped as Taken}
use Rattle.closing.specs.Close.{Close}
use Rattle.signing.specs.Count.{SignersAre}
use Rattle.reading_log.specs.Bar.{BarIs}
use Rattle.host.specs.declared.ToldRecord.{ToldRecord}
use Rattle.host.specs.declared.BatchPart.{BatchPart}
use Rattle.host.specs.declared.ToldMessage.{ToldMessage}
use Rattle.host.specs.declared.ToldWritten.{ToldWritten}
use Rattle.host.specs.declared.Heard.{Heard}
use Rattle.host.specs.declared.Made.{Made}
use Rattle.host.specs.declared.Opened.{Opened}
use Rattle.host.specs.declared.Stepped.{Stepped}
use Rattle.host.specs.declared.Closed.{Closed}
use Rattle.host.specs.declared.SigningCount.{SigningCount}
use Rattle.host.specs.declared.MeterBar.{MeterBar}

-- an answer that the call promises is told so, and nothing beside it
pub record Tells {A T : Type 0} (Promised : A → Type 0) (tell : A → T) (told : T) : Type 0 where
  pub answer : A
  pub promised : Promised answer
  pub alone : told ≡ tell answer

-- ---- a record

abbrev pub tell_record : Result (Option Reading) Refusal → ToldRecord
tell_record (Ok (Some vote)) = record {
  number = done;
  readable = true;
  mask = vote.mask;
  primary = vote.primary;
  count = vote.count;
  next = vote.next;
}
tell_record (Ok None) = record { number = done; readable = false; mask = 0; primary = 0; count = 0; next = 0 }
tell_record (Err row) = record { number = number_of row; readable = false; mask = 0; primary = 0; count = 0; next = 0 }

abbrev pub TellsRecord : (n : ℕ) (part : List ℕ) (told : ToldRecord) → Type 0
TellsRecord n part told = Tells (ReadRecord n part) tell_record told

-- ---- the batch's bytes

-- the bytes that stand where the answer says
abbrev pub bytes_in : List ℕ → BatchPart → List ℕ
bytes_in part answer = take answer.size (drop answer.start part)

-- the part of the caller's memory that the answer tells
abbrev pub handed_in : Bor (List ℕ) → BatchPart → Bor (List ℕ)
handed_in part answer = record { ref_ptr = onward answer.start part.ref_ptr; now = bytes_in part.now answer }

-- it lies within the part that was handed in
pub record TellsPart (n : ℕ) (part : Bor (List ℕ)) (answer : BatchPart) : Type 0 where
  pub promised : BatchHanded n part (handed_in part answer)
  pub within : answer.start + answer.size ≤ length part.now

-- ---- a message

abbrev pub tell_message : Result (Option ℕ) Refusal → ToldMessage
tell_message (Ok (Some votes)) = record { number = done; readable = true; votes = votes }
tell_message (Ok None) = record { number = done; readable = false; votes = 0 }
tell_message (Err row) = record { number = number_of row; readable = false; votes = 0 }

abbrev pub TellsMessage : (n : ℕ) (message : List ℕ) (told : ToldMessage) → Type 0
TellsMessage n message told = Tells (ReadMessage n message) tell_message told

-- ---- a record written

abbrev pub tell_written : Result ℕ Refusal → ToldWritten
tell_written answer = record { number = number_in answer; size = result_unwrap_or answer 0 }

abbrev pub TellsWritten : (n : ℕ) (v : Vote) (output : List ℕ) (told : ToldWritten) (after : List ℕ) → Type 0
TellsWritten n v output told after = Tells (λ answer. WriteRecord n v output answer after) tell_written told

-- ---- an inbox

abbrev pub tell_heard : Result ℕ Refusal → Heard
tell_heard answer = record { number = number_in answer; unreadable = result_unwrap_or answer 0 }

abbrev pub TellsInbox : (n me : ℕ) (inbox : List ℕ) (told : Heard) → Type 0
TellsInbox n me inbox told = Tells (ReadInbox n me inbox) tell_heard told

-- ---- the tray: the number alone

abbrev pub TellsPut : (before : Tray) (entry number : ℕ) (after : Tray) → Type 0
TellsPut before entry number after = Tells (λ answer. Put before entry answer after) number_in number

-- ---- the node: a node of zeros where none is made, and after a call the node as that call left it

abbrev pub tell_made : Result Node Refusal → Made
tell_made answer = record { number = number_in answer; node = result_unwrap_or answer (fresh 0 0 0) }

abbrev pub TellsNew : (n f me : ℕ) (told : Made) → Type 0
TellsNew n f me told = Tells (New n f me) tell_made told

abbrev pub tell_opened : Result ℕ Refusal × Node → Opened
tell_opened (answer, node) = record { number = number_in answer; length = result_unwrap_or answer 0; node = node }

abbrev pub TellsOpen : (s : Node) (t : Tray) (outbox : List ℕ) (told : Opened) (after : List ℕ) → Type 0
TellsOpen s t outbox told after = Tells (λ (answer, node). Open s t outbox answer node after) tell_opened told

abbrev pub tell_stepped : Result Taken Refusal × Node → Stepped
tell_stepped (Ok taken, node) = record { number = done; length = taken.length; unreadable = taken.unreadable; node = node }
tell_stepped (Err row, node) = record { number = number_of row; length = 0; unreadable = 0; node = node }

abbrev pub TellsStep : (s : Node) (inbox outbox : List ℕ) (told : Stepped) (after : List ℕ) → Type 0
TellsStep s inbox outbox told after = Tells (λ (answer, node). Step s inbox outbox answer node after) tell_stepped told

-- ---- the log

abbrev pub tell_closed : Result ℕ Refusal → Closed
tell_closed answer = record { number = number_in answer; length = result_unwrap_or answer 0 }

abbrev pub TellsClose : (s : Node) (old output : List ℕ) (told : Closed) (after : List ℕ) → Type 0
TellsClose s old output told after = Tells (λ answer. Close s old output answer after) tell_closed told

abbrev pub tell_signers : Result ℕ Refusal → SigningCount
tell_signers answer = record { number = number_in answer; mask = result_unwrap_or answer 0 }

abbrev pub TellsSigners : (n f me : ℕ) (mark : Mark) (slots : List ℕ) (told : SigningCount) → Type 0
TellsSigners n f me mark slots told = Tells (SignersAre n f me mark slots) tell_signers told

abbrev pub tell_bar : Result ℕ Refusal → MeterBar
tell_bar answer = record { number = number_in answer; sum = result_unwrap_or answer 0 }

abbrev pub TellsBar : (log : List ℕ) (meter first last : ℕ) (told : MeterBar) → Type 0
TellsBar log meter first last told = Tells (BarIs log meter first last) tell_bar told
