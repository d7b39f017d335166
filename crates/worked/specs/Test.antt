-- A test: a call, what it is handed, and its whole answer, the nodes, bytes and entries of lent memory included. It holds when the call's promise allows that
-- answer and no other.
use Rattle.std.specs.Prelude.{ℕ, ◌≡◌, List, [], ◌∷◌, Option, Result}
use Rattle.std.proofs.Math.Option.{Option as Maybe}
use Rattle.rules.specs.declared.refusal.Refusal.{Refusal}
use Rattle.rules.specs.Vote.{Batch, Vote}
use Rattle.rules.specs.Signers.{Mark}
use Rattle.wire.specs.Reader.{ReadRecord, BatchBytes}
use Rattle.wire.specs.Message.{votes_of, ReadMessage}
use Rattle.wire.specs.declared.Reading.{Reading}
use Rattle.tray.specs.declared.Tray.{Tray}
use Rattle.node.specs.State.{New}
use Rattle.node.specs.Opening.{Open}
use Rattle.node.specs.declared.Node.{Node}
use Rattle.step.specs.Step.{Step}
use Rattle.step.specs.declared.Stepped.{Stepped}
use Rattle.closing.specs.Close.{decisions_of, Close}
use Rattle.signing.specs.Count.{SignersAre}

pub data Test : Type 0 where
  -- `read_record` and `batch_bytes` on a part that starts with a record
  reads : (n : ℕ) (part : List ℕ) (answer : Result (Option Reading) Refusal) (batch : List ℕ) → Test
  -- `read_message`, and the votes that the step hears in that message
  hears : (n : ℕ) (message : List ℕ) (answer : Result (Option ℕ) Refusal) (votes : Maybe (List Vote)) → Test
  -- `Node::new`
  makes : (n f me : ℕ) (answer : Result Node Refusal) → Test
  -- `open`; node and outbox before and after
  opens : (node : Node) (tray : Tray) (outbox : List ℕ) (answer : Result ℕ Refusal) (after : Node × List ℕ) → Test
  -- `step`; node and outbox before and after
  steps : (node : Node) (inbox outbox : List ℕ) (answer : Result Stepped Refusal) (after : Node × List ℕ) → Test
  -- `close`, and the decisions that it joins; output before and after
  closes : (node : Node) (old output : List ℕ) (decisions : List Batch) (answer : Result ℕ Refusal) (after : List ℕ) → Test
  -- `signers`
  counts : (n f me : ℕ) (mark : Mark) (slots : List ℕ) (answer : Result ℕ Refusal) → Test

-- a promise allows this answer, and no other
pub record Only {A : Type 0} (Allows : A → Type 0) (answer : A) : Type 0 where
  pub allowed : Allows answer
  pub alone : (other : A) → Allows other → other ≡ answer

-- the same of an answer and the memory that was lent to the call
pub record OnlyWith {A L : Type 0} (Allows : A → L → Type 0) (answer : A) (after : L) : Type 0 where
  pub allowed : Allows answer after
  pub alone : (other : A) (left : L) → Allows other left → (other ≡ answer) × (left ≡ after)

abbrev pub Holds : Test → Type 0
Holds (reads n part answer batch) = Only (ReadRecord n part) answer × Only (BatchBytes n part) batch
Holds (hears n message answer votes) = Only (ReadMessage n message) answer × (votes_of n message ≡ votes)
Holds (makes n f me answer) = Only (New n f me) answer
Holds (opens node tray outbox answer after) = OnlyWith (λ a (kept, back). Open node tray outbox a kept back) answer after
Holds (steps node inbox outbox answer after) = OnlyWith (λ a (kept, back). Step node inbox outbox a kept back) answer after
Holds (closes node old output decisions answer after) = (decisions_of node ≡ decisions) × OnlyWith (Close node old output) answer after
Holds (counts n f me mark slots answer) = Only (SignersAre n f me mark slots) answer

infixr 5 ◌and◌
-- each test of a list holds
pub data AllHold : List Test → Type 0 where
  nothing_more : AllHold []
  ◌and◌ : {t : Test} {ts : List Test} → Holds t → AllHold ts → AllHold (t ∷ ts)
