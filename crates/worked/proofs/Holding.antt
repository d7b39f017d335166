-- An answer that a promise allows is the only one, since each promise determines its outcome.
use Rattle.std.proofs.Common.{ℕ, ◌≡◌, List, [], ◌∷◌, Some, None, Result}
use Rattle.rules.specs.Refusals.{if_done}
use Rattle.rules.specs.Answers.{number_in, value_in, Answers}
use Rattle.rules.specs.declared.refusal.Refusal.{Refusal}
use Rattle.wire.specs.Reader.{ReadRecord, BatchBytes}
use Rattle.wire.specs.Message.{votes_of, ReadMessage}
use Rattle.wire.proofs.Determined.{read_record_determined, batch_bytes_determined, read_message_determined}
use Rattle.node.specs.State.{New}
use Rattle.node.specs.Opening.{Open}
use Rattle.node.proofs.Determined.{new_determined, open_determined}
use Rattle.step.specs.Step.{Step}
use Rattle.step.proofs.Determined.{step_determined}
use Rattle.closing.specs.Close.{decisions_of, Close}
use Rattle.closing.proofs.Determined.{close_determined}
use Rattle.signing.specs.Count.{SignersAre}
use Rattle.signing.proofs.Determined.{signers_determined}
use Rattle.worked.specs.Test.{Test, reads, hears, makes, opens, steps, closes, counts, Holds, AllHold, nothing_more as none_left, ◌and◌}

-- the call's promise allows the answer of the test
abbrev pub Allowed : Test → Type 0
Allowed (reads n part answer batch) = ReadRecord n part answer × BatchBytes n part batch
Allowed (hears n message answer votes) = ReadMessage n message answer × (votes_of n message ≡ votes)
Allowed (makes n f me answer) = New n f me answer
Allowed (opens node tray outbox answer after) = Open node tray outbox answer after.0 after.1
Allowed (steps node inbox outbox answer after) = Step node inbox outbox answer after.0 after.1
Allowed (closes node old output decisions answer after) = (decisions_of node ≡ decisions) × Close node old output answer after
Allowed (counts n f me mark slots answer) = SignersAre n f me mark slots answer

-- .. and no other, since it determines its outcome
holding : (t : Test) → Allowed t → Holds t
holding (reads n part answer batch) (p, q) =
    (record { allowed = p; alone = λ o r. read_record_determined n part o answer r p }, record { allowed = q; alone = λ o r. batch_bytes_determined n part o batch r q })
holding (hears n message answer votes) (p, e) = (record { allowed = p; alone = λ o r. read_message_determined n message o answer r p }, e)
holding (makes n f me answer) p = record { allowed = p; alone = λ o r. new_determined n f me o answer r p }
holding (opens node tray outbox answer after) p = record {
  allowed = p;
  alone = λ o l r. let e = open_determined node tray outbox o answer l.0 after.0 l.1 after.1 r p in (e.0, λ i. (e.1 i, e.2 i));
}
holding (steps node inbox outbox answer after) p = record {
  allowed = p;
  alone = λ o l r. let e = step_determined node inbox outbox o answer l.0 after.0 l.1 after.1 r p in (e.0, λ i. (e.1 i, e.2 i));
}
holding (closes node old output decisions answer after) (e, p) =
    (e, record { allowed = p; alone = λ o l r. close_determined node old output o answer l after r p })
holding (counts n f me mark slots answer) p = record { allowed = p; alone = λ o r. signers_determined n f me mark slots o answer r p }

infixr 5 ◌also◌
-- so for each test of a list
pub data AllAllowed : List Test → Type 0 where
  nothing_more : AllAllowed []
  ◌also◌ : {t : Test} {ts : List Test} → Allowed t → AllAllowed ts → AllAllowed (t ∷ ts)

pub all_holding : {ts : List Test} → AllAllowed ts → AllHold ts
all_holding nothing_more = none_left
all_holding (◌also◌ {t} a more) = holding t a and all_holding more

-- what an answer is
pub answered : {A : Type 0} {k : ℕ} {v : A} {answer : Result A Refusal} → number_in answer ≡ k → value_in answer ≡ if_done k (Some v) None → Answers k v answer
answered p q = record { number_is = p; value_is = q }
