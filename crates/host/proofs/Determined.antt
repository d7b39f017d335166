-- Each promise told in numbers determines its outcome: the answer is determined by the wrapped call's own law, and the numbers by the answer.
use Prim.Native.Nat.{ℕ, ◌+◌, ◌≤◌}
use mathlib.Core.Path.{◌≡◌, sym, ap, ◌∙◌}
use mathlib.Core.List.{List}
use native.Mathlib.Omega.{arith}
use denote.Ref.{Bor}
use lib.ListN.{length, drop, length-drop}
use lib.Seq.{length-take-le}
use Rattle.rules.specs.Vote.{Vote}
use Rattle.rules.specs.Signers.{Mark}
use Rattle.wire.specs.Writer.{WriteRecord}
use Rattle.wire.proofs.Readings.{same_start}
use Rattle.wire.proofs.Determined.{read_record_determined, batch_handed_determined, read_message_determined, write_record_determined, read_inbox_determined}
use Rattle.tray.specs.Put.{Put}
use Rattle.tray.specs.declared.Tray.{Tray}
use Rattle.tray.proofs.Determined.{put_determined}
use Rattle.node.specs.Opening.{Open}
use Rattle.node.specs.declared.Node.{Node}
use Rattle.node.proofs.Determined.{new_determined, open_determined}
use Rattle.step.specs.Step.{Step}
use Rattle.step.proofs.Determined.{step_determined}
use Rattle.closing.specs.Close.{Close}
use Rattle.closing.proofs.Determined.{close_determined}
use Rattle.signing.proofs.Determined.{signers_determined}
use Rattle.reading_log.proofs.Determined.{bar_determined}
use Rattle.host.specs.declared.ToldRecord.{ToldRecord}
use Rattle.host.specs.declared.BatchPart.{BatchPart}
use Rattle.host.specs.declared.ToldMessage.{ToldMessage}
use Rattle.host.specs.declared.ToldWritten.{ToldWritten}
use Rattle.host.specs.declared.Heard.{Heard}
use Rattle.host.specs.declared.Made.{Made}
use Rattle.host.specs.declared.Opened.{Opened}
use Rattle.host.specs.declared.Stepped.{Stepped}
use Rattle.host.specs.declared.Closed.{Closed}
use Rattle.host.specs.declared.SigningCount.{SigningCount}
use Rattle.host.specs.declared.MeterBar.{MeterBar}
use Rattle.host.specs.Told.{Tells, bytes_in, handed_in, TellsRecord, TellsPart, TellsMessage, TellsWritten, TellsInbox, TellsPut, TellsNew, TellsOpen, TellsStep, TellsClose, TellsSigners, TellsBar}

-- ---- of any call

-- of an answer alone
told_determined : {A T : Type 0} (Promised : A → Type 0) (tell : A → T) → ((a b : A) → Promised a → Promised b → a ≡ b) → (s t : T)
    → Tells Promised tell s → Tells Promised tell t → s ≡ t
told_determined Promised tell same s t p q = p.alone ∙ ap tell (same p.answer q.answer p.promised q.promised) ∙ sym q.alone

-- of an answer and the memory that was lent
outcome_determined : {A L T : Type 0} (Promised : A → L → Type 0) (tell : A → T)
    → ((a b : A) (o u : L) → Promised a o → Promised b u → (a ≡ b) × (o ≡ u)) → (s t : T) (o u : L)
    → Tells (λ a. Promised a o) tell s → Tells (λ a. Promised a u) tell t → (s ≡ t) × (o ≡ u)
outcome_determined Promised tell same s t o u p q =
    let e = same p.answer q.answer o u p.promised q.promised in
    (p.alone ∙ ap tell e.0 ∙ sym q.alone, e.1)

-- ---- of each

pub told_record_determined : (n : ℕ) (part : List ℕ) (a b : ToldRecord) → TellsRecord n part a → TellsRecord n part b → a ≡ b
told_record_determined n part = told_determined _ _ (read_record_determined n part)

pub told_message_determined : (n : ℕ) (message : List ℕ) (a b : ToldMessage) → TellsMessage n message a → TellsMessage n message b → a ≡ b
told_message_determined n message = told_determined _ _ (read_message_determined n message)

pub told_written_determined : (n : ℕ) (v : Vote) (output : List ℕ) (a b : ToldWritten) (o u : List ℕ)
    → TellsWritten n v output a o → TellsWritten n v output b u → (a ≡ b) × (o ≡ u)
told_written_determined n v output = outcome_determined (WriteRecord n v output) _ (write_record_determined n v output)

pub told_inbox_determined : (n me : ℕ) (inbox : List ℕ) (a b : Heard) → TellsInbox n me inbox a → TellsInbox n me inbox b → a ≡ b
told_inbox_determined n me inbox = told_determined _ _ (read_inbox_determined n me inbox)

pub told_put_determined : (before : Tray) (entry a b : ℕ) (o u : Tray) → TellsPut before entry a o → TellsPut before entry b u → (a ≡ b) × (o ≡ u)
told_put_determined before entry = outcome_determined (Put before entry) _ (λ x y o u. put_determined)

pub told_new_determined : (n f me : ℕ) (a b : Made) → TellsNew n f me a → TellsNew n f me b → a ≡ b
told_new_determined n f me = told_determined _ _ (new_determined n f me)

pub told_open_determined : (s : Node) (t : Tray) (outbox : List ℕ) (a b : Opened) (o u : List ℕ)
    → TellsOpen s t outbox a o → TellsOpen s t outbox b u → (a ≡ b) × (o ≡ u)
told_open_determined s t outbox =
    outcome_determined (λ (answer, node). Open s t outbox answer node) _
    (λ a b o u p q. let e = open_determined s t outbox a.0 b.0 a.1 b.1 o u p q in (λ i. (e.0 i, e.1 i), e.2))

pub told_step_determined : (s : Node) (inbox outbox : List ℕ) (a b : Stepped) (o u : List ℕ)
    → TellsStep s inbox outbox a o → TellsStep s inbox outbox b u → (a ≡ b) × (o ≡ u)
told_step_determined s inbox outbox =
    outcome_determined (λ (answer, node). Step s inbox outbox answer node) _
    (λ a b o u p q. let e = step_determined s inbox outbox a.0 b.0 a.1 b.1 o u p q in (λ i. (e.0 i, e.1 i), e.2))

pub told_close_determined : (s : Node) (old output : List ℕ) (a b : Closed) (o u : List ℕ)
    → TellsClose s old output a o → TellsClose s old output b u → (a ≡ b) × (o ≡ u)
told_close_determined s old output = outcome_determined (Close s old output) _ (close_determined s old output)

pub told_signers_determined : (n f me : ℕ) (mark : Mark) (slots : List ℕ) (a b : SigningCount)
    → TellsSigners n f me mark slots a → TellsSigners n f me mark slots b → a ≡ b
told_signers_determined n f me mark slots = told_determined _ _ (signers_determined n f me mark slots)

pub told_bar_determined : (log : List ℕ) (meter first last : ℕ) (a b : MeterBar) → TellsBar log meter first last a → TellsBar log meter first last b → a ≡ b
told_bar_determined log meter first last = told_determined _ _ (bar_determined log meter first last)

-- ---- of the batch's bytes

-- bytes that lie within the part are as many as the answer says
many : (part : List ℕ) (a : BatchPart) → a.start + a.size ≤ length part → length (bytes_in part a) ≡ a.size
many part a within = length-take-le a.size (drop a.start part) (omega (arith, within, length-drop a.start part))

pub batch_part_determined : (n : ℕ) (part : Bor (List ℕ)) (a b : BatchPart) → TellsPart n part a → TellsPart n part b → a ≡ b
batch_part_determined n part a b p q =
    let same = batch_handed_determined n part (handed_in part a) (handed_in part b) p.promised q.promised in
    let start = same_start a.start b.start part.ref_ptr same.1 in
    let size : a.size ≡ b.size = sym (many part.now a p.within) ∙ ap length same.0 ∙ many part.now b q.within in
    λ i. record { start = start i; size = size i }
