-- What is handed to a node in a round: "Each outbox goes whole to every other node", a faulty node sends what the schedule says, and the own slot is silence.
use Rattle.std.specs.Prelude.{ℕ, ◌*◌, ◌+◌, ◌≤◌, ◌≡◌, cond, List, [], ◌∷◌, eqb, leb, length, get_or, take, replicate}
use Rattle.laws.specs.Masks.{bit}
use Rattle.laws.specs.Parts.{onto}
use Rattle.rules.specs.Sizes.{nodes_most}
use Rattle.rules.specs.Step.{gather}
use Rattle.wire.specs.Sizes.{length_size, message_most}
use Rattle.wire.specs.Inbox.{inbox_bytes}
use Rattle.contents.specs.Contents.{message_for}
use Rattle.inboxes.specs.declared.Outbox.{Outbox}

-- a message in its outbox; the places beyond it are zero
abbrev pub outbox_of : List ℕ → Outbox
outbox_of m = record { size = length m; bytes = onto m (replicate message_most 0) }

-- the message in an outbox, nothing where it says more than there are places
abbrev pub sent_in : Outbox → List ℕ
sent_in o = cond (leb o.size message_most) (take o.size o.bytes) []

abbrev pub outbox_at : List Outbox → ℕ → Outbox
outbox_at outboxes j = get_or outboxes j (record { size = 0; bytes = [] })

-- what the schedule says, nothing where that is no message: a schedule of good form says messages only
abbrev pub given_in : List ℕ → List ℕ
given_in m = cond (leb (length m) message_most) m []

-- what node j hands to node i in round r; `faulty` is the mask of the faulty nodes, and o is node j's outbox
abbrev pub message_to : (s : List ℕ) (faulty r i j : ℕ) (o : Outbox) → List ℕ
message_to s faulty r i j o = cond (eqb j i) [] (cond (eqb (bit faulty j) 1) (given_in (message_for s r j i)) (sent_in o))

-- the inbox of node i in round r
abbrev pub inbox_to : (s : List ℕ) (n faulty r i : ℕ) (outboxes : List Outbox) → List ℕ
inbox_to s n faulty r i outboxes = inbox_bytes (gather (λ (j : ℕ). message_to s faulty r i j (outbox_at outboxes j) ∷ []) n)

-- bytes of an inbox, at most
abbrev pub inbox_most : ℕ
inbox_most = nodes_most * (length_size + message_most)

-- what `put_inbox` promises: the inbox of up to sixteen nodes where there is room for the longest, and never more than the room
pub record PutInbox (s : List ℕ) (n faulty r i : ℕ) (outboxes : List Outbox) (inbox : List ℕ) (answer : ℕ) (after : List ℕ) : Type 0 where
  pub within : answer ≤ length inbox
  pub answers : n ≤ nodes_most → inbox_most ≤ length inbox → answer ≡ length (inbox_to s n faulty r i outboxes)
  pub leaves : n ≤ nodes_most → inbox_most ≤ length inbox → after ≡ onto (inbox_to s n faulty r i outboxes) inbox
