-- A run that is carried whole: "Each outbox goes whole to every other node", "In a run the transport cuts every inbox well, and a message too long for its two
-- length bytes comes as silence", and what the faulty nodes send is given.
use Rattle.std.specs.Prelude.{ℕ, zero, suc, ◌*◌, ◌^◌, Bool, cond, List, [], ◌∷◌, eqb, leb, length}
use Rattle.rules.specs.Sizes.{log_most}
use Rattle.rules.specs.Step.{gather}
use Rattle.wire.specs.Sizes.{message_most, length_size}
use Rattle.wire.specs.Inbox.{inbox_bytes}
use Rattle.tray.specs.declared.Tray.{Tray}
use Rattle.step.specs.Course.{outbox}
use Rattle.agreement.specs.Hall.{Hall}

-- room for a whole message in every round
abbrev pub roomy : ℕ → ℕ
roomy r = message_most

-- "too long for its two length bytes": 65,536 bytes or more
abbrev pub too_long : List ℕ → Bool
too_long m = leb (2 ^ (8 * length_size)) (length m)

-- what arrives of a message that a faulty node gives; what a correct node sends is never too long
abbrev pub arriving : List ℕ → List ℕ
arriving m = cond (too_long m) [] m

-- given r j i: the message of faulty node j to node i in round r
module _ (n : ℕ) (faulty : ℕ → Bool) (given : ℕ → ℕ → ℕ → List ℕ) where
  -- the message of node j to node i in round r, of which node i's own is silence; sent j: what correct node j sends
  abbrev pub message : (r i : ℕ) (sent : ℕ → List ℕ) (j : ℕ) → List ℕ
  message r i sent j = cond (eqb j i) [] (cond (faulty j) (arriving (given r j i)) (sent j))

  -- the inbox of node i in round r
  abbrev pub carried : (r i : ℕ) (sent : ℕ → List ℕ) → List ℕ
  carried r i sent = inbox_bytes (gather (λ (j : ℕ). message r i sent j ∷ []) n)

  module _ (f : ℕ) (tray : ℕ → Tray) where
    -- what node i is handed in round q, as far as round r is played
    unfoldable pub handed : (r i q : ℕ) → List ℕ
    handed zero i q = []
    handed (suc r) i q = cond (leb q r) (handed r i q) (carried (suc r) i (λ (j : ℕ). outbox n f j (tray j) (handed r j) roomy (suc r)))

abbrev pub carried_hall : (n f : ℕ) (faulty : ℕ → Bool) (tray : ℕ → Tray) (given : ℕ → ℕ → ℕ → List ℕ) (old : List ℕ) → Hall
carried_hall n f faulty tray given old = record {
  n = n;
  f = f;
  faulty = faulty;
  tray = tray;
  inbox = λ i r. handed n faulty given f tray r i r;
  room = λ i. roomy;
  old = old;
  output = λ i. log_most;
}
