-- "A step in round r reads the inbox by sender, then by record. It passes over its own slot and every record of which it is itself the primary. [..] The
-- outbox is ordered by primary, then as kept; each record is written into the rest of the outbox, after the one before. In round f + 1 nothing is written.
-- The phase goes up by one. The answer also has a mask of the senders whose message was unreadable, never the own bit."
use Rattle.std.specs.Prelude.{ℕ, ◌+◌, ◌≡◌, Bool, cond, ◌&&◌, List, [], ◌∷◌, map, eqb, leb, length, Result}
use Rattle.laws.specs.Parts.{onto}
use Rattle.rules.specs.Sizes.{nodes_most}
use Rattle.rules.specs.Refusals.{refuse◌unless◌then◌, done, if_done}
use Rattle.rules.specs.Answers.{Answers}
use Rattle.rules.specs.declared.refusal.Refusal.{Refusal}
use Rattle.rules.specs.Vote.{Vote}
use Rattle.rules.specs.Step.{gather, kept_most, taken_up, kept_after, passes_on}
use Rattle.wire.specs.Message.{message_bytes}
use Rattle.wire.specs.Inbox.{well_cut, unreadable_senders}
use Rattle.node.specs.Batches.{kept_as}
use Rattle.node.specs.State.{kept_for, sound_node}
use Rattle.node.specs.declared.Kept.{Kept}
use Rattle.node.specs.declared.Node.{Node}
use Rattle.round.specs.Found.{heard_from}
use Rattle.keeping.specs.declared.Found.{Found}
use Rattle.step.specs.declared.Stepped.{Stepped}

-- the votes that the step takes up
abbrev pub taken_by : Node → List ℕ → List Vote
taken_by s inbox = taken_up s.n s.me (heard_from s.n inbox)

-- what the step keeps for primary p
abbrev pub kept_by : Node → List ℕ → ℕ → List (List ℕ)
kept_by s inbox p = kept_after kept_most s.phase p (kept_for s p) (taken_by s inbox)

-- what it passes on
abbrev pub passed_by : Node → List ℕ → List Vote
passed_by s inbox = passes_on s.n s.f s.me s.phase (kept_for s) (taken_by s inbox)

-- the node afterwards
abbrev pub stepped_node : Node → List ℕ → Node
stepped_node s inbox = record {
  n = s.n;
  f = s.f;
  me = s.me;
  phase = s.phase + 1;
  own = s.own;
  kept = gather (λ (p : ℕ). kept_as (kept_by s inbox p) ∷ []) nodes_most;
}

-- what is kept of what was found
abbrev pub kept_in : List Found → List Kept
kept_in found = map (λ (x : Found). x.kept) found

-- in round r something is passed on for the primaries below this number: "In round f + 1 nothing is written."
abbrev pub primaries_in : (n f r : ℕ) → ℕ
primaries_in n f r = cond (eqb r (f + 1)) 0 n

-- a phase that names a round
abbrev pub in_rounds : Node → Bool
in_rounds s = leb 1 s.phase && leb s.phase (s.f + 1)

unfoldable pub step_number : Node → List ℕ → ℕ → ℕ
step_number s inbox room =
    refuse 2 unless sound_node s then
    refuse 3 unless in_rounds s then
    refuse 4 unless well_cut s.n inbox then
    refuse 9 unless leb (length (message_bytes (passed_by s inbox))) room then
    done

-- what is answered of a step that is done
abbrev pub stepped : Node → List ℕ → Stepped
stepped s inbox = record { length = length (message_bytes (passed_by s inbox)); unreadable = unreadable_senders s.n s.me inbox }

-- a refusal leaves the node and the outbox as they are
pub record Step (s : Node) (inbox outbox : List ℕ) (answer : Result Stepped Refusal) (node_after : Node) (after : List ℕ) : Type 0 where
  pub answers : Answers (step_number s inbox (length outbox)) (stepped s inbox) answer
  pub node : node_after ≡ if_done (step_number s inbox (length outbox)) (stepped_node s inbox) s
  pub outbox_is : after ≡ if_done (step_number s inbox (length outbox)) (onto (message_bytes (passed_by s inbox)) outbox) outbox
