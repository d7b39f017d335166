-- Each call's promise names what the course has: so the answers are the course's, one after the other, and what was written stands in front of what was lent.
use Prim.Native.Nat.{ℕ, zero, suc, ◌+◌, ◌≤◌}
use mathlib.Core.Path.{◌≡◌, refl, sym, ap, ap₂, ◌∙◌}
use mathlib.Core.List.{List, []}
use native.Mathlib.Nat.{le_refl}
use native.Mathlib.Omega.{arith}
use lib.ListN.{length, take}
use lib.Seq.{take-append_seam}
use Rattle.std.proofs.Common.{Result, Ok, Err}
use Rattle.std.specs.Result.{result_unwrap_or}
use Rattle.laws.specs.Parts.{onto}
use Rattle.rules.specs.Refusals.{done, if_done}
use Rattle.rules.specs.Answers.{number_in, Answers}
use Rattle.rules.specs.declared.refusal.Refusal.{Refusal}
use Rattle.rules.proofs.Answers.{given, no_row}
use Rattle.wire.specs.Record.{record_bytes}
use Rattle.wire.specs.Message.{message_bytes}
use Rattle.node.specs.State.{fresh}
use Rattle.node.specs.Opening.{opening_vote, opened_node, open_number}
use Rattle.node.specs.declared.Node.{Node}
use Rattle.step.specs.Course.{made, after, outbox}
use Rattle.step.specs.Step.{passed_by, stepped_node, step_number}
use Rattle.step.specs.declared.Stepped.{Stepped}
use Rattle.closing.specs.Close.{new_log_of, close_number}
use Rattle.agreement.specs.Hall.{Hall, node_after, sends, closes, log_of}
use Rattle.agreement.specs.Granted.{Round}
use Rattle.agreement.specs.Calls.{node_in, length_in, stepped_length, Calls, CallsGive}

-- the value of an answer, or what stands in its place where it is refused
value_or : {A : Type 0} (k : ℕ) (v nothing : A) (answer : Result A Refusal) → Answers k v answer → result_unwrap_or answer nothing ≡ if_done k v nothing
value_or zero v nothing (Ok x) p = (given p).1
value_or zero v nothing (Err row) p = no_row row p.number_is
value_or (suc k) v nothing (Ok x) p = absurd (let e = p.number_is in omega arith)
value_or (suc k) v nothing (Err row) p = refl

-- .. so what a step wrote is as long as it says
length_is : (k : ℕ) (v nothing : Stepped) → (if_done k v nothing).length ≡ if_done k v.length nothing.length
length_is zero v nothing = refl
length_is (suc k) v nothing = refl

-- what a call wrote, or nothing where it was refused, is the front of what it gave back
front : (k : ℕ) (w out : List ℕ) → take (if_done k (length w) 0) (if_done k (onto w out) out) ≡ if_done k w []
front zero w out = take-append_seam w _
front (suc k) w out = refl

module _ (hall : Hall) (i : ℕ) (calls : Calls hall i) where
  made_is : node_in calls.made ≡ made hall.n hall.f i
  made_is = value_or _ _ (fresh 0 0 0) calls.made calls.news

  abbrev opening_number : Node → ℕ → ℕ
  opening_number s room = open_number s (hall.tray i) room

  nodes : (r : ℕ) → r ≤ hall.f + 1 → calls.state r ≡ node_after hall i r
  unfolding after
  nodes zero l =
      calls.opens.node_is
      ∙ ap₂ (λ (s : Node) (room : ℕ). if_done (opening_number s room) (opened_node s (hall.tray i)) s) made_is calls.opening_room
  nodes (suc r) l =
      let b : Round hall (suc r) = record { first = omega arith; last = l } in
      let inbox = hall.inbox i (suc r) in
      (calls.steps r b).node
      ∙ ap₂ (λ (s : Node) (room : ℕ). if_done (step_number s inbox room) (stepped_node s inbox) s) (nodes r (omega arith)) (calls.rooms r b)

  opening : take (length_in calls.opened) (calls.back 1) ≡ sends hall i 1
  unfolding outbox
  opening =
      let s = node_in calls.made in
      let room = length (calls.lent 1) in
      ap₂ take (value_or _ _ 0 calls.opened calls.opens.answers) calls.opens.outbox_is
      ∙ front (opening_number s room) (record_bytes (opening_vote s (hall.tray i))) (calls.lent 1)
      ∙ ap₂ (λ (x : Node) (k : ℕ). if_done (opening_number x k) (record_bytes (opening_vote x (hall.tray i))) []) made_is calls.opening_room

  outboxes : (r : ℕ) → Round hall (suc r) → take (stepped_length (calls.stepped r)) (calls.back (suc (suc r))) ≡ sends hall i (suc (suc r))
  unfolding outbox
  outboxes r b =
      let s = calls.state r in
      let inbox = hall.inbox i (suc r) in
      let t = calls.steps r b in
      let k = step_number s inbox (length (calls.lent (suc (suc r)))) in
      ap₂ take (ap (λ (x : Stepped). x.length) (value_or k _ _ (calls.stepped r) t.answers) ∙ length_is k _ _) t.outbox_is
      ∙ front k (message_bytes (passed_by s inbox)) (calls.lent (suc (suc r)))
      ∙ ap₂ (λ (x : Node) (k : ℕ). if_done (step_number x inbox k) (message_bytes (passed_by x inbox)) []) (nodes r (omega (arith, b.last))) (calls.rooms r b)

  number : number_in calls.closed ≡ closes hall i
  number =
      calls.closing.answers.number_is
      ∙ ap₂ (λ (s : Node) (room : ℕ). close_number s hall.old room) (nodes (hall.f + 1) (le_refl (hall.f + 1))) calls.output_room

  log : closes hall i ≡ done → take (length_in calls.closed) calls.written ≡ log_of hall i
  log d =
      let s = calls.state (hall.f + 1) in
      let k = close_number s hall.old (length calls.output) in
      ap₂ take (value_or k _ 0 calls.closed calls.closing.answers) calls.closing.output_is
      ∙ front k (new_log_of s hall.old) calls.output
      ∙ ap (λ (x : ℕ). if_done x (new_log_of s hall.old) []) (sym calls.closing.answers.number_is ∙ number ∙ d)
      ∙ ap (λ (x : Node). new_log_of x hall.old) (nodes (hall.f + 1) (le_refl (hall.f + 1)))

pub calls_give : CallsGive
calls_give hall i calls = record {
  nodes = nodes hall i calls;
  opening = opening hall i calls;
  outboxes = outboxes hall i calls;
  number = number hall i calls;
  log = log hall i calls;
}
