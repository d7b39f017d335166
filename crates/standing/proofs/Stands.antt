-- What the calls leave of a node and its outbox is what its course says: the outbox is lent as zeros, with room for a whole message.
use Prim.Native.Nat.{ℕ, zero, suc}
use mathlib.Core.Path.{◌≡◌, refl, ap, ap₂, ◌∙◌}
use mathlib.Core.List.{List, []}
use native.Mathlib.Omega.{arith}
use lib.ListN.{length, replicate}
use Rattle.std.specs.Prelude.{MatchResult, Result, Ok, Err}
use Rattle.std.specs.Result.{result_unwrap_or}
use Rattle.laws.specs.Parts.{onto}
use Rattle.rules.specs.Answers.{Answers}
use Rattle.rules.specs.Refusals.{if_done}
use Rattle.rules.specs.declared.refusal.Refusal.{Refusal}
use Rattle.rules.proofs.Answers.{given, no_row}
use Rattle.rules.proofs.Refusals.{done_length, done_onto}
use Rattle.wire.specs.Sizes.{message_most}
use Rattle.wire.specs.Record.{record_bytes}
use Rattle.wire.specs.Message.{message_bytes}
use Rattle.tray.specs.declared.Tray.{Tray}
use Rattle.node.specs.State.{New, fresh, new_number}
use Rattle.node.specs.Opening.{Open, opening_vote, opened_node, open_number}
use Rattle.node.specs.declared.Node.{Node}
use Rattle.step.specs.Step.{Step, passed_by, stepped, step_number}
use Rattle.step.specs.Course.{made, after, outbox}
use Rattle.step.specs.declared.Stepped.{Stepped}
use Rattle.agreement.specs.Hall.{node_after, sends}
use Rattle.contents.specs.Contents.{entries_of_tray}
use Rattle.tray.specs.Trays.{tray_of}
use Rattle.standing.specs.Standing.{stood_of, nobody, stepped_to}
use Rattle.standing.specs.Run.{hall_of}
use Rattle.standing.specs.declared.Stood.{Stood}

-- the value of an answer, or what stands for a refusal
answer_or : {A : Type 0} (k : ℕ) (v d : A) (o : Result A Refusal) → Answers k v o → result_unwrap_or o d ≡ if_done k v d
answer_or zero v d (Ok x) p = (given p).1
answer_or zero v d (Err r) p = no_row r p.number_is
answer_or (suc k) v d (Ok x) p = absurd (omega arith)
answer_or (suc k) v d (Err r) p = refl

abbrev zeros : List ℕ
zeros = replicate message_most 0

abbrev stood : Node → ℕ → List ℕ → Stood
stood s size bytes = record { node = s; outbox = record { size = size; bytes = bytes } }

stood_same : (s t : Node) (a b : ℕ) (x y : List ℕ) → s ≡ t → a ≡ b → x ≡ y → stood s a x ≡ stood t b y
stood_same s t a b x y p q r = λ i. record { node = p i; outbox = record { size = q i; bytes = r i } }

module _ (s : List ℕ) (n f i : ℕ) where
  abbrev tray : Tray
  tray = tray_of (entries_of_tray s i)

  pub opened_stands : (x : Result Node Refusal) (a : Node) (t : Tray) (o : Result ℕ Refusal) (b : Node) (size : ℕ) (w : List ℕ) → New n f i x
      → a ≡ result_unwrap_or x nobody → t ≡ tray → Open a t zeros o b w → size ≡ result_unwrap_or o 0
      → stood b size w ≡ stood_of (node_after (hall_of s n f) i 0) (sends (hall_of s n f) i 1)
  unfolding after outbox
  opened_stands x a t o b size w h d e p q =
      let is_made : a ≡ made n f i = d ∙ answer_or (new_number n f i) (fresh n f i) nobody x h in
      let k = open_number (made n f i) tray message_most in
      let m = record_bytes (opening_vote (made n f i) tray) in
      stood_same b (if_done k (opened_node (made n f i) tray) (made n f i)) size (length (if_done k m [])) w (onto (if_done k m []) zeros)
      (p.node_is ∙ ap₂ (λ (u : Node) (v : Tray). if_done (open_number u v message_most) (opened_node u v) u) is_made e)
      (q ∙ answer_or (open_number a t message_most) (length (record_bytes (opening_vote a t))) 0 o p.answers
      ∙ ap₂ (λ (u : Node) (v : Tray). if_done (open_number u v message_most) (length (record_bytes (opening_vote u v))) 0) is_made e ∙ done_length k m)
      (p.outbox_is ∙ ap₂ (λ (u : Node) (v : Tray). if_done (open_number u v message_most) (onto (record_bytes (opening_vote u v)) zeros) zeros) is_made e
      ∙ done_onto k m zeros)

-- the length of what a step wrote
abbrev pub length_or : Result Stepped Refusal → ℕ
length_or (Ok x) = x.length
length_or (Err r) = 0

pub length_matched : (o : Result Stepped Refusal) (size : ℕ) → MatchResult o (λ x. size ≡ x.length) (λ r. size ≡ 0) → size ≡ length_or o
length_matched (Ok x) size m = m
length_matched (Err r) size m = m

length_answered : (k : ℕ) (v : Stepped) (o : Result Stepped Refusal) → Answers k v o → length_or o ≡ if_done k v.length 0
length_answered zero v (Ok x) p = ap (λ (y : Stepped). y.length) (given p).1
length_answered zero v (Err r) p = no_row r p.number_is
length_answered (suc k) v (Ok x) p = absurd (omega arith)
length_answered (suc k) v (Err r) p = refl

pub stepped_stands : (x : Node) (inbox : List ℕ) (o : Result Stepped Refusal) (y : Node) (size : ℕ) (w : List ℕ) → Step x inbox zeros o y w → size ≡ length_or o
    → stood y size w ≡ stepped_to x inbox
stepped_stands x inbox o y size w p q =
    let k = step_number x inbox message_most in
    let m = message_bytes (passed_by x inbox) in
    stood_same y (stepped_to x inbox).node size (length (if_done k m [])) w (onto (if_done k m []) zeros)
    p.node (q ∙ length_answered k (stepped x inbox) o p.answers ∙ done_length k m) (p.outbox_is ∙ done_onto k m zeros)
