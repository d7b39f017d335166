-- A node whose sizes hold is sound all through its course: it is made sound, and each call leaves a sound node sound, by doing its work or by refusing. What
-- it sends is bytes within the room lent for it, and depends on the rounds before alone.
use Prim.Native.Nat.{ℕ, zero, suc, ◌≤◌}
use mathlib.Core.Path.{◌≡◌, refl, ap, ap₂, ◌∙◌}
use mathlib.Core.Bool.{true}
use mathlib.Core.List.{List, []}
use native.Mathlib.Nat.{le_refl, le_trans, le-suc}
use native.Mathlib.Omega.{arith}
use lib.Dec.{lit<}
use lib.ListN.{length}
use Rattle.node.proofs.Sound.{sound_sizes}
use Rattle.rules.specs.Sizes.{sizes}
use Rattle.rules.specs.Refusals.{if_done}
use Rattle.rules.specs.Vote.{Vote}
use Rattle.entries.specs.Bytes.{AreBytes}
use Rattle.wire.specs.Record.{record_bytes}
use Rattle.wire.specs.Message.{message_bytes}
use Rattle.roundtrip.proofs.Records.{record_bytes_lem}
use Rattle.roundtrip.proofs.Messages.{votes_bytes}
use Rattle.tray.specs.declared.Tray.{Tray}
use Rattle.node.specs.State.{sound_node, fresh}
use Rattle.node.specs.Opening.{opening_vote, opened_node, open_number}
use Rattle.node.specs.declared.Node.{Node}
use Rattle.node.proofs.StaySound.{fresh_is_sound, open_found, opened_is_sound}
use Rattle.node.proofs.Openings.{opening_sayable}
use Rattle.step.specs.Step.{passed_by, stepped_node, step_number}
use Rattle.step.specs.Course.{made, after, outbox}
use Rattle.step.proofs.PassedVotes.{passed_by_sayable}
use Rattle.step.proofs.Steps.{step_found}
use Rattle.step.proofs.StaySound.{stepped_is_sound}

module _ (s : Node) (h : sound_node s ≡ true) where
  open_sound : (t : Tray) (room k : ℕ) → open_number s t room ≡ k → sound_node (if_done k (opened_node s t) s) ≡ true
  open_sound t room zero e = let c = open_found s t room e in opened_is_sound s t h c.fine c.unopened
  open_sound t room (suc k) e = h

  step_sound : (inbox : List ℕ) (room k : ℕ) → step_number s inbox room ≡ k → sound_node (if_done k (stepped_node s inbox) s) ≡ true
  step_sound inbox room zero e = stepped_is_sound s inbox h (step_found s inbox [] room e).rounds
  step_sound inbox room (suc k) e = h

module _ (n f me : ℕ) (tray : Tray) (inbox : ℕ → List ℕ) (room : ℕ → ℕ) (h : sizes n f me ≡ true) where
  pub made_is_fresh : made n f me ≡ fresh n f me
  made_is_fresh = simp h

  pub made_sound : sound_node (made n f me) ≡ true
  made_sound = ap sound_node made_is_fresh ∙ fresh_is_sound n f me h

  pub course_sound : (r : ℕ) → sound_node (after n f me tray inbox room r) ≡ true
  unfolding after
  course_sound zero = open_sound (made n f me) made_sound tray (room 1) _ refl
  course_sound (suc r) = step_sound (after n f me tray inbox room r) (course_sound r) (inbox (suc r)) (room (suc (suc r))) _ refl

  -- ---- what is sent

  opening_short : (k : ℕ) → open_number (made n f me) tray (room 1) ≡ k
      → length (if_done k (record_bytes (opening_vote (made n f me) tray)) []) ≤ room 1
  opening_short zero e = (open_found (made n f me) tray (room 1) e).fits
  opening_short (suc k) e = omega arith

  opening_bytes : (k : ℕ) → open_number (made n f me) tray (room 1) ≡ k → AreBytes (if_done k (record_bytes (opening_vote (made n f me) tray)) [])
  opening_bytes zero e =
      let c = open_found (made n f me) tray (room 1) e in
      record_bytes_lem (made n f me).n (sound_sizes (made n f me) made_sound).most (opening_vote (made n f me) tray)
      (opening_sayable (made n f me) tray [] made_sound c.fine)
  opening_bytes (suc k) e = λ i. lit< tt

  module _ (r : ℕ) where
    abbrev s : Node
    s = after n f me tray inbox room r

    abbrev passed : List Vote
    passed = passed_by s (inbox (suc r))

    passed_short : (k : ℕ) → step_number s (inbox (suc r)) (room (suc (suc r))) ≡ k → length (if_done k (message_bytes passed) []) ≤ room (suc (suc r))
    passed_short zero e = (step_found s (inbox (suc r)) [] (room (suc (suc r))) e).fits
    passed_short (suc k) e = omega arith

    passed_bytes : (k : ℕ) → AreBytes (if_done k (message_bytes passed) [])
    passed_bytes zero =
        let t = sound_sizes s (course_sound r) in
        votes_bytes s.n t.most passed (passed_by_sayable s (inbox (suc r)) t.node)
    passed_bytes (suc k) = λ i. lit< tt

  -- it is within the room, and bytes
  pub outbox_short : (r : ℕ) → length (outbox n f me tray inbox room r) ≤ room r
  unfolding outbox
  outbox_short zero = omega arith
  outbox_short (suc zero) = opening_short _ refl
  outbox_short (suc (suc r)) = passed_short r _ refl

  pub outbox_bytes : (r : ℕ) → AreBytes (outbox n f me tray inbox room r)
  unfolding outbox
  outbox_bytes zero = λ i. lit< tt
  outbox_bytes (suc zero) = opening_bytes _ refl
  outbox_bytes (suc (suc r)) = passed_bytes r (step_number (after n f me tray inbox room r) (inbox (suc r)) (room (suc (suc r))))

-- ---- a course depends on the inboxes of the rounds taken alone

module _ (n f me : ℕ) (tray : Tray) (inbox other : ℕ → List ℕ) (room : ℕ → ℕ) where
  after_same : (r : ℕ) → ((q : ℕ) → q ≤ r → inbox q ≡ other q) → after n f me tray inbox room r ≡ after n f me tray other room r
  unfolding after
  after_same zero h = refl
  after_same (suc r) h =
      ap₂ (λ (s : Node) (x : List ℕ). if_done (step_number s x (room (suc (suc r)))) (stepped_node s x) s)
      (after_same r (λ q l. h q (le_trans l (le-suc r)))) (h (suc r) (le_refl (suc r)))

  pub outbox_same : (r : ℕ) → ((q : ℕ) → q ≤ r → inbox q ≡ other q) → outbox n f me tray inbox room (suc r) ≡ outbox n f me tray other room (suc r)
  unfolding outbox
  outbox_same zero h = refl
  outbox_same (suc r) h =
      ap₂ (λ (s : Node) (x : List ℕ). if_done (step_number s x (room (suc (suc r)))) (message_bytes (passed_by s x)) [])
      (after_same r (λ q l. h q (le_trans l (le-suc r)))) (h (suc r) (le_refl (suc r)))
