-- A node that nothing hinders follows the rules over votes: no call refuses it, so after r rounds it is the node of its own batch and of what the rules keep
-- of the votes that its inboxes read as.
use Prim.Native.Nat.{ℕ, zero, suc, ◌+◌, ◌≤◌, ◌<◌}
use mathlib.Core.Path.{◌≡◌, refl, ap, subst, ◌∙◌}
use mathlib.Core.Bool.{true}
use mathlib.Core.List.{List, [], ◌∷◌}
use native.Mathlib.Nat.{le_trans, le-suc}
use native.Mathlib.Numerals.{add-one}
use native.Mathlib.Omega.{arith}
use borrow.Author.Tests.{le-leb}
use lib.ListN.{length}
use Rattle.rules.specs.Sizes.{nodes_most, sizes}
use Rattle.rules.specs.Refusals.{done, if_done}
use Rattle.rules.specs.Step.{kept_most, kept_after}
use Rattle.rules.specs.Run.{Run, votes_at, kept}
use Rattle.rules.proofs.Inbox.{gather_same}
use Rattle.rules.proofs.Sent.{kept_few}
use Rattle.entries.specs.Bytes.{AreBytes, AreEntries}
use Rattle.wire.specs.Record.{record_bytes}
use Rattle.wire.specs.Message.{message_bytes}
use Rattle.wire.specs.Inbox.{well_cut}
use Rattle.tray.specs.Trays.{entries_of, sound_tray}
use Rattle.tray.specs.declared.Tray.{Tray}
use Rattle.node.specs.Batches.{kept_as}
use Rattle.node.specs.State.{sound_node, node_of, fresh}
use Rattle.node.specs.Opening.{opening_vote, opened_node, open_number}
use Rattle.node.specs.declared.Node.{Node}
use Rattle.node.proofs.Sound.{of_kept}
use Rattle.round.specs.Found.{heard_from}
use Rattle.step.specs.Step.{kept_by, passed_by, stepped_node, in_rounds, step_number}
use Rattle.step.specs.Course.{made, after}
use Rattle.step.proofs.Courses.{made_is_fresh, made_sound, course_sound}
use Rattle.agreement.specs.Hall.{Hall, node_after}
use Rattle.agreement.specs.Granted.{Room, Round}

-- ---- calls that are not refused

open_goes : (s : Node) (t : Tray) (room : ℕ) → sound_node s ≡ true → sound_tray t ≡ true → s.phase ≡ 0 → length (record_bytes (opening_vote s t)) ≤ room
    → open_number s t room ≡ done
unfolding open_number
open_goes s t room h fine p l = simp (h, fine, p, le-leb _ _ l)

step_goes : (s : Node) (inbox : List ℕ) (room : ℕ) → sound_node s ≡ true → in_rounds s ≡ true → well_cut s.n inbox ≡ true
    → length (message_bytes (passed_by s inbox)) ≤ room → step_number s inbox room ≡ done
unfolding step_number
step_goes s inbox room h r c l = simp (h, r, c, le-leb _ _ l)

-- ---- the run over votes

-- each node opens with its tray's entries, and hears the votes that the messages of its inboxes read as
abbrev pub over_votes : Hall → Run
over_votes hall = record {
  n = hall.n;
  f = hall.f;
  faulty = hall.faulty;
  opening = λ i. entries_of (hall.tray i);
  heard = λ r i j. heard_from hall.n (hall.inbox i r) j;
  old = hall.old;
}

-- the node that the rules make of node i by round r
abbrev pub ruled : (hall : Hall) (i r : ℕ) → Node
ruled hall i r = node_of hall.n hall.f i (suc r) (entries_of (hall.tray i)) (kept (over_votes hall) r i)

-- what node i's course asks: nothing of it is a matter of other nodes' votes
pub record Unhindered (hall : Hall) (i : ℕ) : Type 0 where
  pub numbers : sizes hall.n hall.f i ≡ true
  pub tray : sound_tray (hall.tray i) ≡ true
  pub entries : AreEntries (entries_of (hall.tray i))
  pub room : Room hall i
  pub cut : (r : ℕ) → Round hall r → well_cut hall.n (hall.inbox i r) ≡ true
  pub bytes : (r : ℕ) → Round hall r → AreBytes (hall.inbox i r)

module _ (hall : Hall) (i : ℕ) (U : Unhindered hall i) where
  pub stays_sound : (r : ℕ) → sound_node (node_after hall i r) ≡ true
  stays_sound r = course_sound hall.n hall.f i (hall.tray i) (hall.inbox i) (hall.room i) U.numbers r

  abbrev fresh_i : made hall.n hall.f i ≡ fresh hall.n hall.f i
  fresh_i = made_is_fresh hall.n hall.f i (hall.tray i) (hall.inbox i) (hall.room i) U.numbers

  pub opens : open_number (made hall.n hall.f i) (hall.tray i) (hall.room i 1) ≡ done
  opens =
      ap (λ (s : Node). open_number s (hall.tray i) (hall.room i 1)) fresh_i
      ∙ open_goes (fresh hall.n hall.f i) (hall.tray i) (hall.room i 1)
      (subst (λ (s : Node). sound_node s ≡ true) fresh_i (made_sound hall.n hall.f i (hall.tray i) (hall.inbox i) (hall.room i) U.numbers))
      U.tray refl U.room.opens

  -- what it keeps by a step is what the rules keep
  kept_ruled : (r p : ℕ) → p < nodes_most → kept_by (ruled hall i r) (hall.inbox i (suc r)) p ≡ kept (over_votes hall) (suc r) i p
  unfolding kept
  kept_ruled r p l =
      ap (λ (bs : List (List ℕ)). kept_after kept_most (suc r) p bs (votes_at (over_votes hall) (suc r) i))
      (of_kept hall.n hall.f i (suc r) (entries_of (hall.tray i)) (kept (over_votes hall) r i) p l (kept_few (over_votes hall) r i p))

  stepped_ruled : (r : ℕ) → stepped_node (ruled hall i r) (hall.inbox i (suc r)) ≡ ruled hall i (suc r)
  stepped_ruled r =
      let phase : suc r + 1 ≡ suc (suc r) = add-one (suc r) in
      let keeps : (stepped_node (ruled hall i r) (hall.inbox i (suc r))).kept ≡ (ruled hall i (suc r)).kept =
      gather_same _ _ nodes_most (λ p l. ap (λ (bs : List (List ℕ)). kept_as bs ∷ []) (kept_ruled r p l)) in
      λ k. record { n = hall.n; f = hall.f; me = i; phase = phase k; own = (ruled hall i r).own; kept = keeps k }

  -- the step of round r + 1 is not refused, where the node has followed so far
  goes : (r : ℕ) → Round hall (suc r) → node_after hall i r ≡ ruled hall i r
      → step_number (node_after hall i r) (hall.inbox i (suc r)) (hall.room i (suc (suc r))) ≡ done
  goes r b e =
      step_goes (node_after hall i r) (hall.inbox i (suc r)) (hall.room i (suc (suc r))) (stays_sound r)
      (ap in_rounds e ∙ simp (le-leb _ _ b.first, le-leb _ _ b.last))
      (ap (λ (s : Node). well_cut s.n (hall.inbox i (suc r))) e ∙ U.cut (suc r) b) (U.room.steps r b)

  pub follows : (r : ℕ) → r ≤ hall.f + 1 → node_after hall i r ≡ ruled hall i r
  unfolding after kept
  follows zero l =
      ap (λ (k : ℕ). if_done k (opened_node (made hall.n hall.f i) (hall.tray i)) (made hall.n hall.f i)) opens
      ∙ ap (λ (s : Node). opened_node s (hall.tray i)) fresh_i
  follows (suc r) l =
      let e = follows r (le_trans (le-suc r) l) in
      let s = node_after hall i r in
      let inbox = hall.inbox i (suc r) in
      ap (λ (k : ℕ). if_done k (stepped_node s inbox) s) (goes r (record { first = omega arith; last = l }) e)
      ∙ ap (λ (x : Node). stepped_node x inbox) e
      ∙ stepped_ruled r

  -- no step refuses it
  pub steps : (r : ℕ) → Round hall (suc r) → step_number (node_after hall i r) (hall.inbox i (suc r)) (hall.room i (suc (suc r))) ≡ done
  steps r b = goes r b (follows r (le_trans (le-suc r) b.last))
