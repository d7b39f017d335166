-- The log that a node makes is what its close writes over empty places; it has no more entries than there are places.
use Prim.Native.Nat.{ℕ, zero, suc, ◌+◌, ◌*◌, ◌≤◌, ◌<◌}
use mathlib.Core.Path.{◌≡◌, refl, ap, ◌∙◌}
use mathlib.Core.Logic.{inl}
use mathlib.Core.Bool.{Bool, true, false, cond}
use mathlib.Core.List.{List, [], ◌∷◌}
use native.Mathlib.Omega.{arith}
use borrow.Author.Tests.{le-leb, leb-true}
use lib.Dec.{eqb, leb}
use lib.ListN.{length, drop, replicate}
use lib.Seq.{take_at}
use Rattle.std.specs.Prelude.{Result}
use Rattle.std.specs.Result.{result_unwrap_or}
use Rattle.laws.specs.Members.{In}
use Rattle.laws.specs.Parts.{onto}
use Rattle.rules.specs.Sizes.{nodes_most, batch_most, fits, is_batch, is_log}
use Rattle.rules.specs.Refusals.{refuse◌unless◌then◌, if_done}
use Rattle.rules.specs.Step.{gather}
use Rattle.rules.specs.Log.{only_kept, decision, decisions, joined}
use Rattle.rules.proofs.Refusals.{row_passed, done_length, done_onto}
use Rattle.rules.proofs.Joins.{join_most, joined_more}
use Rattle.rules.specs.declared.refusal.Refusal.{Refusal}
use Rattle.entries.specs.Places.{held_in}
use Rattle.entries.specs.declared.places.Places.{Places}
use Rattle.node.specs.Batches.{entries_of}
use Rattle.node.specs.State.{kept_for, sound_node}
use Rattle.node.specs.declared.Node.{Node}
use Rattle.node.proofs.Sound.{sound_right, sound_sizes}
use Rattle.tray.proofs.Sound.{batch_parts}
use Rattle.closing.specs.Close.{new_log_of, close_number, Close}
use Rattle.closing.specs.Gather.{decided_most}
use Rattle.outcome.specs.Logs.{made_log}
use Rattle.outcome.specs.Held.{held_as}
use Rattle.outcome.proofs.Answered.{answered_or}

-- ---- one log

-- what the close leaves in empty places is the log, held
pub close_holds : (s : Node) (r : Result ℕ Refusal) (after : List ℕ) → Close s [] (replicate decided_most 0) r after → (k : ℕ) → k ≡ result_unwrap_or r 0
    → ◌≡◌ {A = Places decided_most} (record { count = k; entries = after }) (held_as (made_log s))
unfolding made_log
close_holds s r after h k q =
    let number : ℕ = close_number s [] decided_most in
    let e : k ≡ length (if_done number (new_log_of s []) []) = q ∙ answered_or number (length (new_log_of s [])) 0 r h.answers ∙ done_length number (new_log_of s []) in
    let p : after ≡ onto (if_done number (new_log_of s []) []) (replicate decided_most 0) = h.output_is ∙ done_onto number (new_log_of s []) (replicate decided_most 0) in
    λ i. record { count = e i; entries = p i }

pub held_log : (log : List ℕ) → held_in {N = decided_most} (held_as log) ≡ log
held_log log = take_at log (drop (length log) (replicate decided_most 0)) (length log) refl

-- a close that is not refused has room for the new log
room_passed : (s : Node) (room : ℕ) → close_number s [] room ≡ 0 → length (new_log_of s []) ≤ room
unfolding close_number
room_passed s room h =
    let room_row : ℕ = refuse 9 unless leb (length (new_log_of s [])) room then 0 in
    let full_row : ℕ = refuse 8 unless fits (new_log_of s []) then room_row in
    let log_row : ℕ = refuse 7 unless is_log [] then full_row in
    let a = (row_passed 1 (sound_node s) (refuse 3 unless leb (s.f + 2) s.phase then log_row) h).1 in
    let b = (row_passed 2 (leb (s.f + 2) s.phase) log_row a).1 in
    let c = (row_passed 6 (is_log []) full_row b).1 in
    let d = (row_passed 7 (fits (new_log_of s [])) room_row c).1 in
    leb-true (length (new_log_of s [])) room (row_passed 8 (leb (length (new_log_of s [])) room) 0 d).0

pub log_most_lem : (s : Node) → length (made_log s) ≤ decided_most
unfolding made_log
log_most_lem s = go (close_number s [] decided_most) refl
  where
    go : (row : ℕ) → close_number s [] decided_most ≡ row → length (if_done row (new_log_of s []) []) ≤ decided_most
    go zero e = room_passed s decided_most e
    go (suc row) e = omega arith

-- ---- the log of a sound node after the last round

module _ (s : Node) (sound : sound_node s ≡ true) where
  decision_most : (p : ℕ) → p < nodes_most → length (decision s.me (entries_of s.own) p (kept_for s p)) ≤ batch_most
  unfolding decision
  decision_most p l = go (eqb p s.me) (kept_for s p) ((sound_right s sound).keeps.keepable p l).each
    where
      batch : (b : List ℕ) → is_batch b ≡ true → length b ≤ batch_most
      batch b h = (batch_parts b h).0

      go : (q : Bool) (bs : List (List ℕ)) → ((b : List ℕ) → In b bs → is_batch b ≡ true) → length (cond q (entries_of s.own) (only_kept bs)) ≤ batch_most
      go true bs h = batch (entries_of s.own) (sound_right s sound).own_batch
      go false [] h = omega arith
      go false (b ∷ []) h = batch b (h b (inl refl))
      go false (b ∷ c ∷ bs) h = omega arith

  decisions_most : (p : ℕ) → p ≤ nodes_most → length (joined [] (decisions p s.me (entries_of s.own) (kept_for s))) ≤ batch_most * p
  unfolding decisions gather
  decisions_most zero l = omega arith
  decisions_most (suc p) l =
      let before : List (List ℕ) = gather (λ (q : ℕ). decision s.me (entries_of s.own) q (kept_for s q) ∷ []) p in
      let d : List ℕ = decision s.me (entries_of s.own) p (kept_for s p) in
      omega (arith, ap length (joined_more [] before d), join_most (joined [] before) d, decisions_most p (omega arith), decision_most p (omega arith))

  pub new_log_most : length (new_log_of s []) ≤ decided_most
  new_log_most = omega (arith, decisions_most s.n (sound_sizes s sound).most, (sound_sizes s sound).most)

  -- it is the empty log joined with all n decisions
  pub makes_log : s.f + 2 ≤ s.phase → made_log s ≡ new_log_of s []
  unfolding made_log close_number is_log fits
  makes_log over =
      let l : length (new_log_of s []) ≤ 4096 = omega (arith, new_log_most) in
      simp (sound, le-leb _ _ over, le-leb _ _ l, le-leb _ _ new_log_most)
