-- What the close of a node that nothing hinders answers is what the rules say of its decisions: it is in phase f + 2 with a well-formed old log and room enough, so that the log
-- is made, or refused by 8 alone.
use Prim.Native.Nat.{ℕ, suc, ◌+◌, ◌≤◌, ◌<◌}
use mathlib.Core.Path.{◌≡◌, refl, sym, ap, ◌∙◌}
use mathlib.Core.Bool.{Bool, true, false}
use mathlib.Core.List.{List, [], ◌∷◌}
use native.Mathlib.Nat.{le_refl, le_trans}
use native.Mathlib.Omega.{arith}
use borrow.Author.Tests.{le-leb}
use lib.ListN.{length}
use Rattle.laws.proofs.Tests.{zero_one}
use Rattle.rules.specs.Sizes.{fits, is_log}
use Rattle.rules.specs.Refusals.{done}
use Rattle.rules.specs.Vote.{Batch}
use Rattle.rules.specs.Log.{decision, decisions, joined, made, full, closed}
use Rattle.rules.specs.Run.{kept, new_log}
use Rattle.rules.proofs.Inbox.{gather_same}
use Rattle.rules.proofs.Sent.{kept_few}
use Rattle.rules.proofs.Sizes.{sizes_told}
use Rattle.tray.specs.Trays.{entries_of}
use Rattle.node.specs.State.{kept_for, sound_node}
use Rattle.node.specs.declared.Node.{Node}
use Rattle.node.proofs.Lists.{batch_entries}
use Rattle.node.proofs.Sound.{of_kept}
use Rattle.closing.specs.Close.{new_log_of, close_number}
use Rattle.agreement.specs.Hall.{Hall, node_after, closes, log_of}
use Rattle.agreement.proofs.Follows.{over_votes, ruled, Unhindered, stays_sound, follows}

-- ---- the close of a node whose rounds are over

module _ (s : Node) (old : List ℕ) (room : ℕ) (h : sound_node s ≡ true) (p : s.f + 2 ≤ s.phase) (l : is_log old ≡ true) where
  makes_log : fits (new_log_of s old) ≡ true → length (new_log_of s old) ≤ room → close_number s old room ≡ done
  unfolding close_number
  makes_log e k = simp (h, le-leb _ _ p, l, e, le-leb _ _ k)

  is_full : fits (new_log_of s old) ≡ false → close_number s old room ≡ 8
  unfolding close_number
  is_full e = simp (h, le-leb _ _ p, l, e)

-- the decisions depend on what was kept for the nodes alone
decisions_same : (n me : ℕ) (own : Batch) (kept other : ℕ → List Batch) → ((p : ℕ) → p < n → kept p ≡ other p)
    → decisions n me own kept ≡ decisions n me own other
unfolding decisions
decisions_same n me own kept other h = gather_same _ _ n (λ p l. ap (λ (bs : List Batch). decision me own p bs ∷ []) (h p l))

module _ (hall : Hall) (i : ℕ) (U : Unhindered hall i) (well_formed : is_log hall.old ≡ true) where
  abbrev last : Node
  last = node_after hall i (hall.f + 1)

  abbrev decided : List Batch
  decided = decisions hall.n i (entries_of (hall.tray i)) (kept (over_votes hall) (hall.f + 1) i)

  its_node : last ≡ ruled hall i (hall.f + 1)
  its_node = follows hall i U (hall.f + 1) (le_refl (hall.f + 1))

  rounds_over : last.f + 2 ≤ last.phase
  rounds_over =
      let f : last.f ≡ hall.f = ap (λ (s : Node). s.f) its_node in
      let phase : last.phase ≡ suc (hall.f + 1) = ap (λ (s : Node). s.phase) its_node in
      omega (arith, f, phase)

  -- the log is the old log joined with the decisions of the rules
  log_ruled : log_of hall i ≡ joined hall.old decided
  log_ruled =
      let s = ruled hall i (hall.f + 1) in
      let own = entries_of (hall.tray i) in
      ap (λ (x : Node). new_log_of x hall.old) its_node
      ∙ ap (λ (b : Batch). joined hall.old (decisions hall.n i b (kept_for s))) (batch_entries own)
      ∙ ap (joined hall.old)
      (decisions_same hall.n i own (kept_for s) (kept (over_votes hall) (hall.f + 1) i)
      (λ p l.
      of_kept hall.n hall.f i (suc (hall.f + 1)) own (kept (over_votes hall) (hall.f + 1) i) p (le_trans l (sizes_told hall.n hall.f i U.numbers).most)
      (kept_few (over_votes hall) (hall.f + 1) i p)))

  sound_last : sound_node last ≡ true
  sound_last = stays_sound hall i U (hall.f + 1)

  -- it answers by a log, or by 8
  pub made_closes : (log : List ℕ) → new_log (over_votes hall) i ≡ made log → (closes hall i ≡ done) × (log_of hall i ≡ log)
  unfolding new_log closed
  made_closes log m = go (fits (log_of hall i)) refl
    where
      go : (b : Bool) → fits (log_of hall i) ≡ b → (closes hall i ≡ done) × (log_of hall i ≡ log)
      go true e =
          let g = rw (sym log_ruled, e) at m in
          (makes_log last hall.old (hall.output i) sound_last rounds_over well_formed e (U.room.closing e), cc)
      go false e = let g = rw (sym log_ruled, e) at m in zero_one cc

  pub full_closes : new_log (over_votes hall) i ≡ full → closes hall i ≡ 8
  unfolding new_log closed
  full_closes m = go (fits (log_of hall i)) refl
    where
      go : (b : Bool) → fits (log_of hall i) ≡ b → closes hall i ≡ 8
      go true e = let g = rw (sym log_ruled, e) at m in zero_one cc
      go false e = is_full last hall.old (hall.output i) sound_last rounds_over well_formed e

  -- one that answers by a log makes it by the rules
  pub closes_made : closes hall i ≡ done → new_log (over_votes hall) i ≡ made (log_of hall i)
  unfolding new_log closed
  closes_made d = go (fits (log_of hall i)) refl
    where
      go : (b : Bool) → fits (log_of hall i) ≡ b → new_log (over_votes hall) i ≡ made (log_of hall i)
      go true e = rw (sym log_ruled, e)
      go false e = absurd (let z = is_full last hall.old (hall.output i) sound_last rounds_over well_formed e in omega arith)
