-- What a node keeps and sends, whatever it hears: kept batches add up, at most two different; a vote for another primary that a node sent is one by
-- which it newly kept the batch in the round before; a vote for itself is its opening.
use Prim.Native.Nat.{ℕ, zero, suc, ◌≤◌}
use mathlib.Core.Path.{◌≡◌, refl, sym, ap, subst, ◌∙◌}
use mathlib.Core.Logic.{◌≢◌, ⊎_elim}
use mathlib.Core.List.{◌++◌}
use native.Mathlib.Nat.{le_refl, le_trans, le-suc}
use native.Mathlib.Decide.{le_ind}
use Rattle.laws.specs.Members.{In}
use Rattle.laws.proofs.Members.{in_left, in_right, in_either, in_map, map_in}
use Rattle.rules.specs.Vote.{Batch, Vote, batches, opened, passed_on}
use Rattle.rules.specs.Step.{kept_most}
use Rattle.rules.specs.Run.{Run, votes_at, kept, new_at, sent}
use Rattle.rules.proofs.Votes.{Accepted, accepted_says}
use Rattle.rules.proofs.Kept.{Few, Has, has_left}
use Rattle.rules.proofs.Newly.{newly_new, after_few}
use Rattle.rules.proofs.Inbox.{taken_of, PassedOn, passes_of}

module _ (run : Run) where
  -- ---- kept

  kept_grows : (r i p : ℕ) → kept run (suc r) i p ≡ kept run r i p ++ batches (new_at run (suc r) i p)
  unfolding kept new_at
  kept_grows r i p = refl

  pub kept_mono : (i p : ℕ) (b : Batch) (r s : ℕ) → r ≤ s → In b (kept run r i p) → In b (kept run s i p)
  kept_mono i p b r s l h =
      le_ind (λ (m : ℕ). In b (kept run m i p)) h (λ m k g. rw (kept_grows m i p) (in_left b (kept run m i p) (batches (new_at run (suc m) i p)) g)) s l

  pub has_mono : (i p : ℕ) (b : Batch) (r s : ℕ) → r ≤ s → Has b (kept run r i p) → Has b (kept run s i p)
  has_mono i p b r s l h =
      le_ind (λ (m : ℕ). Has b (kept run m i p)) h (λ m k g. rw (kept_grows m i p) (has_left kept_most b (kept run m i p) (batches (new_at run (suc m) i p)) g)) s l

  pub kept_few : (r i p : ℕ) → Few (kept run r i p)
  unfolding kept
  kept_few zero i p = tt
  kept_few (suc r) i p = after_few (suc r) p (kept run r i p) (votes_at run (suc r) i) (kept_few r i p)

  pub new_kept : (r i p : ℕ) (v : Vote) → In v (new_at run (suc r) i p) → In v.batch (kept run (suc r) i p)
  new_kept r i p v h =
      rw (kept_grows r i p)
      (in_right v.batch (kept run r i p) (batches (new_at run (suc r) i p)) (in_map (λ (x : Vote). x.batch) v (new_at run (suc r) i p) h))

  -- ---- newly kept

  -- the vote came in another's message, is accepted, for another primary, and its batch was not kept before
  pub record NewVote (r i p : ℕ) (v : Vote) : Type 0 where
    pub read : In v (votes_at run (suc r) i)
    pub taken : Accepted (suc r) p v
    pub other : p ≢ i
    pub new : In v.batch (kept run r i p) → ⊥

  pub new_vote : (r i p : ℕ) (v : Vote) → In v (new_at run (suc r) i p) → NewVote r i p v
  unfolding new_at
  new_vote r i p v h =
      let t = newly_new kept_most (suc r) p (kept run r i p) (votes_at run (suc r) i) v h in
      let a = accepted_says (suc r) p v t.taken in
      let u = taken_of run.n i (run.heard (suc r) i) v t.read in
      record { read = t.read; taken = a; other = λ e. u.not_own (a.of ∙ e); new = t.new }

  -- a kept batch was newly kept in some round
  pub record Origin (s i p : ℕ) (b : Batch) : Type 0 where
    pub round : ℕ
    pub before : suc round ≤ s
    pub vote : Vote
    pub new : In vote (new_at run (suc round) i p)
    pub says : b ≡ vote.batch

  pub kept_origin : (s i p : ℕ) (b : Batch) → In b (kept run s i p) → Origin s i p b
  unfolding kept
  kept_origin zero i p b h = absurd h
  kept_origin (suc s) i p b h =
      ⊎_elim (λ k. let o = kept_origin s i p b k in record { round = o.round; before = le_trans o.before (le-suc s); vote = o.vote; new = o.new; says = o.says })
      (λ k. let t = map_in (λ (x : Vote). x.batch) b (new_at run (suc s) i p) k in record { round = s; before = le_refl (suc s); vote = t.0; new = t.1; says = t.2 })
      (in_either b (kept run s i p) (batches (new_at run (suc s) i p)) (rw (kept_grows s i p) at h))

  -- ---- sent

  pub passed_of : (r i : ℕ) (w : Vote) → In w (sent run (suc (suc r)) i) → PassedOn run.n run.f i (suc r) (kept run r i) (votes_at run (suc r) i) w
  unfolding sent
  passed_of r i w h = passes_of run.n run.f i (suc r) (kept run r i) (votes_at run (suc r) i) w h

  -- a vote for another primary
  pub record Relayed (r i p : ℕ) (b : Batch) : Type 0 where
    pub step : ℕ
    pub round : r ≡ suc (suc step)
    pub vote : Vote
    pub new : In vote (new_at run (suc step) i p)
    pub says : vote.batch ≡ b

  pub sent_relayed : (r i p : ℕ) (w : Vote) → p ≢ i → In w (sent run r i) → w.primary ≡ p → Relayed r i p w.batch
  unfolding sent opened new_at passed_on
  sent_relayed zero i p w ne h e = absurd h
  sent_relayed (suc zero) i p w ne h e =
      ⊎_elim (λ g. absurd (ne (sym e ∙ ap (λ (v : Vote). v.primary) g))) (λ k. absurd k) h
  sent_relayed (suc (suc r)) i p w ne h e =
      let t = passed_of r i w h in
      let a = (new_vote r i t.primary t.vote t.new).taken in
      let q : t.primary ≡ p = sym a.of ∙ sym (ap (λ (v : Vote). v.primary) t.passed) ∙ e in
      record {
        step = r;
        round = refl;
        vote = t.vote;
        new = subst (λ (x : ℕ). In t.vote (new_at run (suc r) i x)) q t.new;
        says = sym (ap (λ (v : Vote). v.batch) t.passed);
      }

  -- a vote for itself
  pub sent_opening : (r i : ℕ) (w : Vote) → In w (sent run r i) → w.primary ≡ i → w.batch ≡ run.opening i
  unfolding sent opened new_at passed_on
  sent_opening zero i w h e = absurd h
  sent_opening (suc zero) i w h e = ⊎_elim (λ g. ap (λ (v : Vote). v.batch) g) (λ k. absurd k) h
  sent_opening (suc (suc r)) i w h e =
      let t = passed_of r i w h in
      let a = new_vote r i t.primary t.vote t.new in
      absurd (a.other (sym a.taken.of ∙ sym (ap (λ (v : Vote). v.primary) t.passed) ∙ e))
