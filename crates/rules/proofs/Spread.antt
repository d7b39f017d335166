-- Spreading: who newly keeps a batch in round r is no witness of it yet, so what it passes on has r + 1 witnesses and is accepted by all in the next
-- round. In the last round some witness is correct and is no new one, so the batch has spread before.
use Prim.Native.Nat.{ℕ, zero, suc, ◌+◌, ◌≤◌, ◌<◌, zero-le, suc-le-suc}
use mathlib.Core.Path.{◌≡◌, refl, sym, ap, subst, ◌∙◌}
use mathlib.Core.Logic.{◌≢◌, inl, ⊎_elim}
use mathlib.Core.Bool.{Bool, true, false}
use native.Mathlib.Nat.{le-suc, le_of_eq, eq-or-lt_of_le}
use native.Mathlib.Omega.{arith}
use borrow.Author.Tests.{eqb-true, eqb-false}
use lib.Count.{ones}
use lib.Dec.{eqb}
use Rattle.laws.specs.Members.{In}
use Rattle.laws.proofs.Bits.{ones_count}
use Rattle.laws.proofs.Count.{Apart, more_pass}
use Rattle.rules.specs.Vote.{Batch, Vote, shows, opened, accepted, passed_on}
use Rattle.rules.specs.Step.{kept_most}
use Rattle.rules.specs.Run.{Run, votes_at, kept, new_at, sent}
use Rattle.rules.specs.Premises.{Correct, HasSent, Premises}
use Rattle.rules.proofs.Votes.{passed_shows, passed_ones, accepts, opened_accepted}
use Rattle.rules.proofs.Kept.{Has}
use Rattle.rules.proofs.Newly.{after_has}
use Rattle.rules.proofs.Inbox.{taken_in, passes_in}
use Rattle.rules.proofs.Sent.{kept_mono, has_mono, new_kept, NewVote, new_vote, Origin, kept_origin, sent_relayed, sent_opening}
use Rattle.rules.proofs.Shown.{Shown, votes_shown}

module _ (run : Run) (P : Premises run) where
  -- what another correct node sends for a third, and is acceptable, is kept by all who read it, or two are
  hears : (r i j p : ℕ) (w : Vote) → suc r ≤ run.f + 1 → Correct run i → Correct run j → i ≢ j → j ≢ p
      → In w (sent run (suc r) i) → w.primary ≡ p → accepted (suc r) p w ≡ true → Has w.batch (kept run (suc r) j p)
  unfolding kept
  hears r i j p w l ci cj ne np h e a =
      let k : In w (run.heard (suc r) j i) = rw (P.whole (suc r) j i (suc-le-suc zero-le, l) cj ci (λ q. ne (sym q))) h in
      let t = taken_in run.n j (run.heard (suc r) j) i w ci.node ne (λ q. np (sym q ∙ e)) k in
      after_has kept_most (suc r) p (kept run r j p) (votes_at run (suc r) j) w t a

  -- a node that newly keeps a batch was not among the vote's witnesses
  no_witness : (r i p : ℕ) (v : Vote) → suc r ≤ run.f + 1 → Correct run i → In v (new_at run (suc r) i p) → shows i v ≡ false
  no_witness r i p v l ci h = go (shows i v) refl
    where
      t : NewVote run r i p v
      t = new_vote run r i p v h

      go : (b : Bool) → shows i v ≡ b → shows i v ≡ false
      go false e = e
      go true e =
          let a = (votes_shown run P r i l ci v t.read).shown i ci e in
          let q = sent_relayed run a.round i p a.vote t.other a.its (a.of ∙ t.taken.of) in
          let k : In v.batch (kept run (suc q.step) i p) =
          subst (λ (b : Batch). In b (kept run (suc q.step) i p)) (q.says ∙ a.says) (new_kept run q.step i p q.vote q.new) in
          absurd (t.new (kept_mono run i p v.batch (suc q.step) r (omega (arith, a.by, q.round)) k))

  -- Spreading: what a correct node newly keeps for p in round r, up to f, every correct node other than p has, or has two, after round r + 1.
  pub spreading : (r i j p : ℕ) (v : Vote) → r ≤ run.f → p < run.n → Correct run i → Correct run j → j ≢ p → In v (new_at run r i p)
      → Has v.batch (kept run (suc r) j p)
  unfolding sent new_at passed_on
  spreading zero i j p v l lp ci cj np h = absurd h
  spreading (suc r) i j p v l lp ci cj np h = go (eqb i j) refl
    where
      le : suc r ≤ run.f + 1
      le = omega arith

      t : NewVote run r i p v
      t = new_vote run r i p v h

      w : Vote
      w = passed_on i v

      out : In w (sent run (suc (suc r)) i)
      out = passes_in run.n run.f i (suc r) (kept run r i) (votes_at run (suc r) i) p v (omega arith) lp h

      many : suc (suc r) ≤ ones w.mask
      many = omega (arith, passed_ones i v (no_witness r i p v le ci h), t.taken.many)

      go : (b : Bool) → eqb i j ≡ b → Has v.batch (kept run (suc (suc r)) j p)
      go true e =
          inl (subst (λ (x : ℕ). In v.batch (kept run (suc (suc r)) x p)) (eqb-true i j e)
          (kept_mono run i p v.batch (suc r) (suc (suc r)) (le-suc (suc r)) (new_kept run r i p v h)))
      go false e =
          hears (suc r) i j p w (omega arith) ci cj (eqb-false i j e) np out t.taken.of
          (accepts (suc (suc r)) p w t.taken.of (passed_shows p i v t.taken.bit_set) many)

  -- what a correct primary opened with, every other correct node has, or has two
  pub opening_kept : (j p : ℕ) → Correct run j → Correct run p → j ≢ p → Has (run.opening p) (kept run (run.f + 1) j p)
  unfolding sent opened
  opening_kept j p cj cp ne =
      has_mono run j p (run.opening p) 1 (run.f + 1) (omega arith)
      (hears 0 p j p (opened p (run.opening p)) (omega arith) cp cj (λ e. ne (sym e)) ne (inl refl) refl (opened_accepted p (run.opening p)))

  -- a vote that a correct witness has sent by round r, accepted in it
  spread_sent : (r c j p : ℕ) (b : Batch) → r ≤ run.f + 1 → p < run.n → Correct run c → Correct run j → j ≢ p → HasSent run r c p b
      → Has b (kept run (run.f + 1) j p)
  spread_sent r c j p b l lp cc cj np a = go (eqb c p) refl
    where
      go : (t : Bool) → eqb c p ≡ t → Has b (kept run (run.f + 1) j p)
      go true e =
          let q : c ≡ p = eqb-true c p e in
          let o : run.opening p ≡ b = ap run.opening (sym q) ∙ sym (sent_opening run a.round c a.vote a.its (a.of ∙ sym q)) ∙ a.says in
          subst (λ (x : Batch). Has x (kept run (run.f + 1) j p)) o (opening_kept j p cj (subst (λ (x : ℕ). Correct run x) q cc) np)
      go false e =
          let q = sent_relayed run a.round c p a.vote (λ x. eqb-false c p e (sym x)) a.its a.of in
          let s = spreading (suc q.step) c j p q.vote (omega (arith, a.by, q.round)) lp cc cj np q.new in
          subst (λ (x : Batch). Has x (kept run (run.f + 1) j p)) (q.says ∙ a.says)
          (has_mono run j p q.vote.batch (suc (suc q.step)) (run.f + 1) (omega (arith, a.by, q.round)) s)

  -- The last round: what a correct node newly keeps for p in round f + 1, some correct node has sent by then, so every correct node other than p has it,
  -- or has two, after round f + 1.
  pub last_round : (r i j p : ℕ) (v : Vote) → r ≡ run.f + 1 → p < run.n → Correct run i → Correct run j → j ≢ p → In v (new_at run r i p)
      → Has v.batch (kept run (run.f + 1) j p)
  unfolding shows new_at
  last_round zero i j p v e lp ci cj np h = absurd h
  last_round (suc r) i j p v e lp ci cj np h = spread_sent (suc r) c.0 j p v.batch (le_of_eq e) lp cc cj np its
    where
      t : NewVote run r i p v
      t = new_vote run r i p v h

      o : Shown run P (suc r) v
      o = votes_shown run P r i (le_of_eq e) ci v t.read

      c : Apart (λ (x : ℕ). shows x v) run.faulty run.n
      c = more_pass (λ (x : ℕ). shows x v) run.faulty run.n (omega (arith, P.few, t.taken.many, ones_count run.n v.mask o.range))

      cc : Correct run c.0
      cc = record { node = c.1; fine = c.2 }

      its : HasSent run (suc r) c.0 p v.batch
      its = subst (λ (x : ℕ). HasSent run (suc r) c.0 x v.batch) t.taken.of (o.shown c.0 cc c.3)

  -- so what one correct node has kept after round f + 1, every correct node other than p has, or has two
  pub spread : (i j p : ℕ) → p < run.n → Correct run i → Correct run j → j ≢ p → (b : Batch) → In b (kept run (run.f + 1) i p)
      → Has b (kept run (run.f + 1) j p)
  spread i j p lp ci cj np b h =
      subst (λ (x : Batch). Has x (kept run (run.f + 1) j p)) (sym o.says)
      (⊎_elim (λ e. last_round (suc o.round) i j p o.vote e lp ci cj np o.new)
      (λ l. has_mono run j p o.vote.batch (suc (suc o.round)) (run.f + 1) l (spreading (suc o.round) i j p o.vote (omega arith) lp ci cj np o.new))
      (eq-or-lt_of_le o.before))
    where
      o : Origin run (run.f + 1) i p b
      o = kept_origin run (run.f + 1) i p b h
