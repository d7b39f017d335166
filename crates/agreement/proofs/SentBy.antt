-- What a node has sent can be told by its state: in round r + 1 or before it has sent its own batch, and every batch that it has kept after r rounds.
use Prim.Native.Nat.{ℕ, zero, suc, ◌≤◌, ◌<◌}
use mathlib.Core.Path.{◌≡◌, refl, sym, ap, subst, ◌∙◌}
use mathlib.Core.Logic.{◌≢◌, inl, ⊎_elim}
use mathlib.Core.Bool.{Bool, true, false, ◌&&◌, ◌||◌}
use mathlib.Core.List.{List}
use native.Mathlib.Nat.{le_refl, le_trans, le-suc, eq-or-lt_of_le, le_of_suc-le-suc}
use native.Mathlib.Omega.{arith}
use borrow.Author.Tests.{eqb-true, eqb-false, eq-eqb}
use lib.Dec.{eqb}
use Rattle.laws.specs.Members.{In, same, among, those}
use Rattle.laws.proofs.Tests.{both, other, one_of}
use Rattle.laws.proofs.Members.{in_those, in_map, in_among, among_in, same_eq, same_self}
use Rattle.rules.specs.Vote.{Batch, Vote, opened, passed_on}
use Rattle.rules.specs.Run.{votes_at, kept, new_at, sent}
use Rattle.rules.specs.Premises.{HasSent as Sent}
use Rattle.rules.proofs.Inbox.{passes_in}
use Rattle.rules.proofs.Sent.{kept_mono, kept_few, new_kept, new_vote, kept_origin, sent_relayed, sent_opening}
use Rattle.rules.proofs.Sizes.{sizes_told}
use Rattle.wire.specs.Message.{votes_of}
use Rattle.tray.specs.Trays.{entries_of}
use Rattle.node.specs.State.{kept_for}
use Rattle.node.specs.declared.Node.{Node}
use Rattle.node.proofs.Sound.{of_kept}
use Rattle.round.specs.Found.{votes_in}
use Rattle.agreement.specs.Hall.{Hall, node_after, sends}
use Rattle.agreement.specs.Granted.{Round}
use Rattle.agreement.specs.Rule.{batches_sent, has_sent}
use Rattle.agreement.proofs.Follows.{over_votes, Unhindered, follows}
use Rattle.agreement.proofs.Sendings.{sends_read, sent_ruled}
use Rattle.agreement.proofs.Shown.{has_sent_lem}

-- two tests of which each tells the other are one
same_test : (s t : Bool) → (s ≡ true → t ≡ true) → (t ≡ true → s ≡ true) → s ≡ t
same_test true t f g = sym (f refl)
same_test false true f g = g refl
same_test false false f g = refl

module _ (hall : Hall) (c : ℕ) (U : Unhindered hall c) where
  -- ---- by the rules

  -- what the rules send, the hall sends
  sent_there : (q p : ℕ) (v : Vote) → Round hall q → In v (sent (over_votes hall) q c) → v.primary ≡ p → among v.batch (batches_sent hall q c p) ≡ true
  sent_there q p v b m e =
      let votes : List Vote = votes_in (votes_of hall.n (sends hall c q)) in
      let of_p : Vote → Bool = λ x. eqb x.primary p in
      let read : votes ≡ sent (over_votes hall) q c = ap votes_in (sends_read hall c U q b) in
      in_among v.batch (batches_sent hall q c p)
      (in_map (λ (x : Vote). x.batch) v (those of_p votes) (in_those of_p v votes (subst (In v) (sym read) m) (eq-eqb v.primary p e)))

  -- .. and has sent from then on
  stays_sent : (r q p : ℕ) (b : Batch) → suc q ≤ r → among b (batches_sent hall (suc q) c p) ≡ true → has_sent hall r c p b ≡ true
  unfolding has_sent
  stays_sent zero q p b l h = absurd (omega arith)
  stays_sent (suc r) q p b l h =
      ⊎_elim (λ (e : suc q ≡ suc r). now (subst (λ (k : ℕ). among b (batches_sent hall k c p) ≡ true) e h))
      (λ k. one_of (among b (batches_sent hall (suc r) c p)) (has_sent hall r c p b) (λ z. stays_sent r q p b (le_of_suc-le-suc k) h))
      (eq-or-lt_of_le l)
    where
      now : among b (batches_sent hall (suc r) c p) ≡ true → (among b (batches_sent hall (suc r) c p) || has_sent hall r c p b) ≡ true
      now e = simp e

  -- ---- by the state

  module _ (r : ℕ) (round : Round hall (suc r)) (p : ℕ) (node : p < hall.n) (b : Batch) where
    abbrev own : Batch
    own = entries_of (hall.tray c)

    kept_is : kept_for (node_after hall c r) p ≡ kept (over_votes hall) r c p
    kept_is =
        let l = le_trans node (sizes_told hall.n hall.f c U.numbers).most in
        ap (λ (s : Node). kept_for s p) (follows hall c U r (le_trans (le-suc r) round.last))
        ∙ of_kept hall.n hall.f c (suc r) own (kept (over_votes hall) r c) p l (kept_few (over_votes hall) r c p)

    abbrev by_state : Bool
    by_state = (eqb p c && same b own) || among b (kept_for (node_after hall c r) p)

    own_told : Sent (over_votes hall) (suc r) c p b → p ≡ c → by_state ≡ true
    own_told s e =
        let q : b ≡ own = sym s.says ∙ sent_opening (over_votes hall) s.round c s.vote s.its (s.of ∙ e) in
        simp (eq-eqb p c e, ap (λ (x : Batch). same x own) q ∙ same_self own)

    kept_told : Sent (over_votes hall) (suc r) c p b → p ≢ c → by_state ≡ true
    kept_told s ne =
        let t = sent_relayed (over_votes hall) s.round c p s.vote ne s.its s.of in
        let m = subst (λ (x : Batch). In x (kept (over_votes hall) (suc t.step) c p)) (t.says ∙ s.says) (new_kept (over_votes hall) t.step c p t.vote t.new) in
        let l : suc t.step ≤ r = omega (arith, t.round, s.by) in
        one_of (eqb p c && same b own) (among b (kept_for (node_after hall c r) p))
        (λ z. ap (among b) kept_is ∙ in_among b (kept (over_votes hall) r c p) (kept_mono (over_votes hall) c p b (suc t.step) r l m))

    told : has_sent hall (suc r) c p b ≡ true → by_state ≡ true
    told h = go (eqb p c) refl
      where
        s : Sent (over_votes hall) (suc r) c p b
        s = sent_ruled hall c U (suc r) p b round.last (has_sent_lem hall (suc r) c p b h)

        go : (t : Bool) → eqb p c ≡ t → by_state ≡ true
        go true e = own_told s (eqb-true p c e)
        go false e = kept_told s (eqb-false p c e)

    own_sent : p ≡ c → b ≡ own → has_sent hall (suc r) c p b ≡ true
    unfolding sent opened
    own_sent e q =
        stays_sent (suc r) 0 p b round.first
        (ap (λ (x : Batch). among x (batches_sent hall 1 c p)) q
        ∙ sent_there 1 p (opened c own) (record { first = le_refl 1; last = le_trans round.first round.last }) (inl refl) (sym e))

    kept_sent : In b (kept (over_votes hall) r c p) → has_sent hall (suc r) c p b ≡ true
    unfolding sent new_at passed_on
    kept_sent m =
        let o = kept_origin (over_votes hall) r c p b m in
        let q = o.round in
        let v = o.vote in
        let its = passes_in hall.n hall.f c (suc q) (kept (over_votes hall) q c) (votes_at (over_votes hall) (suc q) c) p v
        (λ e. omega (arith, o.before, round.last)) node o.new in
        let at : Round hall (suc (suc q)) = record { first = omega arith; last = omega (arith, o.before, round.last) } in
        stays_sent (suc r) (suc q) p b (omega (arith, o.before))
        (ap (λ (x : Batch). among x (batches_sent hall (suc (suc q)) c p)) o.says
        ∙ sent_there (suc (suc q)) p (passed_on c v) at its (new_vote (over_votes hall) q c p v o.new).taken.of)

    state_told : by_state ≡ true → has_sent hall (suc r) c p b ≡ true
    state_told h = go (eqb p c && same b own) refl
      where
        go : (t : Bool) → (eqb p c && same b own) ≡ t → has_sent hall (suc r) c p b ≡ true
        go true e = let k = both (eqb p c) (same b own) e in own_sent (eqb-true p c k.0) (same_eq b own k.1)
        go false e =
            let k = other (eqb p c && same b own) (among b (kept_for (node_after hall c r) p)) h e in
            kept_sent (subst (In b) kept_is (among_in b (kept_for (node_after hall c r) p) k))

    pub sent_by_state : has_sent hall (suc r) c p b ≡ ((eqb p c && same b own) || among b (kept_for (node_after hall c r) p))
    sent_by_state = same_test (has_sent hall (suc r) c p b) by_state told state_told
