-- The rule on shown votes by the nodes' states is the rule by what they have sent: a correct node's state before a round has its own batch and all that it
-- has kept, and that is what it has sent by then.
use Prim.Native.Nat.{ℕ, zero, suc, ◌+◌, ◌≤◌, ◌<◌}
use mathlib.Core.Path.{◌≡◌, refl, sym, ap, ap₂, ◌∙◌}
use mathlib.Core.Logic.{inl, inr}
use mathlib.Core.Bool.{Bool, true, false, not, ◌&&◌, ◌||◌, cond}
use mathlib.Core.List.{List, [], ◌∷◌}
use Rattle.std.proofs.Math.Option.{Option, none, some}
use native.Mathlib.Nat.{le_refl, le_trans, le-suc}
use native.Mathlib.Omega.{arith}
use borrow.Author.Tests.{lt-ltb}
use lib.Dec.{eqb, ltb}
use lib.ListN.{length}
use Rattle.std.proofs.Math.Bool.{or-false}
use Rattle.laws.specs.Masks.{bit, every}
use Rattle.laws.specs.Members.{In, same, among, those}
use Rattle.laws.proofs.Bits.{mask_tells}
use Rattle.rules.specs.Sizes.{nodes_most}
use Rattle.rules.specs.Vote.{Batch, Vote, shows}
use Rattle.rules.specs.Run.{kept}
use Rattle.rules.proofs.Kept.{Few}
use Rattle.rules.proofs.Sent.{kept_few}
use Rattle.rules.proofs.Gathered.{each_at}
use Rattle.wire.specs.Message.{votes_of}
use Rattle.wire.proofs.Sayable.{votes_sayable}
use Rattle.wire.proofs.Writings.{said}
use Rattle.tray.specs.Trays.{entries_of}
use Rattle.node.specs.Batches.{batch_of, kept_as}
use Rattle.node.specs.State.{kept_for, node_of, node_at}
use Rattle.node.specs.declared.Node.{Node}
use Rattle.node.proofs.Sound.{of_kept}
use Rattle.round.specs.Found.{votes_in}
use Rattle.node.proofs.Lists.{same_batch_lem}
use Rattle.agreement.specs.Hall.{Hall, node_after}
use Rattle.agreement.specs.Granted.{Round}
use Rattle.agreement.specs.Rule.{has_sent, forged_for, breaks_rule}
use Rattle.agreement.proofs.Follows.{over_votes, follows}
use Rattle.agreement.proofs.SentBy.{sent_by_state}
use Rattle.schedule.specs.Forms.{form_of}
use Rattle.header.specs.declared.Header.{Header}
use Rattle.std.specs.Prelude.{Ok}
use Rattle.contents.proofs.Faults.{mask_is}
use Rattle.contents.proofs.Told.{held}
use Rattle.contents.specs.Contents.{is_faulty}
use Rattle.shown.specs.Shown.{kept_holds, has_sent as sent_held, forged_for as forged_held, forged as forged_shown, forged_among, breaks}
use Rattle.standing.specs.Standing.{node_before, standing}
use Rattle.standing.specs.Run.{hall_of}
use Rattle.standing.specs.declared.Standing.{Standing}
use Rattle.standing.proofs.Standings.{node_there, goes_on, nodes_sized, nodes_most_lem}

-- ---- batches, place by place

kept_among : (bs : List Batch) (b : Batch) → Few bs → kept_holds (kept_as bs) (batch_of b) ≡ among b bs
kept_among [] b few = refl
kept_among (x ∷ []) b few = ap (λ (t : Bool). t || false) (same_batch_lem b x)
kept_among (x ∷ y ∷ []) b few = ap₂ (λ (t u : Bool). t || u) (same_batch_lem b x) (same_batch_lem b y) ∙ ap (λ (t : Bool). same b x || t) (sym (or-false (same b y)))
kept_among (x ∷ y ∷ z ∷ bs) b few = absurd few

-- ---- one node's state

module _ (n f c phase : ℕ) (own : List ℕ) (kept : ℕ → List Batch) (p : ℕ) (l : p < nodes_most) (few : Few (kept p)) (b : Batch) where
  abbrev state : Node
  state = node_of n f c phase own kept

  state_sent : sent_held state p (batch_of b) ≡ ((eqb p c && same b own) || among b (kept_for state p))
  unfolding sent_held
  state_sent =
      ap₂ (λ (t u : Bool). (eqb p c && t) || u) (same_batch_lem b own)
      (ap (λ (k : _). kept_holds k (batch_of b)) (each_at (λ (q : ℕ). kept_as (kept q)) _ nodes_most p l) ∙ kept_among (kept p) b few
      ∙ ap (among b) (sym (of_kept n f c phase own kept p l few)))

-- ---- tests of many that agree on each

every_same : (t u : ℕ → Bool) (n : ℕ) → ((c : ℕ) → c < n → t c ≡ u c) → every t n ≡ every u n
unfolding every
every_same t u zero h = refl
every_same t u (suc n) h = ap₂ (λ (x y : Bool). x && y) (h n (le_refl (suc n))) (every_same t u n (λ c l. h c (le_trans l (le-suc n))))

those_same : (t u : Vote → Bool) (vs : List Vote) → ((v : Vote) → In v vs → t v ≡ u v) → those t vs ≡ those u vs
those_same t u [] h = refl
those_same t u (v ∷ vs) h =
    ap₂ (λ (b : Bool) (l : List Vote). cond b (v ∷ l) l) (h v (inl refl)) (those_same t u vs (λ w m. h w (inr m)))

heard_said : (n : ℕ) (m : List ℕ) (v : Vote) → In v (votes_in (votes_of n m)) → v.primary < n
heard_said n m v i = go (votes_of n m) refl i
  where
    go : (o : Option (List Vote)) → votes_of n m ≡ o → In v (votes_in o) → v.primary < n
    go none e k = absurd k
    go (some vs) e k = (said n v (votes_sayable n m vs e v k)).primary

-- ---- the run of a schedule

module _ (s : List ℕ) (h : Header) (form : form_of s ≡ Ok h) (here : Standing) (r : ℕ)
    (stands : here ≡ standing (hall_of s h.n h.f) (suc r)) (late : suc r ≤ h.f + 1) where
  abbrev hall : Hall
  hall = hall_of s h.n h.f

  round : Round hall (suc r)
  round = record { first = omega arith; last = late }

  -- node c is in the state that its course says
  module _ (c : ℕ) (l : c < h.n) (fine : is_faulty s c ≡ false) where
    state_is : node_at here.nodes c ≡ node_after hall c r
    unfolding node_before
    state_is =
        node_there hall here (suc r) stands c (omega (arith, l, nodes_most_lem s h form))
        ∙ simp (lt-ltb c h.n l, fine)

    sent_same : (p : ℕ) (b : Batch) → p < h.n → sent_held (node_at here.nodes c) p (batch_of b) ≡ has_sent hall (suc r) c p b
    sent_same p b k =
        let U = goes_on s h form c (record { node = l; fine = fine }) in
        let low : p < nodes_most = omega (arith, k, nodes_most_lem s h form) in
        let its = follows hall c U r (le_trans (le-suc r) late) in
        let own = entries_of (hall.tray c) in
        ap (λ (x : Node). sent_held x p (batch_of b)) (state_is ∙ its)
        ∙ state_sent h.n h.f c (suc r) own (kept (over_votes hall) r c) p low (kept_few (over_votes hall) r c p) b
        ∙ ap (λ (x : Node). (eqb p c && same b own) || among b (kept_for x p)) (sym its)
        ∙ sym (sent_by_state hall c U r round p k b)

  forged_for_lem : (v : Vote) → v.primary < h.n → (c : ℕ) → c < h.n
      → not (forged_held h.faulty (node_at here.nodes c) v.primary v.mask (batch_of v.batch) c) ≡ not (forged_for hall (suc r) v c)
  unfolding shows
  forged_for_lem v k c l = go (is_faulty s c) refl
    where
      bit_is : eqb (bit h.faulty c) 1 ≡ is_faulty s c
      bit_is = ap (λ (m : ℕ). eqb (bit m c) 1) (mask_is s h (held s h form).read) ∙ mask_tells (is_faulty s) nodes_most c (omega (arith, l, nodes_most_lem s h form))

      go : (b : Bool) → is_faulty s c ≡ b
          → not (forged_held h.faulty (node_at here.nodes c) v.primary v.mask (batch_of v.batch) c) ≡ not (forged_for hall (suc r) v c)
      go true e = simp (bit_is ∙ e, e)
      go false e = simp (bit_is ∙ e, e, sent_same c l e v.primary v.batch k)

  by_states : (m : List ℕ) → breaks h.n h.faulty here.nodes m ≡ breaks_rule hall (suc r) m
  unfolding breaks forged_among forged_shown breaks_rule
  by_states m =
      ap (λ (t : Bool). t && forged_among h.n h.faulty here.nodes (votes_in (votes_of h.n m))) (nodes_sized s h form)
      ∙ ap (λ (vs : List Vote). ltb 0 (length vs))
      (those_same _ _ (votes_in (votes_of h.n m)) (λ v i. ap not (every_same _ _ h.n (forged_for_lem v (heard_said h.n m v i)))))

-- before any round of the run
pub rule_by_states : (s : List ℕ) (h : Header) → form_of s ≡ Ok h → (here : Standing) (r : ℕ) → here ≡ standing (hall_of s h.n h.f) r → 1 ≤ r → r ≤ h.f + 1
    → (m : List ℕ) → breaks h.n h.faulty here.nodes m ≡ breaks_rule (hall_of s h.n h.f) r m
rule_by_states s h form here zero stands first last m = absurd (omega arith)
rule_by_states s h form here (suc r) stands first last m = by_states s h form here r stands last m
