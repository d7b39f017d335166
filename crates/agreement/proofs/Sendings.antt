-- What a node that nothing hinders sends reads back as the votes that the rules send: the opening is one vote that can be said, and what a step writes reads back.
use Prim.Native.Nat.{ℕ, zero, suc, ◌+◌, ◌≤◌, ◌<◌}
use mathlib.Core.Path.{◌≡◌, refl, sym, ap, subst, ◌∙◌}
use mathlib.Core.Logic.{⊎_elim}
use mathlib.Core.Bool.{true, cond}
use mathlib.Core.List.{List, [], ◌∷◌, map, append-nil}
use mathlib.Core.Option.{some}
use Rattle.std.proofs.Math.Option.{some-injective}
use native.Mathlib.Nat.{le_trans, le-suc}
use native.Mathlib.Omega.{arith}
use lib.Dec.{eqb}
use lib.ListN.{length}
use Rattle.laws.specs.Members.{In}
use Rattle.rules.specs.Refusals.{if_done}
use Rattle.rules.specs.Vote.{Batch, Vote, opened, passed_on}
use Rattle.rules.specs.Step.{kept_most, newly, passes_on}
use Rattle.rules.specs.Run.{votes_at, kept, sent}
use Rattle.rules.specs.Premises.{HasSent as Sent}
use Rattle.rules.proofs.Inbox.{gather_same}
use Rattle.rules.proofs.Sent.{kept_few}
use Rattle.rules.proofs.Sizes.{Sized, sizes_told}
use Rattle.wire.specs.Sizes.{record_most}
use Rattle.wire.specs.Record.{record_bytes}
use Rattle.wire.specs.Message.{votes_after, votes_of, message_bytes}
use Rattle.roundtrip.specs.Records.{Sayable}
use Rattle.roundtrip.proofs.Claim.{round_trips}
use Rattle.tray.specs.Trays.{entries_of}
use Rattle.node.specs.State.{kept_for, sound_node, fresh}
use Rattle.node.specs.Opening.{opening_vote}
use Rattle.node.specs.declared.Node.{Node}
use Rattle.node.proofs.Sound.{of_kept}
use Rattle.node.proofs.StaySound.{fresh_is_sound, opening_size}
use Rattle.node.proofs.Openings.{opening_sayable}
use Rattle.step.specs.Step.{passed_by}
use Rattle.step.specs.Course.{made, outbox}
use Rattle.step.proofs.Courses.{made_is_fresh}
use Rattle.step.proofs.ReadsBack.{outbox_reads_back}
use Rattle.agreement.specs.Hall.{Hall, node_after, sends}
use Rattle.agreement.specs.Granted.{Round, HasSent}
use Rattle.agreement.proofs.Follows.{over_votes, ruled, Unhindered, stays_sound, opens, follows, steps}

-- what is passed on depends on what was kept for the nodes alone
passes_same : (n f me r : ℕ) (kept other : ℕ → List Batch) (votes : List Vote) → ((p : ℕ) → p < n → kept p ≡ other p)
    → passes_on n f me r kept votes ≡ passes_on n f me r other votes
unfolding passes_on
passes_same n f me r kept other votes h =
    ap (λ (vs : List Vote). cond (eqb r (f + 1)) [] vs)
    (gather_same _ _ n (λ p l. ap (λ (bs : List Batch). map (passed_on me) (newly kept_most r p bs votes)) (h p l)))

-- nothing is sent before round 1
sends_nothing : (hall : Hall) (c : ℕ) → votes_of hall.n (sends hall c 0) ≡ some []
unfolding outbox votes_of votes_after
sends_nothing hall c = refl

module _ (hall : Hall) (i : ℕ) (U : Unhindered hall i) where
  abbrev n : ℕ
  n = hall.n

  nodes : Sized n hall.f i
  nodes = sizes_told n hall.f i U.numbers

  abbrev own : Vote
  own = opened i (entries_of (hall.tray i))

  -- ---- round 1

  fresh_sound : sound_node (fresh n hall.f i) ≡ true
  fresh_sound = fresh_is_sound n hall.f i U.numbers

  opening_sent : sends hall i 1 ≡ message_bytes (own ∷ [])
  unfolding outbox message_bytes
  opening_sent =
      ap (λ (k : ℕ). if_done k (record_bytes (opening_vote (made n hall.f i) (hall.tray i))) []) (opens hall i U)
      ∙ ap (λ (s : Node). record_bytes (opening_vote s (hall.tray i)))
      (made_is_fresh n hall.f i (hall.tray i) (hall.inbox i) (hall.room i) U.numbers)
      ∙ sym (append-nil (record_bytes own))

  opening_reads : votes_of n (message_bytes (own ∷ [])) ≡ some (own ∷ [])
  unfolding message_bytes opened
  opening_reads =
      let short : length (record_bytes own) ≤ record_most = opening_size (fresh n hall.f i) (hall.tray i) U.tray in
      let bytes : length (message_bytes (own ∷ [])) ≡ length (record_bytes own) = ap length (append-nil (record_bytes own)) in
      let says : Sayable n own = record { test = opening_sayable (fresh n hall.f i) (hall.tray i) [] fresh_sound U.tray; entries = U.entries } in
      (round_trips n nodes.nodes).messages.read_back (own ∷ []) (λ v m. ⊎_elim (λ e. subst (Sayable n) (sym e) says) (λ b. absurd b) m)
      (omega (arith, short, bytes))

  -- ---- after it

  module _ (r : ℕ) (b : Round hall (suc r)) where
    passed_sent : sends hall i (suc (suc r)) ≡ message_bytes (passed_by (node_after hall i r) (hall.inbox i (suc r)))
    unfolding outbox
    passed_sent = ap (λ (k : ℕ). if_done k (message_bytes (passed_by (node_after hall i r) (hall.inbox i (suc r)))) []) (steps hall i U r b)

    passed_ruled : passed_by (node_after hall i r) (hall.inbox i (suc r)) ≡ sent (over_votes hall) (suc (suc r)) i
    unfolding sent
    passed_ruled =
        ap (λ (s : Node). passed_by s (hall.inbox i (suc r))) (follows hall i U r (le_trans (le-suc r) b.last))
        ∙ passes_same n hall.f i (suc r) (kept_for (ruled hall i r)) (kept (over_votes hall) r i) (votes_at (over_votes hall) (suc r) i)
        (λ p l. of_kept n hall.f i (suc r) (entries_of (hall.tray i)) (kept (over_votes hall) r i) p (le_trans l nodes.most)
        (kept_few (over_votes hall) r i p))

    passed_reads : votes_of n (sends hall i (suc (suc r))) ≡ some (sent (over_votes hall) (suc (suc r)) i)
    passed_reads =
        let s = node_after hall i r in
        let e : s.n ≡ n = ap (λ (x : Node). x.n) (follows hall i U r (le_trans (le-suc r) b.last)) in
        ap (votes_of n) passed_sent
        ∙ subst (λ (m : ℕ). votes_of m (message_bytes (passed_by s (hall.inbox i (suc r)))) ≡ some (passed_by s (hall.inbox i (suc r)))) e
        (outbox_reads_back s (hall.inbox i (suc r)) (stays_sound hall i U r) (U.bytes (suc r) b))
        ∙ ap (λ (vs : List Vote). some vs) passed_ruled

  pub sends_read : (r : ℕ) → Round hall r → votes_of n (sends hall i r) ≡ some (sent (over_votes hall) r i)
  unfolding sent
  sends_read zero b = absurd (omega (arith, b.first))
  sends_read (suc zero) b = ap (votes_of n) opening_sent ∙ opening_reads
  sends_read (suc (suc r)) b = passed_reads r (record { first = omega arith; last = le_trans (le-suc (suc r)) b.last })

  -- a record that it sent is a vote that the rules sent
  pub sent_ruled : (r p : ℕ) (b : Batch) → r ≤ hall.f + 1 → HasSent hall r i p b → Sent (over_votes hall) r i p b
  sent_ruled r p b l s = record { round = s.round; by = omega (arith, s.by); vote = s.vote; its = its s.round refl; of = s.of; says = s.says }
    where
      its : (q : ℕ) → s.round ≡ q → In s.vote (sent (over_votes hall) s.round i)
      its zero e =
          let none_sent : s.votes ≡ [] = some-injective _ _ (sym s.read ∙ ap (λ (k : ℕ). votes_of n (sends hall i k)) e ∙ sends_nothing hall i) in
          absurd (subst (In s.vote) none_sent s.its)
      its (suc q) e =
          let round : Round hall s.round = record { first = omega arith; last = omega (arith, s.by) } in
          subst (In s.vote) (some-injective _ _ (sym s.read ∙ sends_read s.round round)) s.its
