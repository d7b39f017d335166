-- Where a run stands: what the calls of a round make of it is where it stands before the next.
use Prim.Native.Nat.{ℕ, zero, suc, ◌+◌, ◌*◌, ◌≤◌, ◌<◌}
use mathlib.Core.Path.{◌≡◌, refl, sym, ap, ap₂, subst, ◌∙◌}
use mathlib.Core.Logic.{◌≢◌}
use mathlib.Core.Bool.{Bool, true, false, cond}
use mathlib.Core.List.{List, [], ◌∷◌}
use native.Mathlib.Numerals.{add-one}
use native.Mathlib.Omega.{arith}
use borrow.Author.Tests.{lt-ltb, le-ltb, le-leb}
use lib.Dec.{eqb}
use lib.ListN.{length, drop, replicate}
use lib.Seq.{take_at}
use Rattle.laws.specs.Masks.{bit}
use Rattle.node.specs.State.{node_at}
use Rattle.laws.proofs.Bits.{mask_tells}
use Rattle.rules.specs.Sizes.{nodes_most, sized}
use Rattle.rules.specs.Step.{gather}
use Rattle.rules.proofs.Gathered.{each_at}
use Rattle.rules.proofs.Inbox.{gather_same}
use Rattle.rules.proofs.Sizes.{sized_most, majority}
use Rattle.wire.specs.Sizes.{message_most}
use Rattle.wire.specs.Inbox.{inbox_bytes}
use Rattle.tray.specs.Trays.{tray_of}
use Rattle.tray.proofs.Sound.{of_entries, of_is_sound}
use Rattle.step.specs.Course.{after, outbox}
use Rattle.step.proofs.Courses.{outbox_short}
use Rattle.agreement.specs.Hall.{Hall, node_after, sends}
use Rattle.agreement.specs.Granted.{Correct}
use Rattle.agreement.specs.Carried.{arriving, message}
use Rattle.agreement.proofs.Follows.{Unhindered}
use Rattle.agreement.proofs.Carried.{Given, arrives_whole, inbox_is, unhindered}
use Rattle.entries.specs.Bytes.{AreEntries}
use Rattle.schedule.specs.Forms.{form_of}
use Rattle.header.specs.declared.Header.{Header}
use Rattle.std.specs.Prelude.{Ok}
use Rattle.contents.proofs.Faults.{mask_is}
use Rattle.contents.proofs.Told.{held}
use Rattle.contents.specs.Contents.{is_faulty, entries_of_tray, message_for}
use Rattle.contents.proofs.Good.{good_sizes, tray_batch, tray_entries}
use Rattle.contents.proofs.Found.{message_bytes_lem, message_size}
use Rattle.inboxes.specs.Inboxes.{outbox_of, sent_in, given_in, outbox_at, message_to, inbox_to}
use Rattle.standing.specs.Standing.{stood_of, nobody, unopened, stepped_to, correct, node_before, stood_at, standing}
use Rattle.standing.specs.Run.{hall_of}
use Rattle.standing.specs.declared.Standing.{Standing}
use Rattle.standing.specs.declared.Stood.{Stood}

-- what stands in an outbox is what was put in
sent_back : (m : List ℕ) → length m ≤ message_most → sent_in (outbox_of m) ≡ m
sent_back m l = simp (le-leb (length m) message_most l) (take_at m (drop (length m) (replicate message_most 0)) (length m) refl)

-- ---- before the opening

pub starts : (hall : Hall) → unopened ≡ standing hall 0
unfolding gather node_before outbox
starts hall =
    let same : (i : ℕ) → stood_at hall 0 i ≡ stood_of nobody [] = λ i. go (correct hall i) in
    let nodes : gather (λ (i : ℕ). nobody ∷ []) nodes_most ≡ (standing hall 0).nodes =
    gather_same _ _ nodes_most (λ i l. ap (λ (x : Stood). x.node ∷ []) (sym (same i))) in
    let outboxes : gather (λ (i : ℕ). outbox_of [] ∷ []) nodes_most ≡ (standing hall 0).outboxes =
    gather_same _ _ nodes_most (λ i l. ap (λ (x : Stood). x.outbox ∷ []) (sym (same i))) in
    λ k. record { next = 0; nodes = nodes k; outboxes = outboxes k }
  where
    go : (b : Bool) → cond b (stood_of nobody []) (stood_of nobody []) ≡ stood_of nobody []
    go true = refl
    go false = refl

-- ---- a run that stands somewhere

module _ (hall : Hall) (here : Standing) where
  pub stands_there : (k : ℕ) → here ≡ standing hall k → here ≡ standing hall here.next
  stands_there k e = e ∙ ap (standing hall) (sym (ap (λ (x : Standing). x.next) e))

  pub node_there : (k : ℕ) → here ≡ standing hall k → (i : ℕ) → i < nodes_most → node_at here.nodes i ≡ (stood_at hall k i).node
  node_there k e i l = ap (λ (x : Standing). node_at x.nodes i) e ∙ each_at (λ (j : ℕ). (stood_at hall k j).node) _ nodes_most i l

  pub outbox_there : (k : ℕ) → here ≡ standing hall k → (i : ℕ) → i < nodes_most → outbox_at here.outboxes i ≡ (stood_at hall k i).outbox
  outbox_there k e i l = ap (λ (x : Standing). outbox_at x.outboxes i) e ∙ each_at (λ (j : ℕ). (stood_at hall k j).outbox) _ nodes_most i l

-- ---- the run of a schedule of good form

module _ (s : List ℕ) (h : Header) (form : form_of s ≡ Ok h) where
  abbrev hall : Hall
  hall = hall_of s h.n h.f

  pub nodes_sized : sized h.n ≡ true
  nodes_sized = (good_sizes s h form).0

  pub nodes_most_lem : h.n ≤ nodes_most
  nodes_most_lem = sized_most h.n nodes_sized

  pub nodes_above : 2 * h.f < h.n
  nodes_above = (good_sizes s h form).1

  -- what the run is given
  pub given : Given h.n h.f (is_faulty s) (λ i. tray_of (entries_of_tray s i)) (λ r j i. message_for s r j i) []
  given = record {
    nodes = nodes_sized;
    above = nodes_above;
    trays = λ i ci. of_is_sound (entries_of_tray s i) (tray_batch s i);
    entries = λ i ci. subst AreEntries (sym (of_entries (entries_of_tray s i))) (tray_entries s i);
    messages = λ i j r ci fj b. message_bytes_lem s r j i;
  }

  pub goes_on : (i : ℕ) → Correct hall i → Unhindered hall i
  goes_on = unhindered h.n h.f (is_faulty s) (λ i. tray_of (entries_of_tray s i)) (λ r j i. message_for s r j i) [] given

  is_correct : (i : ℕ) → i < h.n → is_faulty s i ≡ false → correct hall i ≡ true
  is_correct i l e = simp (lt-ltb i h.n l, e)

  sends_short : (i k : ℕ) → i < h.n → length (sends hall i k) ≤ message_most
  sends_short i k l =
      outbox_short h.n h.f i (hall.tray i) (hall.inbox i) (hall.room i) (majority h.n h.f i nodes_sized nodes_above ∙ lt-ltb i h.n l) k

  module _ (here : Standing) (stands : here ≡ standing hall here.next) where
    -- a faulty node's bit
    bit_is : (j : ℕ) → j < nodes_most → eqb (bit h.faulty j) 1 ≡ is_faulty s j
    bit_is j l = ap (λ (m : ℕ). eqb (bit m j) 1) (mask_is s h (held s h form).read) ∙ mask_tells (is_faulty s) nodes_most j l

    -- ---- the inbox

    module _ (i q : ℕ) (round : here.next ≡ suc q) where
      -- a schedule's message is short, so it arrives
      arrives : (j : ℕ) → message_for s (suc q) j i ≡ arriving (message_for s (suc q) j i)
      arrives j = sym (arrives_whole (message_for s (suc q) j i) (omega (arith, message_size s h (suc q) j i form)))

      -- the message of node j, as the run carries it
      abbrev comes : ℕ → List ℕ
      comes j = message h.n (is_faulty s) (λ r k to. message_for s r k to) (suc q) i (λ k. sends hall k (suc q)) j

      same_message : (j : ℕ) → j < h.n → message_to s h.faulty here.next i j (outbox_at here.outboxes j) ≡ comes j
      same_message j l = go (is_faulty s j) refl
        where
          most : j < nodes_most
          most = omega (arith, nodes_most_lem, l)

          go : (b : Bool) → is_faulty s j ≡ b → message_to s h.faulty here.next i j (outbox_at here.outboxes j) ≡ comes j
          go true e =
              let m : given_in (message_for s here.next j i) ≡ message_for s here.next j i = simp (le-leb _ message_most (message_size s h here.next j i form)) in
              ap₂ (λ (b : Bool) (x : List ℕ). cond (eqb j i) [] (cond b x (sent_in (outbox_at here.outboxes j)))) (bit_is j most ∙ e) m ∙ rw (e, round) (ap (λ (x : List ℕ). cond (eqb j i) [] x) (arrives j))
          go false e =
              let o : outbox_at here.outboxes j ≡ outbox_of (sends hall j (suc q)) =
              outbox_there hall here (suc q) (stands ∙ ap (standing hall) round) j most ∙ ap
              (λ (b : Bool). (cond b (stood_of (node_before hall j (suc q)) (sends hall j (suc q))) (stood_of nobody [])).outbox) (is_correct j l e) in
              let m : sent_in (outbox_at here.outboxes j) ≡ sends hall j (suc q) = ap sent_in o ∙ sent_back (sends hall j (suc q)) (sends_short j (suc q) l) in
              ap (λ (b : Bool). cond (eqb j i) [] (cond b (given_in (message_for s here.next j i)) (sent_in (outbox_at here.outboxes j)))) (bit_is j most ∙ e)
              ∙ ap (λ (x : List ℕ). cond (eqb j i) [] x) m
              ∙ sym (ap (λ (b : Bool). cond (eqb j i) [] (cond b (arriving (message_for s (suc q) j i)) (sends hall j (suc q)))) e)

      pub inbox_here : inbox_to s h.n h.faulty here.next i here.outboxes ≡ hall.inbox i (suc q)
      inbox_here =
          ap inbox_bytes (gather_same _ _ h.n (λ j l. ap (λ (m : List ℕ). m ∷ []) (same_message j l)))
          ∙ sym (inbox_is h.n h.f (is_faulty s) (λ j. tray_of (entries_of_tray s j)) (λ r j k. message_for s r j k) [] i q)

    -- ---- node i after the round that is next

    module _ (i : ℕ) (node : i < nodes_most) where
      abbrev after_it : Stood
      after_it = stood_at hall (here.next + 1) i

      pub beyond_all : (x : Stood) → h.n ≤ i → x ≡ stood_of nobody [] → x ≡ after_it
      beyond_all x l e = e ∙ sym (simp (le-ltb i h.n l))

      module _ (t : Bool) (b : t ≡ eqb (bit h.faulty i) 1) where
        pub is_faulty_lem : (x : Stood) → i < h.n → t ≡ true → x ≡ stood_of nobody [] → x ≡ after_it
        is_faulty_lem x l q e = e ∙ sym (simp (lt-ltb i h.n l, sym (b ∙ bit_is i node) ∙ q))

        module _ (l : i < h.n) (clear : t ≡ false) where
          fine : is_faulty s i ≡ false
          fine = sym (b ∙ bit_is i node) ∙ clear

          stood_next : (q : ℕ) → here.next ≡ q → after_it ≡ stood_of (node_after hall i q) (sends hall i (suc q))
          unfolding node_before
          stood_next q e =
              let k : here.next + 1 ≡ suc q = ap (λ (x : ℕ). x + 1) e ∙ add-one q in
              ap (λ (x : ℕ). stood_at hall x i) k ∙ simp (is_correct i l fine)

          pub opens : (x : Stood) → here.next ≡ 0 → x ≡ stood_of (node_after hall i 0) (sends hall i 1) → x ≡ after_it
          opens x z e = e ∙ sym (stood_next 0 z)

          pub steps : (x : Stood) → here.next ≢ 0 → x ≡ stepped_to (node_at here.nodes i) (inbox_to s h.n h.faulty here.next i here.outboxes) → x ≡ after_it
          unfolding after outbox node_before
          steps x z e = go here.next refl
            where
              go : (q : ℕ) → here.next ≡ q → x ≡ after_it
              go zero k = absurd (z k)
              go (suc q) k =
                  let same : node_at here.nodes i ≡ node_after hall i q =
                  node_there hall here (suc q) (stands ∙ ap (standing hall) k) i node ∙ ap
                  (λ (t : Bool). (cond t (stood_of (node_before hall i (suc q)) (sends hall i (suc q))) (stood_of nobody [])).node) (is_correct i l fine) in
                  e ∙ ap₂ stepped_to same (inbox_here i q k) ∙ sym (stood_next (suc q) k)
