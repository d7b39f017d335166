-- A run that is carried whole keeps what demand 3 grants, where what the faulty nodes send is bytes and keeps the rule on shown votes: each inbox is put together
-- from messages that fit their two length bytes, so it is well cut and gives each message back.
use Prim.Native.Nat.{ℕ, zero, suc, ◌*◌, ◌^◌, ◌≤◌, ◌<◌}
use mathlib.Core.Path.{◌≡◌, refl, sym, ap, subst, ◌∙◌}
use mathlib.Core.Logic.{◌≢◌, ⊎_elim}
use mathlib.Core.Bool.{Bool, true, false, cond}
use mathlib.Core.List.{List, [], ◌∷◌}
use native.Mathlib.Nat.{le_refl}
use native.Mathlib.Omega.{arith}
use borrow.Author.Tests.{lt-leb, leb-true, leb-false, lt-ltb, ne_eqb}
use lib.Dec.{eqb, leb, lit<}
use lib.ListN.{length}
use Rattle.laws.specs.Masks.{count}
use Rattle.laws.specs.Members.{In}
use Rattle.node.proofs.Sound.{sound_sizes}
use Rattle.laws.proofs.Tests.{clash}
use Rattle.rules.specs.Sizes.{sized, sizes, fits, is_log}
use Rattle.rules.specs.Step.{gather}
use Rattle.rules.proofs.Inbox.{gather_of, gather_same}
use Rattle.rules.proofs.Gathered.{each_length, each_at}
use Rattle.rules.proofs.Sizes.{majority}
use Rattle.entries.specs.Bytes.{AreBytes, AreEntries}
use Rattle.wire.specs.Sizes.{length_size}
use Rattle.wire.specs.Message.{votes_after, votes_of}
use Rattle.wire.specs.Inbox.{message_of, well_cut, inbox_bytes}
use Rattle.roundtrip.specs.Inboxes.{Fit}
use Rattle.roundtrip.proofs.Inboxes.{inboxes, inbox_bytes_lem}
use Rattle.tray.specs.Trays.{entries_of, sound_tray}
use Rattle.tray.specs.declared.Tray.{Tray}
use Rattle.node.specs.State.{fresh}
use Rattle.node.proofs.StaySound.{opening_size}
use Rattle.step.specs.Course.{outbox}
use Rattle.step.proofs.Courses.{course_sound, outbox_short, outbox_bytes, outbox_same}
use Rattle.step.proofs.PassedVotes.{within_message}
use Rattle.agreement.specs.Hall.{Hall, node_after, sends}
use Rattle.agreement.specs.Granted.{Round, Correct, Faulty, Room, Granted}
use Rattle.agreement.specs.Rule.{breaks_rule}
use Rattle.agreement.specs.Carried.{too_long, arriving, message, carried, roomy, handed, carried_hall}
use Rattle.agreement.proofs.Follows.{Unhindered}
use Rattle.agreement.proofs.Shown.{rule_kept}

-- a message is bytes, and not too long for its two length bytes
record Fine (m : List ℕ) : Type 0 where
  pub short : length m < 2 ^ (8 * length_size)
  pub bytes : AreBytes m

-- silence is, and shows nothing
silence_fine : Fine []
silence_fine = record { short = omega arith; bytes = λ k. lit< tt }

pub silence_keeps : (hall : Hall) (r : ℕ) → breaks_rule hall r [] ≡ false
unfolding breaks_rule votes_of votes_after
silence_keeps hall r = refl

-- what arrives of any bytes is fine, and shows what was given or nothing; a short message arrives as it was given
arriving_fine : (m : List ℕ) → AreBytes m → Fine (arriving m)
arriving_fine m bytes = go (too_long m) refl
  where
    go : (b : Bool) → too_long m ≡ b → Fine (cond b [] m)
    go true e = silence_fine
    go false e = record { short = omega (arith, leb-false); bytes = bytes }

arriving_keeps : (hall : Hall) (r : ℕ) (m : List ℕ) → breaks_rule hall r m ≡ false → breaks_rule hall r (arriving m) ≡ false
arriving_keeps hall r m h = go (too_long m)
  where
    go : (b : Bool) → breaks_rule hall r (cond b [] m) ≡ false
    go true = silence_keeps hall r
    go false = h

pub arrives_whole : (m : List ℕ) → length m < 2 ^ (8 * length_size) → arriving m ≡ m
arrives_whole m l = simp (lt-leb (2 ^ (8 * length_size)) (length m) l)

module _ (n f : ℕ) (faulty : ℕ → Bool) (tray : ℕ → Tray) (given : ℕ → ℕ → ℕ → List ℕ) (old : List ℕ) where
  abbrev hall : Hall
  hall = carried_hall n f faulty tray given old

  abbrev played : (r i q : ℕ) → List ℕ
  played r i q = handed n faulty given f tray r i q

  -- ---- the inboxes

  -- what was handed in a round stays
  played_stays : (r i q : ℕ) → q ≤ r → played r i q ≡ played q i q
  unfolding handed
  played_stays zero i q l = let e : q ≡ 0 = omega arith in ap (λ (k : ℕ). played k i q) (sym e)
  played_stays (suc r) i q l = go (leb q r) refl (played_stays r i q)
    where
      go : (b : Bool) → leb q r ≡ b → (q ≤ r → played r i q ≡ played q i q) → played (suc r) i q ≡ played q i q
      go true e before = rw e (before (leb-true q r e))
      go false e before = let k : suc r ≡ q = omega (arith, leb-false q r e) in ap (λ (x : ℕ). played x i q) k

  -- the message of node j to node i in round r
  abbrev pub message_to : (i r j : ℕ) → List ℕ
  message_to i r j = message n faulty given r i (λ (k : ℕ). sends hall k r) j

  -- an inbox is put together from what the nodes send in its round
  pub inbox_is : (i r : ℕ) → hall.inbox i (suc r) ≡ inbox_bytes (gather (λ (j : ℕ). message_to i (suc r) j ∷ []) n)
  unfolding handed
  inbox_is i r =
      ap (λ (b : Bool). cond b (played r i (suc r)) (carried n faulty given (suc r) i (λ (j : ℕ). outbox n f j (tray j) (played r j) roomy (suc r))))
      (lt-leb (suc r) r (le_refl (suc r)))
      ∙ ap inbox_bytes (gather_same _ _ n (λ j l. ap (λ (m : List ℕ). cond (eqb j i) [] (cond (faulty j) (arriving (given (suc r) j i)) m) ∷ []) (sent_same j)))
    where
      sent_same : (j : ℕ) → outbox n f j (tray j) (played r j) roomy (suc r) ≡ sends hall j (suc r)
      sent_same j = outbox_same n f j (tray j) (played r j) (λ q. played q j q) roomy r (played_stays r j)

  -- ---- what the hall is given

  pub record Given : Type 0 where
    pub nodes : sized n ≡ true
    pub above : 2 * f < n
    pub trays : (i : ℕ) → Correct hall i → sound_tray (tray i) ≡ true
    pub entries : (i : ℕ) → Correct hall i → AreEntries (entries_of (tray i))
    pub messages : (i j r : ℕ) → Correct hall i → Faulty hall j → Round hall r → AreBytes (given r j i)

  module _ (H : Given) where
    sizes_hold : (i : ℕ) → i < n → sizes n f i ≡ true
    sizes_hold i l = majority n f i H.nodes H.above ∙ lt-ltb i n l

    message_fine : (i j r : ℕ) → Correct hall i → j < n → Round hall r → Fine (message_to i r j)
    message_fine i j r ci l b = go (eqb j i) refl (faulty j) refl
      where
        go : (own : Bool) → eqb j i ≡ own → (lies : Bool) → faulty j ≡ lies → Fine (message_to i r j)
        go true e lies q = rw e silence_fine
        go false e true q = rw (e, q) (arriving_fine (given r j i) (H.messages i j r ci (record { node = l; lies = q }) b))
        go false e false q =
            let s = outbox_short n f j (tray j) (hall.inbox j) roomy (sizes_hold j l) r in
            rw (e, q) (record { short = omega arith; bytes = outbox_bytes n f j (tray j) (hall.inbox j) roomy (sizes_hold j l) r })

    module _ (i r : ℕ) (ci : Correct hall i) (b : Round hall (suc r)) where
      abbrev all : List (List ℕ)
      all = gather (λ (j : ℕ). message_to i (suc r) j ∷ []) n

      all_fine : (m : List ℕ) → In m all → Fine m
      all_fine m k =
          let t = gather_of (λ (j : ℕ). message_to i (suc r) j ∷ []) n m k in
          ⊎_elim (λ e. subst Fine (sym e) (message_fine i t.0 (suc r) ci t.1 b)) (λ z. absurd z) t.2

      fit : Fit n all
      fit = record { many = each_length (message_to i (suc r)) n; short = λ m k. (all_fine m k).short }

      well_cut_lem : well_cut n (hall.inbox i (suc r)) ≡ true
      well_cut_lem = ap (well_cut n) (inbox_is i r) ∙ (inboxes n).cut_back all fit

      in_bytes : AreBytes (hall.inbox i (suc r))
      in_bytes = subst AreBytes (sym (inbox_is i r)) (inbox_bytes_lem all (λ m k. (all_fine m k).bytes))

      -- each message is the one that was sent
      message_is : (j : ℕ) → j < n → message_of (hall.inbox i (suc r)) j ≡ message_to i (suc r) j
      message_is j l = ap (λ (s : List ℕ). message_of s j) (inbox_is i r) ∙ (inboxes n).same_message all fit j l ∙ each_at (message_to i (suc r)) [] n j l

    -- ---- room enough

    enough_room : (i : ℕ) → Correct hall i → Room hall i
    unfolding fits
    enough_room i ci = record {
      opens = omega (arith, opening_size (fresh n f i) (tray i) (H.trays i ci));
      steps = λ r b.
          let t = sound_sizes (node_after hall i r) (course_sound n f i (tray i) (hall.inbox i) roomy (sizes_hold i ci.node) r) in
          within_message (node_after hall i r) (hall.inbox i (suc r)) t.node t.most;
      closing = λ e. leb-true _ _ e;
    }

    -- nothing hinders a correct node, whatever the faulty ones show
    pub unhindered : (i : ℕ) → Correct hall i → Unhindered hall i
    unhindered i ci = record {
      numbers = sizes_hold i ci.node;
      tray = H.trays i ci;
      entries = H.entries i ci;
      room = enough_room i ci;
      cut = cut;
      bytes = bytes;
    }
      where
        cut : (r : ℕ) → Round hall r → well_cut n (hall.inbox i r) ≡ true
        cut zero b = absurd (omega (arith, b.first))
        cut (suc r) b = well_cut_lem i r ci b

        bytes : (r : ℕ) → Round hall r → AreBytes (hall.inbox i r)
        bytes zero b = absurd (omega (arith, b.first))
        bytes (suc r) b = in_bytes i r ci b

    -- ---- what the demand grants

    module _ (few : count faulty n ≤ f) (well_formed : is_log old ≡ true)
        (keeps : (i j r : ℕ) → Correct hall i → Faulty hall j → Round hall r → breaks_rule hall r (given r j i) ≡ false) where
      whole : (i j r : ℕ) → Correct hall i → Correct hall j → i ≢ j → Round hall r → message_of (hall.inbox i r) j ≡ sends hall j r
      whole i j zero ci cj ne b = absurd (omega (arith, b.first))
      whole i j (suc r) ci cj ne b = message_is i r ci b j cj.node ∙ simp (ne_eqb j i (λ e. ne (sym e)), cj.fine)

      from_faulty : (i j r : ℕ) → Correct hall i → Faulty hall j → Round hall r → message_of (hall.inbox i r) j ≡ arriving (given r j i)
      from_faulty i j zero ci fj b = absurd (omega (arith, b.first))
      from_faulty i j (suc r) ci fj b =
          message_is i r ci b j fj.node ∙ simp (ne_eqb j i (λ e. clash fj.lies (ap faulty e ∙ ci.fine)), fj.lies)

      pub carried_granted : Granted hall
      carried_granted = record {
        nodes = H.nodes;
        few = few;
        above = H.above;
        trays = H.trays;
        entries = H.entries;
        well_formed = well_formed;
        room = enough_room;
        cut = λ i r ci b. (unhindered i ci).cut r b;
        bytes = λ i r ci b. (unhindered i ci).bytes r b;
        whole = whole;
        unforged = λ i j r ci fj b votes e.
            rule_kept hall r (arriving (given r j i)) (arriving_keeps hall r (given r j i) (keeps i j r ci fj b)) votes
            (ap (votes_of n) (sym (from_faulty i j r ci fj b)) ∙ e);
      }
