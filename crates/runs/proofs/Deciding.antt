-- Each premise of a run can be tested: it asks something of each correct node, or of each pair of nodes, in each round, and there are finitely many. So a run keeps
-- its premises by computing.
use Prim.Native.Nat.{ℕ, zero, suc, ◌+◌, ◌*◌, ◌^◌, ◌<◌}
use mathlib.Core.Path.{◌≡◌, refl, sym, ap, subst, ◌∙◌}
use mathlib.Core.Logic.{◌≢◌}
use mathlib.Core.Bool.{Bool, true, false, not, ◌&&◌, ◌||◌}
use mathlib.Core.List.{List, [], ◌∷◌}
use native.Mathlib.Omega.{arith}
use borrow.Author.Tests.{leb-true, leb-false, ltb-true, ne_eqb, not-true}
use lib.Dec.{eqb, ltb, leb}
use lib.ListN.{length, get_or}
use Rattle.laws.specs.Masks.{count, every}
use Rattle.laws.specs.Members.{any, same}
use Rattle.laws.proofs.Tests.{both, neither, other}
use Rattle.laws.proofs.Every.{every_each}
use Rattle.laws.proofs.Members.{same_eq}
use Rattle.rules.specs.Sizes.{sized, fits, is_log}
use Rattle.rules.specs.Vote.{opened}
use Rattle.wire.specs.Record.{record_bytes}
use Rattle.wire.specs.Message.{message_bytes}
use Rattle.wire.specs.Inbox.{message_of, well_cut}
use Rattle.tray.specs.Trays.{entries_of, sound_tray}
use Rattle.step.specs.Step.{passed_by}
use Rattle.agreement.specs.Hall.{Hall, node_after, sends, log_of}
use Rattle.agreement.specs.Granted.{Round, Correct, Granted}
use Rattle.agreement.specs.Rule.{breaks_rule}
use Rattle.agreement.proofs.Shown.{rule_kept}
use Rattle.runs.specs.Premises.{Premise, nodes, few, above, trays, entries, well_formed, opening_room, step_room, closing_room, cut, bytes, whole, unforged, Holds}

-- none reaches m
abbrev below : ℕ → List ℕ → Bool
below m xs = not (any (λ x. leb m x) xs)

below_at : (m : ℕ) (xs : List ℕ) → 0 < m → any (λ x. leb m x) xs ≡ false → (i : ℕ) → get_or xs i 0 < m
below_at m [] z h i = z
below_at m (x ∷ xs) z h zero = leb-false m x (neither (leb m x) (any (λ y. leb m y) xs) h).0
below_at m (x ∷ xs) z h (suc i) = below_at m xs z (neither (leb m x) (any (λ y. leb m y) xs) h).1 i

-- the premises in order, and the place of each
abbrev premises : List Premise
premises = nodes ∷ few ∷ above ∷ trays ∷ entries ∷ well_formed ∷ opening_room ∷ step_room ∷ closing_room ∷ cut ∷ bytes ∷ whole ∷ unforged ∷ []

abbrev pub place : (p : Premise) → (k : ℕ) × (k < length premises) × (get_or premises k nodes ≡ p)
place nodes = (0, omega arith, refl)
place few = (1, omega arith, refl)
place above = (2, omega arith, refl)
place trays = (3, omega arith, refl)
place entries = (4, omega arith, refl)
place well_formed = (5, omega arith, refl)
place opening_room = (6, omega arith, refl)
place step_room = (7, omega arith, refl)
place closing_room = (8, omega arith, refl)
place cut = (9, omega arith, refl)
place bytes = (10, omega arith, refl)
place whole = (11, omega arith, refl)
place unforged = (12, omega arith, refl)

module _ (hall : Hall) where
  -- ---- the tests

  abbrev pub correct : ℕ → Bool
  correct i = ltb i hall.n && not (hall.faulty i)

  pub is_correct : (i : ℕ) → correct i ≡ true → Correct hall i
  is_correct i h = let t = both (ltb i hall.n) (not (hall.faulty i)) h in record { node = ltb-true i hall.n t.0; fine = not-true _ t.1 }

  abbrev pub each_correct : (ℕ → Bool) → Bool
  each_correct t = every (λ i. hall.faulty i || t i) hall.n

  abbrev each_round : (ℕ → Bool) → Bool
  each_round t = every (λ r. t (suc r)) (hall.f + 1)

  -- of node i in round r, and of what it is handed from node j
  abbrev cut_at : (i r : ℕ) → Bool
  cut_at i r = well_cut hall.n (hall.inbox i r)

  abbrev bytes_at : (i r : ℕ) → Bool
  bytes_at i r = below (2 ^ 8) (hall.inbox i r)

  abbrev whole_at : (i j r : ℕ) → Bool
  whole_at i j r = same (message_of (hall.inbox i r) j) (sends hall j r)

  abbrev keeps_rule : (i j r : ℕ) → Bool
  keeps_rule i j r = not (breaks_rule hall r (message_of (hall.inbox i r) j))

  abbrev tested : Premise → Bool
  tested nodes = sized hall.n
  tested few = leb (count hall.faulty hall.n) hall.f
  tested above = ltb (2 * hall.f) hall.n
  tested trays = each_correct (λ i. sound_tray (hall.tray i))
  tested entries = each_correct (λ i. below (2 ^ 64) (entries_of (hall.tray i)))
  tested well_formed = is_log hall.old
  tested opening_room = each_correct (λ i. leb (length (record_bytes (opened i (entries_of (hall.tray i))))) (hall.room i 1))
  tested step_room =
      each_correct (λ i. every (λ r. leb (length (message_bytes (passed_by (node_after hall i r) (hall.inbox i (suc r))))) (hall.room i (suc (suc r)))) (hall.f + 1))
  tested closing_room = each_correct (λ i. not (fits (log_of hall i)) || leb (length (log_of hall i)) (hall.output i))
  tested cut = each_correct (λ i. each_round (cut_at i))
  tested bytes = each_correct (λ i. each_round (bytes_at i))
  tested whole = each_correct (λ i. each_correct (λ j. eqb i j || each_round (whole_at i j)))
  tested unforged = each_correct (λ i. every (λ j. not (hall.faulty j) || each_round (keeps_rule i j)) hall.n)

  -- ---- what they tell

  pub at_correct : (t : ℕ → Bool) → each_correct t ≡ true → (i : ℕ) → Correct hall i → t i ≡ true
  at_correct t h i ci = other (hall.faulty i) (t i) (every_each (λ j. hall.faulty j || t j) hall.n h i ci.node) ci.fine

  at_round : (t : ℕ → Bool) → each_round t ≡ true → (r : ℕ) → Round hall r → t r ≡ true
  at_round t h zero b = absurd (omega (arith, b.first))
  at_round t h (suc r) b = every_each (λ q. t (suc q)) (hall.f + 1) h r b.last

  told : (p : Premise) → tested p ≡ true → Holds hall p
  told nodes h = h
  told few h = leb-true _ _ h
  told above h = ltb-true _ _ h
  told trays h = at_correct _ h
  told entries h = λ i ci. below_at (2 ^ 64) (entries_of (hall.tray i)) (omega arith) (not-true _ (at_correct _ h i ci))
  told well_formed h = h
  told opening_room h = λ i ci. leb-true _ _ (at_correct _ h i ci)
  told step_room h = λ i ci r b. leb-true _ _ (every_each _ (hall.f + 1) (at_correct _ h i ci) r b.last)
  told closing_room h = λ i ci e. leb-true _ _ (other _ _ (at_correct _ h i ci) (ap not e))
  told cut h = λ i r ci b. at_round (cut_at i) (at_correct _ h i ci) r b
  told bytes h = λ i r ci b. below_at (2 ^ 8) (hall.inbox i r) (omega arith) (not-true _ (at_round (bytes_at i) (at_correct _ h i ci) r b))
  told whole h = λ i j r ci cj ne b.
      same_eq (message_of (hall.inbox i r) j) (sends hall j r) (at_round (whole_at i j) (other _ _ (at_correct _ (at_correct _ h i ci) j cj) (ne_eqb i j ne)) r b)
  told unforged h = λ i j r ci fj b.
      let t = other _ _ (every_each _ hall.n (at_correct _ h i ci) j fj.node) (ap not fj.lies) in
      rule_kept hall r (message_of (hall.inbox i r) j) (not-true _ (at_round (keeps_rule i j) t r b))

  -- ---- all of them but one

  -- all pass, but perhaps the one at this place
  abbrev pub all_but : ℕ → Bool
  all_but k = every (λ j. eqb j k || tested (get_or premises j nodes)) (length premises)

  all_but_lem : (k : ℕ) → all_but k ≡ true → (q : Premise) → (place q).0 ≢ k → Holds hall q
  all_but_lem k h q ne =
      let t = place q in
      told q (subst (λ (x : Premise). tested x ≡ true) t.2 (other _ _ (every_each _ (length premises) h t.0 t.1) (ne_eqb t.0 k ne)))

  pub others : (p : Premise) → all_but (place p).0 ≡ true → (q : Premise) → q ≢ p → Holds hall q
  others p h q ne = all_but_lem (place p).0 h q (λ e. ne (sym (place q).2 ∙ ap (λ (k : ℕ). get_or premises k nodes) e ∙ (place p).2))

  pub tested_granted : all_but (length premises) ≡ true → Granted hall
  tested_granted h = record {
    nodes = all_but_lem _ h nodes (λ e. omega arith);
    few = all_but_lem _ h few (λ e. omega arith);
    above = all_but_lem _ h above (λ e. omega arith);
    trays = all_but_lem _ h trays (λ e. omega arith);
    entries = all_but_lem _ h entries (λ e. omega arith);
    well_formed = all_but_lem _ h well_formed (λ e. omega arith);
    room = λ i ci. record {
      opens = all_but_lem _ h opening_room (λ e. omega arith) i ci;
      steps = all_but_lem _ h step_room (λ e. omega arith) i ci;
      closing = all_but_lem _ h closing_room (λ e. omega arith) i ci;
    };
    cut = all_but_lem _ h cut (λ e. omega arith);
    bytes = all_but_lem _ h bytes (λ e. omega arith);
    whole = all_but_lem _ h whole (λ e. omega arith);
    unforged = all_but_lem _ h unforged (λ e. omega arith);
  }
