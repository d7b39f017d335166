-- A schedule of good form that does not break the rule on shown votes is a run that demand 3 grants: its run is carried whole, and every message of a faulty
-- node is one of its sends, or silence.
use Prim.Native.Nat.{ℕ, ◌+◌, ◌<◌}
use mathlib.Core.Path.{◌≡◌, refl, subst}
use mathlib.Core.Bool.{Bool, true, false, cond}
use mathlib.Core.List.{List, [], ◌∷◌}
use native.Mathlib.Omega.{arith}
use borrow.Author.Tests.{eqb-true}
use lib.Dec.{eqb}
use Rattle.laws.proofs.Tests.{both}
use Rattle.rules.specs.Sizes.{fits, is_log}
use Rattle.tray.specs.Trays.{tray_of}
use Rattle.agreement.specs.Hall.{Hall}
use Rattle.agreement.specs.Granted.{Granted}
use Rattle.agreement.specs.Rule.{breaks_rule}
use Rattle.agreement.proofs.Carried.{silence_keeps, carried_granted}
use Rattle.schedule.specs.Sends.{Send}
use Rattle.schedule.specs.Forms.{form_of}
use Rattle.std.specs.Prelude.{Ok}
use Rattle.header.specs.declared.Header.{Header}
use Rattle.contents.specs.Contents.{send_line, is_faulty, entries_of_tray, sends_of, message_for, message_in, numbered}
use Rattle.contents.proofs.Good.{faulty_count}
use Rattle.standing.specs.Run.{hall_of}
use Rattle.played.specs.Playing.{breach_from, breach}
use Rattle.standing.proofs.Standings.{given}

numbers_are : (r j i q k l : ℕ) → numbered r j i q k l ≡ true → q ≡ r
unfolding numbered
numbers_are r j i q k l h = eqb-true q r (both (eqb q r) _ h).0

-- where no send breaks the rule, no message does
message_keeps : (hall : Hall) (k : ℕ) (xs : List Send) → 0 < k → breach_from hall k xs ≡ 0 → (r j i : ℕ) → breaks_rule hall r (message_in r j i xs) ≡ false
unfolding breach_from message_in
message_keeps hall k [] l h r j i = silence_keeps hall r
message_keeps hall k (x ∷ xs) l h r j i =
    go (breaks_rule hall x.round x.message) refl (numbered r j i x.round x.from x.to) refl
    (λ g. message_keeps hall (k + 1) xs (omega arith) g r j i)
  where
    go : (b : Bool) → breaks_rule hall x.round x.message ≡ b → (t : Bool) → numbered r j i x.round x.from x.to ≡ t
        → (breach_from hall (k + 1) xs ≡ 0 → breaks_rule hall r (message_in r j i xs) ≡ false)
        → breaks_rule hall r (cond (numbered r j i x.round x.from x.to) x.message (message_in r j i xs)) ≡ false
    go true e t q rest = absurd (let z : k ≡ 0 = rw e at h in omega arith)
    go false e true q rest = rw q (subst (λ (y : ℕ). breaks_rule hall y x.message ≡ false) (numbers_are r j i x.round x.from x.to q) e)
    go false e false q rest = rw q (rest (rw e at h))

module _ (s : List ℕ) (h : Header) (good : form_of s ≡ Ok h) where
  empty_log : is_log [] ≡ true
  unfolding is_log fits
  empty_log = refl

  pub run_granted : breach s h.n h.f ≡ 0 → Granted (hall_of s h.n h.f)
  run_granted kept =
      carried_granted h.n h.f (is_faulty s) (λ i. tray_of (entries_of_tray s i)) (λ r j i. message_for s r j i) []
      (given s h good) (faulty_count s h good) empty_log
      (λ i j r ci fj b. message_keeps (hall_of s h.n h.f) (send_line s 0) (sends_of s) (omega arith) kept r j i)
