-- The claim fails where two correct nodes make different logs, and where a correct node is told neither done nor 8: so a premise is needed where all the others
-- pass their tests.
use Prim.Native.Nat.{ℕ}
use mathlib.Core.Path.{◌≡◌, sym, subst, ◌∙◌}
use mathlib.Core.Logic.{inl, inr}
use mathlib.Core.Bool.{true, false, ◌||◌}
use mathlib.Core.List.{List}
use native.Mathlib.Omega.{arith}
use borrow.Author.Tests.{eqb-false}
use lib.Dec.{eqb}
use Rattle.laws.specs.Members.{same}
use Rattle.laws.proofs.Tests.{clash, neither}
use Rattle.laws.proofs.Members.{same_self}
use Rattle.rules.specs.Refusals.{done}
use Rattle.agreement.specs.Hall.{Hall, closes, log_of}
use Rattle.agreement.specs.Claim.{Agreed}
use Rattle.runs.specs.Premises.{Premise}
use Rattle.runs.specs.Outcomes.{Needed}
use Rattle.runs.proofs.Deciding.{correct, is_correct, place, all_but, others}

module _ (hall : Hall) where
  -- every premise but p passes its test, node i is correct and makes a log, and correct node j makes another
  pub parted : (p : Premise) (i j : ℕ) → all_but hall (place p).0 ≡ true → correct hall i ≡ true → correct hall j ≡ true
      → closes hall i ≡ done → same (log_of hall i) (log_of hall j) ≡ false → Needed p hall
  parted p i j h ti tj makes differ = record { others = others hall p h; fails = fails }
    where
      fails : Agreed hall → ⊥
      fails (inl (log, one)) =
          let e = one.same i (is_correct hall i ti) ∙ sym (one.same j (is_correct hall j tj)) in
          clash (subst (λ (x : List ℕ). same (log_of hall i) x ≡ true) e (same_self (log_of hall i))) differ
      fails (inr full) = let e = full i (is_correct hall i ti) in omega arith

  -- or its close answers neither a log nor 8
  pub refused : (p : Premise) (i : ℕ) → all_but hall (place p).0 ≡ true → correct hall i ≡ true
      → (eqb (closes hall i) done || eqb (closes hall i) 8) ≡ false → Needed p hall
  refused p i h ti odd = record { others = others hall p h; fails = fails }
    where
      t : (eqb (closes hall i) done ≡ false) × (eqb (closes hall i) 8 ≡ false)
      t = neither (eqb (closes hall i) done) (eqb (closes hall i) 8) odd

      fails : Agreed hall → ⊥
      fails (inl (log, one)) = eqb-false (closes hall i) done t.0 (one.makes i (is_correct hall i ti))
      fails (inr full) = eqb-false (closes hall i) 8 t.1 (full i (is_correct hall i ti))
