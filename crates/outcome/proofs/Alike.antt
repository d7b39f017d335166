-- Marks, slots and signers go by the correct nodes' logs: nodes that are faulty alike and, where correct, have the same logs, come to the same.
use Prim.Native.Nat.{ℕ, zero, suc, ◌≤◌, ◌<◌}
use mathlib.Core.Path.{◌≡◌, refl, sym, ap, ap₂, ◌∙◌}
use mathlib.Core.Bool.{Bool, true, false, cond, ◌||◌}
use mathlib.Core.List.{List, [], ◌∷◌, ◌++◌}
use native.Mathlib.Omega.{arith}
use Rattle.laws.specs.Members.{among}
use Rattle.rules.specs.Signers.{Mark}
use Rattle.rules.proofs.Inbox.{gather_same}
use Rattle.outcome.specs.Marks.{place_in, mark_with, distinct, number_at, mark_at}
use Rattle.outcome.specs.Spoken.{slot_with, slots_with}
use Rattle.outcome.specs.Signing.{counted_with, mask_at}

module _ (n : ℕ) (t u : ℕ → Bool) (faulty : (j : ℕ) → j < n → t j ≡ u j) where
  -- what faulty nodes give does not count
  pub by_correct : {A : Type 0} (x : A) (g h : ℕ → A) → ((j : ℕ) → j < n → t j ≡ false → g j ≡ h j) → (j : ℕ) → j < n → cond (t j) x (g j) ≡ cond (u j) x (h j)
  by_correct x g h e j l = ap (λ (b : Bool). cond b x (g j)) (faulty j l) ∙ go (u j) refl
    where
      go : (b : Bool) → u j ≡ b → cond b x (g j) ≡ cond b x (h j)
      go true p = refl
      go false p = e j l (faulty j l ∙ p)

  pub slots_same : (mark other : ℕ → Mark) → ((j : ℕ) → j < n → t j ≡ false → mark j ≡ other j) → slots_with t mark n ≡ slots_with u other n
  unfolding slot_with
  slots_same mark other e =
      gather_same (λ (j : ℕ). slot_with (t j) (mark j)) (λ (j : ℕ). slot_with (u j) (other j)) n
      (by_correct _ (λ j. 1 ∷ mark j) (λ j. 1 ∷ other j) (λ j l f. ap (λ (m : Mark). 1 ∷ m) (e j l f)))

  module _ (log log' : ℕ → List ℕ) (logs : (j : ℕ) → j < n → t j ≡ false → log j ≡ log' j) where
    distinct_same : (i : ℕ) → i ≤ n → distinct t log i ≡ distinct u log' i
    unfolding distinct
    distinct_same zero l = refl
    distinct_same (suc i) l = go (t i) refl (sym (faulty i l)) (distinct_same i (omega arith))
      where
        go : (b : Bool) → t i ≡ b → u i ≡ t i → distinct t log i ≡ distinct u log' i
            → cond (t i || among (log i) (distinct t log i)) (distinct t log i) (distinct t log i ++ (log i ∷ []))
            ≡ cond (u i || among (log' i) (distinct u log' i)) (distinct u log' i) (distinct u log' i ++ (log' i ∷ []))
        go true p q h = simp (p, q ∙ p) h
        go false p q h = simp (p, q ∙ p) (ap₂ (λ (k : List ℕ) (d : List (List ℕ)). cond (among k d) d (d ++ (k ∷ []))) (logs i l p) h)

    pub number_same : (j : ℕ) → j < n → t j ≡ false → number_at t log n j ≡ number_at u log' n j
    number_same j l f = ap₂ place_in (logs j l f) (distinct_same n (omega arith))

    pub mark_same : (j : ℕ) → j < n → t j ≡ false → mark_at t log n j ≡ mark_at u log' n j
    mark_same j l f = ap mark_with (number_same j l f)

    pub masks_same : (f j : ℕ) → j < n → t j ≡ false → mask_at n f t log j ≡ mask_at n f u log' j
    masks_same f j l e = ap₂ (counted_with n f j) (mark_same j l e) (slots_same (mark_at t log n) (mark_at u log' n) mark_same)
