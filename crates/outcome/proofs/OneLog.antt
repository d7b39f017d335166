-- Where all correct nodes have the same log, its number is 0, every correct node speaks with its mark, and the signers are exactly the correct nodes.
use Prim.Native.Nat.{ℕ, zero, suc, ◌+◌, ◌*◌, ◌^◌, ◌≤◌, ◌<◌}
use mathlib.Core.Path.{◌≡◌, refl, sym, ap, ap₂, ◌∙◌}
use mathlib.Core.Logic.{◌⊎◌, ⊎_elim, inl, inr}
use mathlib.Core.Bool.{Bool, true, false, not, cond, ◌||◌}
use mathlib.Core.List.{List, [], ◌∷◌, ◌++◌}
use mathlib.Core.Option.{none, some}
use native.Mathlib.Omega.{arith}
use borrow.Author.Tests.{eq-eqb, le-leb, eqb-true}
use lib.Count.{ones}
use lib.Dec.{eqb}
use lib.ListN.{length}
use Rattle.laws.specs.Masks.{as_bit, count, mask_of}
use Rattle.laws.specs.Members.{same, among}
use Rattle.laws.proofs.Count.{count_not, mask_ones}
use Rattle.laws.proofs.Members.{same_self}
use Rattle.laws.proofs.Tests.{clash}
use Rattle.rules.specs.Sizes.{sizes}
use Rattle.rules.specs.Refusals.{done}
use Rattle.rules.specs.Signers.{Mark, Slot, speaks, signer, signers_of, enough}
use Rattle.signing.specs.Slots.{slot_size, slot_in, slot_of}
use Rattle.signing.specs.Count.{signers_number}
use Rattle.outcome.specs.Marks.{place_in, mark_with, distinct, number_at, mark_at}
use Rattle.outcome.specs.Spoken.{slot_with, slots_at}
use Rattle.outcome.specs.Signing.{mask_at}
use Rattle.outcome.proofs.Speaking.{mark_size_lem, slots_size, slot_at}

-- ---- masks

mask_same : (t u : ℕ → Bool) (n : ℕ) → ((j : ℕ) → j < n → t j ≡ u j) → mask_of t n ≡ mask_of u n
unfolding mask_of
mask_same t u zero e = refl
mask_same t u (suc n) e = ap₂ (λ (b : Bool) (m : ℕ). as_bit b * 2 ^ n + m) (e n (omega arith)) (mask_same t u n (λ j l. e j (omega arith)))

-- ---- slots

-- a slot as it was laid down: silence, or the mark
slot_says : (faulty : Bool) (number : ℕ) → slot_in (slot_with faulty (mark_with number)) ≡ cond faulty none (some (mark_with number))
unfolding slot_in slot_with
slot_says true number = refl
slot_says false number = refl

module _ (n : ℕ) (t : ℕ → Bool) (log : ℕ → List ℕ) where
  pub spoken_at : (j : ℕ) → j < n → slot_of (slots_at t log n) j ≡ cond (t j) none (some (mark_at t log n j))
  spoken_at j l = ap slot_in (slot_at t (mark_at t log n) (λ k. mark_size_lem (number_at t log n k)) n j l) ∙ slot_says (t j) (number_at t log n j)

  -- ---- one log

  module _ (one : List ℕ) (all : (j : ℕ) → j < n → t j ≡ false → log j ≡ one) where
    one_distinct : (i : ℕ) → i ≤ n → (distinct t log i ≡ []) ⊎ (distinct t log i ≡ one ∷ [])
    unfolding distinct
    one_distinct zero l = inl refl
    one_distinct (suc i) l = go (t i) refl (one_distinct i (omega arith))
      where
        next : List (List ℕ)
        next = cond (t i || among (log i) (distinct t log i)) (distinct t log i) (distinct t log i ++ (log i ∷ []))

        go : (b : Bool) → t i ≡ b → (distinct t log i ≡ []) ⊎ (distinct t log i ≡ one ∷ []) → (next ≡ []) ⊎ (next ≡ one ∷ [])
        go true p (inl h) = inl (simp p h)
        go true p (inr h) = inr (simp p h)
        go false p (inl h) = inr (simp p (ap (λ (d : List (List ℕ)). cond (among (log i) d) d (d ++ (log i ∷ []))) h ∙ ap (λ (k : List ℕ). k ∷ []) (all i l p)))
        go false p (inr h) =
            inr (simp p (ap₂ (λ (k : List ℕ) (d : List (List ℕ)). cond (among k d) d (d ++ (k ∷ []))) (all i l p) h ∙ simp (same_self one)))

    -- every number is 0, every mark the same
    pub one_number : (j : ℕ) → j < n → t j ≡ false → number_at t log n j ≡ 0
    unfolding place_in
    one_number j l f = ap (λ (k : List ℕ). place_in k (distinct t log n)) (all j l f) ∙ ⊎_elim (λ h. ap (place_in one) h)
        (λ h. ap (place_in one) h ∙ simp (same_self one)) (one_distinct n (omega arith))

    pub one_mark : (j : ℕ) → j < n → t j ≡ false → mark_at t log n j ≡ mark_with 0
    one_mark j l f = ap mark_with (one_number j l f)

    -- a correct node counts exactly the correct nodes
    module _ (i : ℕ) (l : i < n) (f : t i ≡ false) where
      pub one_signer : (j : ℕ) → j < n → signer i (mark_at t log n i) (slot_of (slots_at t log n)) j ≡ not (t j)
      unfolding signer
      one_signer j m = ap (λ (s : Slot). eqb j i || speaks (mark_at t log n i) s) (spoken_at j m) ∙ go (t j) refl (eqb j i) refl
        where
          go : (b : Bool) → t j ≡ b → (q : Bool) → eqb j i ≡ q → (q || speaks (mark_at t log n i) (cond b none (some (mark_at t log n j)))) ≡ not b
          go true p true q = absurd (clash p (ap t (eqb-true j i q) ∙ f))
          go true p false q = refl
          go false p true q = refl
          go false p false q = ap (λ (k : Mark). same k (mark_at t log n i)) (one_mark j m p ∙ sym (one_mark i l f)) ∙ same_self (mark_at t log n i)

      pub one_mask : signers_of n i (mark_at t log n i) (slot_of (slots_at t log n)) ≡ mask_of (λ (j : ℕ). not (t j)) n
      unfolding signers_of
      one_mask = mask_same (signer i (mark_at t log n i) (slot_of (slots_at t log n))) (λ (j : ℕ). not (t j)) n one_signer

      module _ (faults : ℕ) (sized : sizes n faults i ≡ true) (many : faults + 1 ≤ count (λ (j : ℕ). not (t j)) n) where
        -- it is not refused
        pub one_count : signers_number n faults i (mark_at t log n i) (slots_at t log n) ≡ done
        unfolding signers_number enough
        one_count =
            let cut : eqb_length ≡ true = eq-eqb _ _ (slots_size t (mark_at t log n) (λ k. mark_size_lem (number_at t log n k)) n) in
            let more : faults + 1 ≤ ones (signers_of n i (mark_at t log n i) (slot_of (slots_at t log n))) = omega (arith, ap ones one_mask, mask_ones (λ (j : ℕ). not (t j)) n) in
            simp (sized, cut, le-leb _ _ more)
          where
            eqb_length : Bool
            eqb_length = eqb (length (slots_at t log n)) (slot_size * n)

        -- and answers the mask of exactly the correct nodes
        pub one_counted : mask_at n faults t log i ≡ mask_of (λ (j : ℕ). not (t j)) n
        one_counted = simp one_count one_mask

-- with f faulty nodes at most, and 2f < n, they are f + 1 or more
pub many_correct : (n f : ℕ) (t : ℕ → Bool) → count t n ≤ f → 2 * f < n → f + 1 ≤ count (λ (j : ℕ). not (t j)) n
many_correct n f t few above = omega (arith, count_not t n)
