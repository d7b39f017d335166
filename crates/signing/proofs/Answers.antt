-- Each answer of a signing count, by the row that gives it.
use Rattle.std.proofs.Common.{ℕ, ◌≡◌, true, false, List, Ok, Err, sym, ap, ◌∙◌}
use Rattle.rules.specs.Sizes.{sizes}
use Rattle.rules.specs.Signers.{Mark, signers_of, enough}
use Rattle.rules.specs.declared.refusal.Refusal.TheVariants.{Sizes, IllCut, FewSigners}
use Rattle.rules.proofs.Answers.{refuses, answers}
use Rattle.signing.specs.Slots.{are_slots, slot_of}
use Rattle.signing.specs.Count.{signers_number, SignersAre}

module _ (n f me : ℕ) (mark : Mark) (slots : List ℕ) where
  pub no_sizes : sizes n f me ≡ false → SignersAre n f me mark slots (Err Sizes)
  unfolding signers_number
  no_sizes s = refuses (simp s)

  module _ (s : sizes n f me ≡ true) where
    pub no_slots : are_slots n slots ≡ false → SignersAre n f me mark slots (Err IllCut)
    unfolding signers_number
    no_slots e = refuses (simp (s, e))

    module _ (e : are_slots n slots ≡ true) (mask : ℕ) (m : mask ≡ signers_of n me mark (slot_of slots)) where
      pub too_few : enough f mask ≡ false → SignersAre n f me mark slots (Err FewSigners)
      unfolding signers_number
      too_few h =
          let t : enough f (signers_of n me mark (slot_of slots)) ≡ false = ap (enough f) (sym m) ∙ h in
          refuses (simp (s, e, t))

      pub found : enough f mask ≡ true → SignersAre n f me mark slots (Ok mask)
      unfolding signers_number
      found h =
          let t : enough f (signers_of n me mark (slot_of slots)) ≡ true = ap (enough f) (sym m) ∙ h in
          answers (simp (s, e, t)) m
