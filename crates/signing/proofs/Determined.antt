-- The promise determines the answer: it is what the definitions say.
use Rattle.std.proofs.Common.{ℕ, ◌≡◌, List, Result}
use Rattle.rules.specs.declared.refusal.Refusal.{Refusal}
use Rattle.rules.specs.Signers.{Mark}
use Rattle.rules.proofs.Answers.{determined}
use Rattle.signing.specs.Count.{SignersAre}

pub signers_determined : (n f me : ℕ) (mark : Mark) (slots : List ℕ) (a b : Result ℕ Refusal)
    → SignersAre n f me mark slots a → SignersAre n f me mark slots b → a ≡ b
signers_determined n f me mark slots a b p q = determined a b p q
