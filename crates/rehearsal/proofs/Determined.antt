-- Any two outcomes that a promise allows are equal: each part of them is the same function of what was handed in.
use Rattle.std.proofs.Common.{◌≡◌, ℕ, List, Result, sym, ◌∙◌}
use Rattle.rules.specs.declared.refusal.Refusal.{Refusal}
use Rattle.rules.proofs.Answers.{determined}
use Rattle.rehearsal.specs.Rehearsal.{Rehearse}

pub rehearsal_determined : (s output : List ℕ) (a b : Result ℕ Refusal) (after other : List ℕ) → Rehearse s output a after → Rehearse s output b other
    → (a ≡ b) × (after ≡ other)
rehearsal_determined s output a b after other p q = (determined a b p.answers q.answers, p.output_is ∙ sym q.output_is)
