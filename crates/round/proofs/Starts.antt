-- Before the first vote: each place holds what is kept for its primary, and no masks.
use Rattle.std.proofs.Common.{ℕ, ◌≡◌, List, [], ◌∷◌, map, refl, sym, ap, ◌∙◌}
use mathlib.Core.List.{append-nil}
use Rattle.rules.specs.Sizes.{nodes_most}
use Rattle.rules.specs.Vote.{Batch}
use Rattle.rules.specs.Step.{gather, newly}
use Rattle.node.specs.Batches.{kept_as}
use Rattle.node.specs.declared.Kept.{Kept}
use Rattle.keeping.specs.Keeping.{found_for}
use Rattle.keeping.specs.declared.Found.{Found}
use Rattle.round.specs.Found.{Begin}
use Rattle.round.proofs.Mapped.{each_mapped}

-- what is kept, and no masks
abbrev pub bare : Kept → Found
bare k = record { kept = k; first = 0; second = 0 }

no_masks : (old : List Batch) → bare (kept_as old) ≡ found_for old []
no_masks [] = refl
no_masks (a ∷ []) = refl
no_masks (a ∷ b ∷ old) = ap (λ (l : List Batch). bare (kept_as (a ∷ b ∷ l))) (sym (append-nil old))

pub all_bare : (kept : List Kept) (found : List Found) → found ≡ map bare kept → Begin kept found
unfolding newly
all_bare kept found f = record {
  begins = λ r lists e.
      f ∙ ap (map bare) e ∙ each_mapped bare (λ (p : ℕ). kept_as (lists p)) nodes_most
      ∙ (λ i. gather (λ (p : ℕ). no_masks (lists p) i ∷ []) nodes_most);
}
