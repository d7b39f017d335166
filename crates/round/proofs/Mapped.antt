-- An array that is made place by place is the list of what each place of another list gives.
use Rattle.std.proofs.Common.{ℕ, zero, suc, ◌≡◌, ◌<◌, List, [], ◌∷◌, ◌++◌, map, length, get_or, refl, sym, ap, ◌∙◌, arith}
use mathlib.Core.List.{map-append}
use lib.ListN.{length-map}
use lib.Seq.{ext_get_or}
use Rattle.rules.specs.Step.{gather}

module _ {A B : Type 0} (h : A → B) where
  at_place : (d : A) (xs : List A) (i : ℕ) → get_or (map h xs) i (h d) ≡ h (get_or xs i d)
  at_place d [] i = refl
  at_place d (x ∷ xs) zero = refl
  at_place d (x ∷ xs) (suc i) = at_place d xs i

  pub mapped : (d : A) (xs : List A) (ys : List B) (n : ℕ) → length xs ≡ n → length ys ≡ n
      → ((i : ℕ) → i < n → get_or ys i (h d) ≡ h (get_or xs i d)) → ys ≡ map h xs
  mapped d xs ys n size long each =
      ext_get_or (h d) ys (map h xs) (long ∙ sym size ∙ sym (length-map xs h))
      (λ i l. let k : i < n = omega (arith, long) in each i k ∙ sym (at_place d xs i))

  -- of a list in which each number below n gives one element
  pub each_mapped : (g : ℕ → A) (n : ℕ) → map h (gather (λ (p : ℕ). g p ∷ []) n) ≡ gather (λ (p : ℕ). h (g p) ∷ []) n
  unfolding gather
  each_mapped g zero = refl
  each_mapped g (suc n) =
      map-append h (gather (λ (p : ℕ). g p ∷ []) n) (g n ∷ []) ∙ ap (λ (l : List B). l ++ (h (g n) ∷ [])) (each_mapped g n)
