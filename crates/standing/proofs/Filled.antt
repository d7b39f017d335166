-- An array that is filled place by place is the list of what each place gives.
use Prim.Native.Nat.{ℕ, ◌+◌, ◌<◌}
use mathlib.Core.Path.{◌≡◌, refl, sym, ◌∙◌}
use mathlib.Core.Bool.{Bool, true, false}
use mathlib.Core.List.{List, [], ◌∷◌}
use native.Mathlib.Omega.{arith}
use borrow.Author.Tests.{eqb-true, eqb-false}
use lib.Dec.{eqb}
use lib.ListN.{length, get_or, set}
use lib.Seq.{get_or-set_same, get_or-set_other, ext_get_or}
use Rattle.rules.specs.Step.{gather}
use Rattle.rules.proofs.Gathered.{each_length, each_at}

module _ {A : Type 0} (d : A) (g : ℕ → A) where
  -- the places below i are filled
  abbrev pub Filled : List A → ℕ → Type 0
  Filled xs i = (j : ℕ) → j < i → get_or xs j d ≡ g j

  pub one_filled : (xs : List A) (i : ℕ) (y : A) → i < length xs → y ≡ g i → Filled xs i → Filled (set xs i y) (i + 1)
  one_filled xs i y l e f j h = go (eqb j i) refl
    where
      go : (t : Bool) → eqb j i ≡ t → get_or (set xs i y) j d ≡ g j
      go true q = let p : j ≡ i = eqb-true j i q in rw p (get_or-set_same xs i y d l ∙ e)
      go false q =
          let p : j ≡ i → ⊥ = eqb-false j i q in
          get_or-set_other xs i j y d p ∙ f j (omega arith)

  pub all_filled : (xs : List A) (n : ℕ) → length xs ≡ n → Filled xs n → xs ≡ gather (λ (j : ℕ). g j ∷ []) n
  all_filled xs n l f =
      ext_get_or d xs (gather (λ (j : ℕ). g j ∷ []) n) (l ∙ sym (each_length g n))
      (λ i h. let k : i < n = omega arith in f i k ∙ sym (each_at g d n i k))
