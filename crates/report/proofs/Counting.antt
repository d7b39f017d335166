-- The nodes whose bit is set are listed in node order.
use Prim.Native.Nat.{ℕ, ◌+◌, ◌≤◌, ◌<◌}
use mathlib.Core.Path.{◌≡◌, refl, sym, ap, ◌∙◌}
use mathlib.Core.Bool.{Bool, true, false}
use mathlib.Core.List.{List, [], ◌∷◌, ◌++◌, append-nil}
use native.Mathlib.Numerals.{add-one}
use native.Mathlib.Omega.{arith}
use lib.ListN.{length, set, length-set}
use lib.Seq.{take-suc-set}
use Rattle.rules.specs.Sizes.{nodes_most}
use Rattle.rules.specs.Step.{gather}
use Rattle.entries.specs.Places.{held_in, none_in}
use Rattle.entries.specs.declared.places.Places.{Places}
use Rattle.report.specs.Lines.{nodes_that}

module _ (t : ℕ → Bool) where
  passed_over : (j : ℕ) → t j ≡ false → nodes_that t j ≡ nodes_that t (j + 1)
  unfolding nodes_that gather
  passed_over j e = rw (add-one j) (simp e (sym (append-nil (nodes_that t j))))

  taken_up_lem : (j : ℕ) → t j ≡ true → nodes_that t j ++ (j ∷ []) ≡ nodes_that t (j + 1)
  unfolding nodes_that gather
  taken_up_lem j e = rw (add-one j) (simp e)

  -- the nodes below j that pass the test stand in the first places
  abbrev pub Listed : ℕ → Places nodes_most → Type 0
  Listed j x = (x.count ≤ j) × (length x.entries ≡ nodes_most) × (held_in x ≡ nodes_that t j)

  pub none_listed : Listed 0 (none_in nodes_most)
  unfolding nodes_that gather
  none_listed = (omega arith, refl, refl)

  module _ (j : ℕ) (x : Places nodes_most) (h : Listed j x) where
    pub not_listed : t j ≡ false → Listed (j + 1) x
    not_listed e = (omega (arith, h.0), h.1, h.2 ∙ passed_over j e)

    pub one_listed : t j ≡ true → j < nodes_most → Listed (j + 1) (record { count = x.count + 1; entries = set x.entries x.count j })
    one_listed e l = (
      omega (arith, h.0),
      length-set x.entries x.count j ∙ h.1,
      rw (add-one x.count) (take-suc-set x.entries x.count j (omega (arith, h.0, h.1))) ∙ ap (λ (y : List ℕ). y ++ (j ∷ [])) h.2 ∙ taken_up_lem j e,
    )
