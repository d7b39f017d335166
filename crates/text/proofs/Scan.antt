-- Places of bytes: the answer for the whole is the answer for the rest; what stands after a byte.
use Prim.Native.Nat.{◌+◌, ◌-◌, ◌≤◌, suc, ℕ}
use mathlib.Core.Bool.{Bool, cond, false, not, true}
use mathlib.Core.List.{List, [], ◌∷◌}
use mathlib.Core.Path.{◌∙◌, ◌≡◌, ap, refl, sym}
use native.Mathlib.Omega.{arith}
use borrow.Author.Tests.{ltb-false}
use lib.Dec.{eqb, ltb}
use lib.ListN.{drop, drop_of_length-le, length, take}
use Rattle.std.specs.Prelude.{Some, None, position, unwrap_or}
use Rattle.std.specs.List.{position_or_len}
use Rattle.laws.proofs.Lent.{rest_of}
use Rattle.text.specs.Places.{past, place_of}

-- where the first byte c stands, by the library's words
place_or_len : (c : ℕ) (s : List ℕ) → position_or_len (λ (b : ℕ). eqb b c) s ≡ place_of c s
unfolding place_of
place_or_len c [] = refl
place_or_len c (b ∷ s) = go (eqb b c) (position_or_len (λ (x : ℕ). eqb x c) s) (place_or_len c s)
  where
    go : (t : Bool) (k : ℕ) → k ≡ place_of c s → cond (not t) (1 + k) 0 ≡ cond t 0 (suc (place_of c s))
    go true k e = refl
    go false k e = omega arith

place_le : (c : ℕ) (s : List ℕ) → place_of c s ≤ length s
unfolding place_of
place_le c [] = omega arith
place_le c (b ∷ s) = go (eqb b c) (place_le c s)
  where
    go : (t : Bool) → place_of c s ≤ length s → cond t 0 (suc (place_of c s)) ≤ suc (length s)
    go true h = omega arith
    go false h = omega arith

pub place_first : (c : ℕ) (s : List ℕ)
    → place_of c s ≡ unwrap_or (position (λ (b : ℕ). eqb b c) s) (length s)
place_first c s = sym (ap (λ (k : ℕ). unwrap_or (cond (ltb k (length s)) (Some k) None) (length s)) (place_or_len c s) ∙ go (ltb (place_of c s) (length s)) refl)
  where
    go : (t : Bool) → ltb (place_of c s) (length s) ≡ t → unwrap_or (cond t (Some (place_of c s)) None) (length s) ≡ place_of c s
    go true h = refl
    go false h = omega (arith, ltb-false _ _ h, place_le c s)

module _ (c k : ℕ) (s : List ℕ) (e : k ≡ place_of c s) where
  pub place_within : k ≤ length s
  place_within = omega (arith, place_le c s)

  pub past_none : length s ≤ k → take (length s - k) (drop k s) ≡ past c s
  past_none h =
      rest_of s k ∙ drop_of_length-le s {i = k} h ∙ sym (drop_of_length-le s {i = place_of c s + 1} (omega arith))

  pub past_some : take (length s - (k + 1)) (drop (k + 1) s) ≡ past c s
  past_some = rest_of s (k + 1) ∙ ap (λ (j : ℕ). drop (j + 1) s) e
