-- Keys: when a line has its key, and what its value reads as.
use Rattle.std.specs.Prelude.{Some, None}
use Prim.Native.Nat.{◌+◌, ◌-◌, ◌<◌, ◌≤◌, ℕ}
use mathlib.Core.Bool.{Bool, ◌&&◌, and-false, cond, false, true}
use mathlib.Core.List.{List, [], ◌∷◌}
use mathlib.Core.Path.{◌≡◌, ap, refl, sym}
use native.Mathlib.Omega.{arith}
use borrow.Author.Tests.{le-leb, lt-leb}
use lib.Dec.{eqb, leb}
use lib.ListN.{drop, get_or, length, take}
use Rattle.std.specs.List.{starts_with}
use Rattle.std.specs.Cmp.Lexicographic.{pointwise}
use Rattle.laws.specs.Members.{same}
use Rattle.laws.proofs.Tests.{both}
use Rattle.text.specs.Lines.{keyed, list_line, number_line, value_of}
use Rattle.text.specs.Lists.{list_of}
use Rattle.text.specs.Numbers.{number_in}
use Rattle.text.specs.Places.{lf}
use Rattle.text.specs.declared.Kind.{Kind}
use Rattle.text.proofs.Digits.{no_value, number_small}

-- equal lists, by the library's word
pointwise_same : (xs ys : List ℕ) → pointwise eqb xs ys ≡ same xs ys
pointwise_same [] [] = refl
pointwise_same [] (y ∷ ys) = refl
pointwise_same (x ∷ xs) [] = refl
pointwise_same (x ∷ xs) (y ∷ ys) = ap (λ (t : Bool). eqb x y && t) (pointwise_same xs ys)

module _ (key l : List ℕ) where
  pub starts_same : starts_with eqb l key ≡ same key (take (length key) l)
  starts_same = pointwise_same key (take (length key) l)

  pub key_short : length l ≤ length key → keyed key l ≡ false
  unfolding keyed
  key_short h = let k : length l < length key + 1 = omega arith in simp (lt-leb _ _ k)

  pub key_other : same key (take (length key) l) ≡ false → keyed key l ≡ false
  unfolding keyed
  key_other e = simp (e, and-false)

  pub key_end : length key < length l → same key (take (length key) l) ≡ true → keyed key l ≡ eqb (get_or l (length l - 1) 0) lf
  unfolding keyed
  key_end h e = let k : length key + 1 ≤ length l = omega arith in simp (le-leb _ _ k, e)

  -- a line that has its key starts with it
  pub key_starts : keyed key l ≡ true → same key (take (length key) l) ≡ true
  unfolding keyed
  key_starts e =
      let t = both (leb (length key + 1) (length l)) (same key (take (length key) l) && eqb (get_or l (length l - 1) 0) lf) e in
      (both (same key (take (length key) l)) (eqb (get_or l (length l - 1) 0) lf) t.1).0

  pub value_none : length l ≤ length key → [] ≡ value_of key l
  value_none h = let e : length l - 1 - length key ≡ 0 = omega arith in ap (λ (k : ℕ). take k (drop (length key) l)) (sym e)

  pub number_line_no : (most : ℕ) → keyed key l ≡ false → number_line key most l ≡ None
  unfolding number_line
  number_line_no most e = simp e

  pub number_line_yes : (most : ℕ) → keyed key l ≡ true → number_line key most l ≡ number_in most (value_of key l)
  unfolding number_line
  number_line_yes most e = simp e

  pub list_line_no : (kind : Kind) → keyed key l ≡ false → list_line key kind l ≡ None
  unfolding list_line
  list_line_no kind e = simp e

  pub list_line_yes : (kind : Kind) → keyed key l ≡ true → list_line key kind l ≡ list_of kind (value_of key l)
  unfolding list_line
  list_line_yes kind e = simp e

  -- a number that was read is no more than it may be
  pub line_small : (most v : ℕ) → Some v ≡ number_line key most l → v ≤ most
  unfolding number_line
  line_small most v e = go (keyed key l) e
    where
      go : (t : Bool) → Some v ≡ cond t (number_in most (value_of key l)) None → v ≤ most
      go true q = number_small most (value_of key l) v q
      go false q = absurd (no_value q)
