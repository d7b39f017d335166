-- What a list that was read tells: it is at most 16 items, strictly ascending, and each of them was read.
use Rattle.std.specs.Prelude.{Option, Some, None}
use Prim.Native.Nat.{◌<◌, ◌^◌, ℕ}
use mathlib.Core.Bool.{Bool, cond, false, true}
use mathlib.Core.List.{List, [], ◌∷◌}
use mathlib.Core.Logic.{◌⊎◌, inl, inr, ⊎_elim}
use mathlib.Core.Path.{◌∙◌, ◌≡◌, ap, refl, subst, sym}
use native.Mathlib.Omega.{arith}
use borrow.Author.Tests.{ltb-true}
use lib.Dec.{eqb, ltb}
use lib.ListN.{length}
use Rattle.laws.specs.Members.{In}
use Rattle.laws.proofs.Tests.{zero_one}
use Rattle.rules.specs.Sizes.{is_batch}
use Rattle.text.specs.Lines.{keyed, list_line, value_of}
use Rattle.text.specs.Lists.{and_item, below_as, checked, item_of, items_of, list_of, split}
use Rattle.text.specs.Numbers.{number_in, word_most}
use Rattle.text.specs.Places.{comma}
use Rattle.text.specs.declared.Kind.{Kind}
use Rattle.text.specs.declared.Kind.TheVariants.{Below, Entry}
use Rattle.text.proofs.Digits.{entry_small, no_value, value_is}

none_some : {xs : List ℕ} → None ≡ Some xs → ⊥
none_some e = zero_one cc

some_is : {xs ys : List ℕ} → Some xs ≡ Some ys → xs ≡ ys
some_is e = cc

-- each item is the value of some part
items_read : (kind : Kind) (ps : List (List ℕ)) (xs : List ℕ) (x : ℕ) → items_of kind ps ≡ Some xs → In x xs → (p : List ℕ) × (Some x ≡ item_of kind p)
unfolding items_of and_item
items_read kind [] xs x e i = absurd (subst (In x) (sym (some_is e)) i)
items_read kind (p ∷ ps) xs x e i = go (item_of kind p) (items_of kind ps) refl e (λ ys q j. items_read kind ps ys x q j)
  where
    found : (v : ℕ) (ys : List ℕ) → item_of kind p ≡ Some v → (In x ys → (q : List ℕ) × (Some x ≡ item_of kind q)) → (x ≡ v) ⊎ In x ys
        → (q : List ℕ) × (Some x ≡ item_of kind q)
    found v ys a rest (inl q) = (p, ap Some q ∙ sym a)
    found v ys a rest (inr j) = rest j

    go : (n : Option ℕ) (o : Option (List ℕ)) → item_of kind p ≡ n → and_item n o ≡ Some xs
        → ((ys : List ℕ) → o ≡ Some ys → In x ys → (q : List ℕ) × (Some x ≡ item_of kind q)) → (q : List ℕ) × (Some x ≡ item_of kind q)
    go None o a q rest = absurd (none_some q)
    go (Some v) None a q rest = absurd (none_some q)
    go (Some v) (Some ys) a q rest = found v ys a (rest ys refl) (subst (In x) (sym (some_is q)) i)

checked_told : (o : Option (List ℕ)) (xs : List ℕ) → checked o ≡ Some xs → (is_batch xs ≡ true) × (o ≡ Some xs)
unfolding checked
checked_told None xs e = absurd (none_some e)
checked_told (Some ys) xs e = go (is_batch ys) refl e
  where
    go : (t : Bool) → is_batch ys ≡ t → cond t (Some ys) None ≡ Some xs → (is_batch xs ≡ true) × (Some ys ≡ Some xs)
    go true b q = (ap is_batch (sym (some_is q)) ∙ b, q)
    go false b q = absurd (none_some q)

-- a list is empty, or its checked items
list_told : (kind : Kind) (s xs : List ℕ) → list_of kind s ≡ Some xs → (xs ≡ []) ⊎ ((is_batch xs ≡ true) × (items_of kind (split comma s) ≡ Some xs))
unfolding list_of
list_told kind s xs e = go (eqb (length s) 0) e
  where
    go : (t : Bool) → cond t (Some []) (checked (items_of kind (split comma s))) ≡ Some xs
        → (xs ≡ []) ⊎ ((is_batch xs ≡ true) × (items_of kind (split comma s) ≡ Some xs))
    go true q = inl (sym (some_is q))
    go false q = inr (checked_told (items_of kind (split comma s)) xs q)

empty_batch : is_batch [] ≡ true
unfolding is_batch
empty_batch = refl

module _ (key : List ℕ) (kind : Kind) (l xs : List ℕ) (e : list_line key kind l ≡ Some xs) where
  told : (xs ≡ []) ⊎ ((is_batch xs ≡ true) × (items_of kind (split comma (value_of key l)) ≡ Some xs))
  unfolding list_line
  told = go (keyed key l) e
    where
      go : (t : Bool) → cond t (list_of kind (value_of key l)) None ≡ Some xs
          → (xs ≡ []) ⊎ ((is_batch xs ≡ true) × (items_of kind (split comma (value_of key l)) ≡ Some xs))
      go true q = list_told kind (value_of key l) xs q
      go false q = absurd (none_some q)

  pub line_batch : is_batch xs ≡ true
  line_batch = ⊎_elim (λ q. ap is_batch q ∙ empty_batch) (λ q. q.0) told

  pub line_read : (x : ℕ) → In x xs → (p : List ℕ) × (Some x ≡ item_of kind p)
  line_read x i = ⊎_elim (λ q. absurd (subst (In x) q i)) (λ q. items_read kind (split comma (value_of key l)) xs x q.1 i) told

-- an item below n is below n, and an entry is a 64-bit number
pub below_small : (n : ℕ) (p : List ℕ) (x : ℕ) → Some x ≡ item_of (Below n) p → x < n
unfolding item_of below_as
below_small n p x e = go (number_in word_most p) e
  where
    test : (v : ℕ) (t : Bool) → ltb v n ≡ t → Some x ≡ cond t (Some v) None → x < n
    test v true h q = omega (arith, ltb-true v n h, value_is q)
    test v false h q = absurd (no_value q)

    go : (w : Option ℕ) → Some x ≡ below_as n w → x < n
    go (Some v) q = test v (ltb v n) refl q
    go None q = absurd (no_value q)

pub entry_item : (p : List ℕ) (x : ℕ) → Some x ≡ item_of Entry p → x < 2 ^ 64
unfolding item_of
entry_item p x e = entry_small p x e
