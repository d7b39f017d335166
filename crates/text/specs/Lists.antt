-- "ascending node numbers by commas, or empty"; "at most 16 entries as meter.interval.watthours, ascending, by commas, or empty".
use Rattle.std.specs.Prelude.{ℕ, ◌-◌, cond, List, [], ◌∷◌, ◌++◌, ltb, eqb, length, replicate, Option, Some, None}
use Rattle.rules.specs.Sizes.{batch_most, is_batch}
use Rattle.text.specs.Places.{comma}
use Rattle.text.specs.Numbers.{word_most, number_in, entry_in}
use Rattle.text.specs.declared.Kind.{Kind}
use Rattle.text.specs.declared.Kind.TheVariants.{Below, Entry}
use Rattle.entries.specs.declared.places.Places.{Places}

-- a byte put before the first of some parts
unfoldable pub ahead : ℕ → List (List ℕ) → List (List ℕ)
ahead b [] = (b ∷ []) ∷ []
ahead b (p ∷ ps) = (b ∷ p) ∷ ps

-- the parts between the bytes c
unfoldable pub split : ℕ → List ℕ → List (List ℕ)
split c [] = [] ∷ []
split c (b ∷ s) = cond (eqb b c) ([] ∷ split c s) (ahead b (split c s))

-- a number that is below n
unfoldable pub below_as : ℕ → Option ℕ → Option ℕ
below_as n (Some v) = cond (ltb v n) (Some v) None
below_as n None = None

-- an item: a number below n, or an entry
unfoldable pub item_of : Kind → List ℕ → Option ℕ
item_of (Below n) s = below_as n (number_in word_most s)
item_of Entry s = entry_in s

-- an item before those that follow; none where it or one of those is bad
unfoldable pub and_item : Option ℕ → Option (List ℕ) → Option (List ℕ)
and_item None xs = None
and_item (Some x) None = None
and_item (Some x) (Some xs) = Some (x ∷ xs)

-- all the items; none where one of them is bad
unfoldable pub items_of : Kind → List (List ℕ) → Option (List ℕ)
items_of k [] = Some []
items_of k (p ∷ ps) = and_item (item_of k p) (items_of k ps)

-- at most 16, and strictly ascending, as a batch is
unfoldable pub checked : Option (List ℕ) → Option (List ℕ)
checked None = None
checked (Some xs) = cond (is_batch xs) (Some xs) None

-- ascending items by commas, or empty; none where the text is no such list
unfoldable pub list_of : Kind → List ℕ → Option (List ℕ)
list_of k s = cond (eqb (length s) 0) (Some []) (checked (items_of k (split comma s)))

-- as it is handed on: sixteen places, those not used are zero
unfoldable pub listed_as : Option (List ℕ) → Option (Places batch_most)
listed_as None = None
listed_as (Some xs) = Some (record { count = length xs; entries = xs ++ replicate (batch_most - length xs) 0 })
