-- A list as it is handed on: what its fields tell of the list that was read.
use Rattle.std.specs.Prelude.{Option, Some, None}
use Prim.Native.Nat.{◌-◌, ◌≤◌, ℕ}
use mathlib.Core.List.{List, ◌++◌}
use mathlib.Core.Path.{◌∙◌, ◌≡◌, ap, refl, sym}
use native.Mathlib.Omega.{arith}
use lib.ListN.{length, length-append, replicate, take}
use lib.Seq.{take_at}
use Rattle.laws.proofs.Tests.{zero_one}
use Rattle.rules.specs.Sizes.{batch_most}
use Rattle.text.specs.Lists.{listed_as}
use Rattle.entries.specs.declared.places.Places.{Places}

-- nothing is handed on where no list was read
pub listed_none : (o : Option (List ℕ)) → None ≡ listed_as o → o ≡ None
unfolding listed_as
listed_none None e = refl
listed_none (Some xs) e = absurd (zero_one cc)

module _ (o : Option (List ℕ)) (l : Places batch_most) (e : Some l ≡ listed_as o) where
  -- what is handed on where one was read: its items stand in front
  pub listed_some : o ≡ Some (take l.count l.entries)
  unfolding listed_as
  listed_some = go o e
    where
      go : (x : Option (List ℕ)) → Some l ≡ listed_as x → x ≡ Some (take l.count l.entries)
      go None q = absurd (zero_one cc)
      go (Some xs) q =
          let is : l ≡ record { count = length xs; entries = xs ++ replicate (batch_most - length xs) 0 } = cc in
          sym (ap (λ (i : Places batch_most). Some (take i.count i.entries)) is ∙ ap Some (take_at xs (replicate (batch_most - length xs) 0) (length xs) refl))

  pub listed_room : l.count ≤ length l.entries
  unfolding listed_as
  listed_room = go o e
    where
      go : (x : Option (List ℕ)) → Some l ≡ listed_as x → l.count ≤ length l.entries
      go None q = absurd (zero_one cc)
      go (Some xs) q =
          let is : l ≡ record { count = length xs; entries = xs ++ replicate (batch_most - length xs) 0 } = cc in
          rw is (omega (arith, length-append xs (replicate (batch_most - length xs) 0)))
