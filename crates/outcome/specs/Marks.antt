-- "The program numbers distinct logs from 0 in node order and uses that number as the mark's first byte, the other 31 zero."
use Rattle.std.specs.Prelude.{ℕ, zero, suc, ◌-◌, Bool, ◌||◌, cond, List, [], ◌∷◌, ◌++◌, replicate}
use Rattle.laws.specs.Members.{same, among}
use Rattle.rules.specs.Signers.{Mark}
use Rattle.signing.specs.Slots.{mark_size}

-- the place of a log among some; how many they are where it is none of them
unfoldable pub place_in : List ℕ → List (List ℕ) → ℕ
place_in l [] = 0
place_in l (k ∷ ks) = cond (same l k) 0 (suc (place_in l ks))

-- a number as a mark: its first byte, the other 31 zero
abbrev pub mark_with : ℕ → Mark
mark_with number = number ∷ replicate (mark_size - 1) 0

-- log i: the log of node i, where it is correct
module _ (faulty : ℕ → Bool) (log : ℕ → List ℕ) where
  -- the distinct logs of the correct nodes among 0 to n - 1, in node order
  unfoldable pub distinct : (n : ℕ) → List (List ℕ)
  distinct zero = []
  distinct (suc i) = cond (faulty i || among (log i) (distinct i)) (distinct i) (distinct i ++ (log i ∷ []))

  -- the number of node i's log among those of n nodes, and its mark
  abbrev pub number_at : (n i : ℕ) → ℕ
  number_at n i = place_in (log i) (distinct n)

  abbrev pub mark_at : (n i : ℕ) → Mark
  mark_at n i = mark_with (number_at n i)
