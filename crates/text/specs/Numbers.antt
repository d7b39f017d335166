-- "Numbers are decimal without leading zeros"; entries are written "as meter.interval.watthours".
use Rattle.std.specs.Prelude.{ℕ, ◌+◌, ◌*◌, ◌-◌, Bool, true, ◌&&◌, not, cond, List, [], ◌∷◌, ltb, leb, eqb, length, get_or, Option, Some, None}
use Rattle.entries.specs.Fields.{entry}
use Rattle.text.specs.Places.{dot, place_of, up_to, past}

-- a digit: `0` to `9`, then `a` to `f`; 16 for any other byte
unfoldable pub digit_of : ℕ → ℕ
digit_of b = cond (ltb b 48) 16 (cond (leb b 57) (b - 48) (cond (ltb b 97) 16 (cond (leb b 102) (b - 87) 16)))

-- a digit that is below the base
abbrev pub digit_in : ℕ → ℕ → Option ℕ
digit_in base b = cond (ltb (digit_of b) base) (Some (digit_of b)) None

-- every byte is a digit below the base
unfoldable pub digits_below : ℕ → List ℕ → Bool
digits_below base [] = true
digits_below base (b ∷ s) = ltb (digit_of b) base && digits_below base s

-- the number that v's digits and then these say, in base ten
unfoldable pub value_from : ℕ → List ℕ → ℕ
value_from v [] = v
value_from v (b ∷ s) = value_from (v * 10 + digit_of b) s

-- a zero with more after it
abbrev pub leading_zero : List ℕ → Bool
leading_zero s = leb 2 (length s) && eqb (get_or s 0 0) 48

-- decimal, without leading zeros
unfoldable pub decimal : List ℕ → Bool
decimal s = leb 1 (length s) && (not (leading_zero s) && digits_below 10 s)

-- a number that is at most `most`
unfoldable pub number_in : ℕ → List ℕ → Option ℕ
number_in most s = cond (decimal s && leb (value_from 0 s) most) (Some (value_from 0 s)) None

-- a number with the byte `sep` after it
unfoldable pub field_of : ℕ → ℕ → List ℕ → Option ℕ
field_of sep most s = cond (ltb (place_of sep s) (length s)) (number_in most (up_to sep s)) None

-- the most that 16 bits hold, and that 32 bits hold
abbrev pub half_most : ℕ
half_most = 65535

abbrev pub word_most : ℕ
word_most = 4294967295

-- the entry of these fields
unfoldable pub entry_as : Option ℕ → Option ℕ → Option ℕ → Option ℕ
entry_as (Some m) (Some i) (Some w) = Some (entry m i w)
entry_as (Some m) (Some i) None = None
entry_as (Some m) None w = None
entry_as None i w = None

-- meter.interval.watthours
unfoldable pub entry_in : List ℕ → Option ℕ
entry_in s = entry_as (field_of dot half_most s) (field_of dot half_most (past dot s)) (number_in word_most (past dot (past dot s)))
