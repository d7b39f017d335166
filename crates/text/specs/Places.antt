-- "lines of key=value ended by LF"; "by commas"; "as meter.interval.watthours": a text is cut at these bytes.
use Rattle.std.specs.Prelude.{ℕ, suc, ◌+◌, cond, List, [], ◌∷◌, eqb, take, drop}

-- the byte that ends a line, the one between items, the one between the numbers of an entry
abbrev pub lf : ℕ
lf = 10

abbrev pub comma : ℕ
comma = 44

abbrev pub dot : ℕ
dot = 46

-- where the first byte c stands; the length where there is none
unfoldable pub place_of : ℕ → List ℕ → ℕ
place_of c [] = 0
place_of c (b ∷ s) = cond (eqb b c) 0 (suc (place_of c s))

-- what stands before the first byte c
abbrev pub up_to : ℕ → List ℕ → List ℕ
up_to c s = take (place_of c s) s

-- what stands after it
abbrev pub past : ℕ → List ℕ → List ℕ
past c s = drop (place_of c s + 1) s
