-- "lines of key=value ended by LF". A line keeps its LF; "a line without its LF is bad" by the line's own form.
use Rattle.std.specs.Prelude.{ℕ, ◌+◌, ◌-◌, Bool, ◌&&◌, cond, List, [], ◌∷◌, ltb, leb, eqb, length, get_or, take, drop, Option, None}
use Rattle.laws.specs.Members.{same}
use Rattle.text.specs.Places.{lf, place_of}
use Rattle.text.specs.Numbers.{number_in}
use Rattle.text.specs.Lists.{ahead, list_of}
use Rattle.text.specs.declared.Kind.{Kind}

-- the lines of a text, each with its LF; the last may lack it
unfoldable pub lines_of : List ℕ → List (List ℕ)
lines_of [] = []
lines_of (b ∷ s) = cond (eqb b lf) ((b ∷ []) ∷ lines_of s) (ahead b (lines_of s))

-- the length of the first line, its LF included
unfoldable pub line_len : List ℕ → ℕ
line_len s = cond (ltb (place_of lf s) (length s)) (place_of lf s + 1) (length s)

-- a line that starts with the key, `=` included, and ends with LF
unfoldable pub keyed : List ℕ → List ℕ → Bool
keyed key l = leb (length key + 1) (length l) && (same key (take (length key) l) && eqb (get_or l (length l - 1) 0) lf)

-- what stands between the key and the LF
abbrev pub value_of : List ℕ → List ℕ → List ℕ
value_of key l = take (length l - 1 - length key) (drop (length key) l)

-- a line key=number
unfoldable pub number_line : List ℕ → ℕ → List ℕ → Option ℕ
number_line key most l = cond (keyed key l) (number_in most (value_of key l)) None

-- a line key=list
unfoldable pub list_line : List ℕ → Kind → List ℕ → Option (List ℕ)
list_line key kind l = cond (keyed key l) (list_of kind (value_of key l)) None
