-- "message in lower-case hex".
use Rattle.std.specs.Prelude.{ℕ, ◌+◌, ◌*◌, ◌%◌, Bool, ◌&&◌, cond, List, [], ◌∷◌, eqb, length}
use Rattle.text.specs.Numbers.{digit_of, digits_below}

-- pairs of digits `0` to `9` and `a` to `f`
unfoldable pub is_hex : List ℕ → Bool
is_hex s = eqb (length s % 2) 0 && digits_below 16 s

-- the bytes that pairs of digits say
unfoldable pub pairs_of : List ℕ → List ℕ
pairs_of [] = []
pairs_of (a ∷ []) = []
pairs_of (a ∷ b ∷ s) = (digit_of a * 16 + digit_of b) ∷ pairs_of s

-- the bytes that a text says in lower-case hex; none where it is no hex
unfoldable pub hex_of : List ℕ → List ℕ
hex_of s = cond (is_hex s) (pairs_of s) []
