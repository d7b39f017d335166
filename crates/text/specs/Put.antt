-- Text written over the front of a lent output, where there is room for it; where there is none, nothing is written and the answer is 0.
use Rattle.std.specs.Prelude.{ℕ, ◌≡◌, Bool, cond, List, leb, length}
use Rattle.laws.specs.Parts.{onto}

-- the output has room for the text
abbrev pub room_for : List ℕ → List ℕ → Bool
room_for w output = leb (length w) (length output)

-- w is to be written: how many bytes are, and the output afterwards
pub record Put (w output : List ℕ) (answer : ℕ) (after : List ℕ) : Type 0 where
  pub answers : answer ≡ cond (room_for w output) (length w) 0
  pub leaves : after ≡ cond (room_for w output) (onto w output) output
