-- "n slots of 33 bytes. A slot speaks when its first byte is 1; any other value is silence."
use Rattle.std.specs.Prelude.{ℕ, ◌+◌, ◌*◌, Bool, cond, List, eqb, length, get_or, take, drop}
use Rattle.std.proofs.Math.Option.{none, some}
use Rattle.rules.specs.Signers.{Slot}

abbrev pub mark_size : ℕ
mark_size = 32

-- a byte that says whether the slot speaks, then a mark
abbrev pub slot_size : ℕ
slot_size = 1 + mark_size

-- the first byte of a slot that speaks
abbrev pub speaking : ℕ
speaking = 1

-- the slot that stands in some bytes: the mark after its first byte where that says so, else silence
unfoldable pub slot_in : List ℕ → Slot
slot_in bytes = cond (eqb (get_or bytes 0 0) speaking) (some (take mark_size (drop 1 bytes))) none

-- n slots, back to back
abbrev pub are_slots : ℕ → List ℕ → Bool
are_slots n slots = eqb (length slots) (slot_size * n)

-- node j's slot among them
abbrev pub slot_of : List ℕ → ℕ → Slot
slot_of slots j = slot_in (take slot_size (drop (slot_size * j) slots))
