-- Marks and slots as bytes, for runs that are signed.
use Rattle.std.specs.Prelude.{ℕ, ◌-◌, List, [], ◌∷◌, ◌++◌, replicate}
use Rattle.std.proofs.Math.Option.{none, some}
use Rattle.rules.specs.Signers.{Mark, Slot}
use Rattle.signing.specs.Slots.{mark_size, slot_size, speaking}

-- "that number as the mark's first byte, the other 31 zero"
abbrev pub mark_of : ℕ → Mark
mark_of k = k ∷ replicate (mark_size - 1) 0

-- a slot's 33 bytes
abbrev pub slot_bytes : Slot → List ℕ
slot_bytes none = replicate slot_size 0
slot_bytes (some m) = speaking ∷ m

-- slots back to back
abbrev pub slots_of : List Slot → List ℕ
slots_of [] = []
slots_of (s ∷ more) = slot_bytes s ++ slots_of more
