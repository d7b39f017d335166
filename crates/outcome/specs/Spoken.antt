-- "n slots of 33 bytes. A slot speaks when its first byte is 1". "Faulty nodes' trays are unused and they sign nothing."
use Rattle.std.specs.Prelude.{ℕ, Bool, cond, List, ◌∷◌, replicate}
use Rattle.rules.specs.Signers.{Mark}
use Rattle.rules.specs.Step.{gather}
use Rattle.signing.specs.Slots.{slot_size, speaking}
use Rattle.outcome.specs.Marks.{mark_at}

-- a node's slot: a faulty one is silent, a correct one speaks with its mark
unfoldable pub slot_with : Bool → Mark → List ℕ
slot_with faulty mark = cond faulty (replicate slot_size 0) (speaking ∷ mark)

-- the slots of n nodes; mark j: the mark of node j's log, where it is correct
abbrev pub slots_with : (faulty : ℕ → Bool) (mark : ℕ → Mark) (n : ℕ) → List ℕ
slots_with faulty mark n = gather (λ (j : ℕ). slot_with (faulty j) (mark j)) n

-- with the marks of their logs
abbrev pub slots_at : (faulty : ℕ → Bool) (log : ℕ → List ℕ) (n : ℕ) → List ℕ
slots_at faulty log n = slots_with faulty (mark_at faulty log n) n
