-- "The answer is the mask of signers, with f + 1 or more of them." A refusal's mask is 0, so a refused count would print no signers.
use Rattle.std.specs.Prelude.{ℕ, Bool, List, eqb}
use Rattle.laws.specs.Masks.{bit}
use Rattle.rules.specs.Refusals.{if_done}
use Rattle.rules.specs.Signers.{Mark, signers_of}
use Rattle.signing.specs.Slots.{slot_of}
use Rattle.signing.specs.Count.{signers_number}
use Rattle.outcome.specs.Marks.{mark_at}
use Rattle.outcome.specs.Spoken.{slots_at}

-- node j's bit is set
abbrev pub has_bit : (mask j : ℕ) → Bool
has_bit mask j = eqb (bit mask j) 1

-- the mask that the signing count of node i answers
abbrev pub counted_with : (n f i : ℕ) (mark : Mark) (slots : List ℕ) → ℕ
counted_with n f i mark slots = if_done (signers_number n f i mark slots) (signers_of n i mark (slot_of slots)) 0

-- the mask of the signers of node i's log, as that node counts them
abbrev pub mask_at : (n f : ℕ) (faulty : ℕ → Bool) (log : ℕ → List ℕ) (i : ℕ) → ℕ
mask_at n f faulty log i = counted_with n f i (mark_at faulty log n i) (slots_at faulty log n)
