-- "The signing count takes n, f, the own number, the own 32-byte log mark and n slots of 33 bytes. [..] The answer is the mask of signers, with f + 1
-- or more of them."
-- 1: n, f or the own number breaks the sizes; 4: the slots are not 33 × n bytes; 10: fewer than f + 1 signers.
use Rattle.std.specs.Prelude.{ℕ, List, Result}
use Rattle.rules.specs.Sizes.{sizes}
use Rattle.rules.specs.Refusals.{refuse◌unless◌then◌, done}
use Rattle.rules.specs.declared.refusal.Refusal.{Refusal}
use Rattle.rules.specs.Answers.{Answers}
use Rattle.rules.specs.Signers.{Mark, signers_of, enough}
use Rattle.signing.specs.Slots.{are_slots, slot_of}

-- the number of the first row that refuses
unfoldable pub signers_number : (n f me : ℕ) (mark : Mark) (slots : List ℕ) → ℕ
signers_number n f me mark slots =
    refuse 1 unless sizes n f me then
    refuse 4 unless are_slots n slots then
    refuse 10 unless enough f (signers_of n me mark (slot_of slots)) then
    done

-- what `signers` promises
abbrev pub SignersAre : (n f me : ℕ) (mark : Mark) (slots : List ℕ) → Result ℕ Refusal → Type 0
SignersAre n f me mark slots answer = Answers (signers_number n f me mark slots) (signers_of n me mark (slot_of slots)) answer
