-- Document 01's schedule, signed: it keeps every premise, those of signing too, where the faulty node's slot speaks, with another mark to node 1 than to node 2,
-- and where the faulty node counts as well.
use Rattle.std.specs.Prelude.{ℕ, ◌≡◌, cond, List, [], ◌∷◌, eqb}
use Rattle.std.proofs.Math.Option.{some}
use Rattle.rules.specs.Refusals.{done}
use Rattle.rules.specs.Signers.{Mark, signers_of}
use Rattle.signing.specs.Slots.{slot_of}
use Rattle.signing.specs.Count.{signers_number}
use Rattle.agreement.specs.Hall.{Hall}
use Rattle.agreement.specs.Granted.{Granted, Counting, Signing}
use Rattle.runs.specs.Schedule.{hall_of}
use Rattle.runs.specs.Document.{schedule}
use Rattle.runs.specs.Slots.{mark_of, slots_of}

abbrev pub hall : Hall
hall = hall_of schedule

-- the mark of the log that nodes 1 and 2 make, and one of no log
abbrev pub made : Mark
made = mark_of 1

abbrev pub strange : Mark
strange = mark_of 2

abbrev pub mark : ℕ → Mark
mark j = made

-- what node i is handed: the slot of faulty node 0 speaks as it likes
abbrev pub slots : ℕ → List ℕ
slots i = slots_of (some (cond (eqb i 1) strange made) ∷ some made ∷ some made ∷ [])

-- node k counts the signers of m among these slots, and the premises of it hold
pub record Counted (k : ℕ) (m : Mark) (handed : List ℕ) (answer signers : ℕ) : Type 0 where
  pub counting : Counting hall mark k m handed
  pub number : signers_number 3 1 k m handed ≡ answer
  pub mask : signers_of 3 k m (slot_of handed) ≡ signers

pub record CountedRuns : Type 0 where
  pub granted : Granted hall
  pub signing : Signing hall mark slots
  -- node 1 finds itself and node 2; node 2 finds all three
  pub node1 : Counted 1 made (slots 1) done 0b110
  pub node2 : Counted 2 made (slots 2) done 0b111
  -- faulty node 0 finds nobody else for the mark of no log, by 10; for the mark of the log it finds all three
  pub alone0 : Counted 0 strange (slots 0) 10 0b001
  pub node0 : Counted 0 made (slots 0) done 0b111
