-- The premises of signing are needed: document 01's schedule, which keeps those of the run, with marks and slots of which one premise alone fails.
use Rattle.std.specs.Prelude.{ℕ, ◌≡◌, List, [], ◌∷◌, ◌++◌}
use Rattle.std.proofs.Math.Option.{none, some}
use Rattle.rules.specs.Refusals.{done}
use Rattle.rules.specs.Signers.{Mark}
use Rattle.signing.specs.Count.{signers_number}
use Rattle.agreement.specs.Granted.{Correct, Granted, Marked, SlotsCut, Alike, Reaches, Signs, Counts, Counting, Signing}
use Rattle.agreement.specs.Claim.{Signed}
use Rattle.runs.specs.Slots.{mark_of, slots_of}
use Rattle.runs.specs.Counted.{hall, made, strange, mark}

-- ---- each with a log finds f + 1 signers

-- it is not so: node 1 counts its own mark as it should, and is answered by this number
pub record NotFound (mark : ℕ → Mark) (slots : ℕ → List ℕ) (answer : ℕ) : Type 0 where
  pub counting : Counting hall mark 1 (mark 1) (slots 1)
  pub number : signers_number 3 1 1 (mark 1) (slots 1) ≡ answer
  pub fails : Signed hall mark slots → ⊥

-- slots with one byte too many
abbrev pub long : ℕ → List ℕ
long i = slots_of (none ∷ some made ∷ some made ∷ []) ++ (0 ∷ [])

-- a mark of its own for each node, though the logs are equal
abbrev pub apart : ℕ → List ℕ
apart i = slots_of (none ∷ some (mark_of 1) ∷ some (mark_of 2) ∷ [])

-- slots that do not reach anybody
abbrev pub silent : ℕ → List ℕ
silent i = slots_of (none ∷ none ∷ none ∷ [])

-- ---- no other mark can

-- it is not so: node k finds f + 1 signers of a mark that no correct node made
pub record Strange (k : ℕ) (m : Mark) (slots : List ℕ) : Type 0 where
  pub number : signers_number 3 1 k m slots ≡ done
  pub fails : (i : ℕ) → Correct hall i → Marked hall mark i m → ⊥

-- what everyone should be handed; and correct node 1's slot, or faulty node 0's, speaks the mark of no log
abbrev pub signed : ℕ → List ℕ
signed i = slots_of (none ∷ some made ∷ some made ∷ [])

abbrev pub signed_twice : List ℕ
signed_twice = slots_of (none ∷ some strange ∷ some made ∷ [])

abbrev pub lied : List ℕ
lied = slots_of (some strange ∷ some made ∷ some made ∷ [])

pub record UnsignedRuns : Type 0 where
  pub granted : Granted hall
  -- `Signing.cut`
  pub long_alike : Alike hall mark
  pub long_reaches : Reaches hall mark long
  pub long_fails : NotFound mark long 4
  -- `Signing.alike`
  pub apart_cut : SlotsCut hall apart
  pub apart_reaches : Reaches hall mark_of apart
  pub apart_fails : NotFound mark_of apart 10
  -- `Signing.reaches`
  pub silent_cut : SlotsCut hall silent
  pub silent_alike : Alike hall mark
  pub silent_fails : NotFound mark silent 10
  -- `Counting.signs`: faulty node 0 counts what node 1 signs besides its log's mark
  pub signing : Signing hall mark signed
  pub twice_counts : Counts hall mark 0 strange
  pub twice_fails : Strange 0 strange signed_twice
  -- `Counting.counts`: correct node 1 counts a mark that is not its log's, and which faulty node 0 signs
  pub lied_signs : Signs hall mark 1 lied
  pub lied_fails : Strange 1 strange lied
