-- "Then after round f + 1 all correct nodes make the same log, with every entry a correct node opened with, or all are told the log is full. [..] each with
-- a log finds f + 1 signers, and no other mark can."
use Rattle.std.specs.Prelude.{ℕ, ◌+◌, ◌≤◌, ◌≡◌, ◌⊎◌, true, List}
use Rattle.std.specs.Int.Count.{ones}
use Rattle.laws.specs.Members.{In}
use Rattle.rules.specs.Sizes.{is_log}
use Rattle.rules.specs.Refusals.{done}
use Rattle.rules.specs.Signers.{Mark, signers_of}
use Rattle.tray.specs.Trays.{entries_of}
use Rattle.signing.specs.Slots.{slot_of}
use Rattle.signing.specs.Count.{signers_number}
use Rattle.agreement.specs.Hall.{Hall, closes, log_of}
use Rattle.agreement.specs.Granted.{Correct, Granted, Marked, Counting, Signing}

-- "all correct nodes make the same log"
pub record OneLog (hall : Hall) (log : List ℕ) : Type 0 where
  pub makes : (i : ℕ) → Correct hall i → closes hall i ≡ done
  pub same : (i : ℕ) → Correct hall i → log_of hall i ≡ log
  pub well_formed : is_log log ≡ true
  pub old_in : (e : ℕ) → In e hall.old → In e log
  -- "with every entry a correct node opened with"
  pub opened_in : (c e : ℕ) → Correct hall c → In e (entries_of (hall.tray c)) → In e log

-- "or all are told the log is full": refusal 8
abbrev pub Agreed : Hall → Type 0
Agreed hall = ((log : List ℕ) × OneLog hall log) ⊎ ((i : ℕ) → Correct hall i → closes hall i ≡ 8)

-- the signing count is not refused, and has f + 1 signers or more
pub record Finds (n f me : ℕ) (m : Mark) (slots : List ℕ) : Type 0 where
  pub counts : signers_number n f me m slots ≡ done
  pub enough : f + 1 ≤ ones (signers_of n me m (slot_of slots))

pub record Signed (hall : Hall) (mark : ℕ → Mark) (slots : ℕ → List ℕ) : Type 0 where
  -- "each with a log finds f + 1 signers"
  pub finds : (i : ℕ) → Correct hall i → closes hall i ≡ done → Finds hall.n hall.f i (mark i) (slots i)
  -- "and no other mark can": whoever counts, a mark with that many is the mark of the log that every correct node made
  pub no_other : (k : ℕ) (m : Mark) (handed : List ℕ) → Counting hall mark k m handed → signers_number hall.n hall.f k m handed ≡ done
      → (i : ℕ) → Correct hall i → Marked hall mark i m

-- demand 3, of every run in bytes that keeps what it grants
abbrev pub Demand3 : Type 0
Demand3 = (hall : Hall) → Granted hall → Agreed hall × ((mark : ℕ → Mark) (slots : ℕ → List ℕ) → Signing hall mark slots → Signed hall mark slots)
