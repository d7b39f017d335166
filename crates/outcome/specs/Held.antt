-- What the code holds: logs in places, numbers of logs, masks of signers.
use Rattle.std.specs.Prelude.{ℕ, ◌<◌, ◌≡◌, Bool, false, Option, Some, None, List, [], length, get_or, replicate}
use Rattle.laws.specs.Parts.{onto}
use Rattle.laws.specs.Members.{same}
use Rattle.rules.specs.Sizes.{nodes_most}
use Rattle.rules.specs.Signers.{Mark}
use Rattle.entries.specs.Places.{held_in}
use Rattle.entries.specs.declared.places.Places.{Places}
use Rattle.closing.specs.Gather.{decided_most}
use Rattle.outcome.specs.Marks.{distinct, place_in}
use Rattle.outcome.specs.Signing.{counted_with}
use Rattle.outcome.specs.declared.marks.Numbers.{Numbers}

-- a log in its places, as many as the decisions may have entries; those not used are zero
abbrev pub held_as : {N : ℕ} → List ℕ → Places N
held_as log = record { count = length log; entries = onto log (replicate decided_most 0) }

-- the log held for node j
abbrev pub held_at : {N : ℕ} → List (Places N) → ℕ → Places N
held_at logs j = get_or logs j (record { count = 0; entries = [] })

abbrev pub log_at : {N : ℕ} → List (Places N) → ℕ → List ℕ
log_at logs j = held_in (held_at logs j)

-- for each node below n its log is held
abbrev pub AllHeld : {N : ℕ} → (log : ℕ → List ℕ) (n : ℕ) (logs : List (Places N)) → Type 0
AllHeld log n logs = (j : ℕ) → j < n → held_at logs j ≡ held_as (log j)

-- the logs of the correct nodes below n are numbered
pub record Numbered (faulty : ℕ → Bool) (log : ℕ → List ℕ) (n : ℕ) (x : Numbers) : Type 0 where
  pub places : length x.of ≡ nodes_most
  pub count : x.count ≡ length (distinct faulty log n)
  pub each : (j : ℕ) → j < n → faulty j ≡ false → get_or x.of j 0 ≡ place_in (log j) (distinct faulty log n)

-- a correct node below i that has node i's log; none where there is none
abbrev pub FirstAlike : (faulty : ℕ → Bool) (log : ℕ → List ℕ) (i : ℕ) → Option ℕ → Type 0
FirstAlike faulty log i (Some k) = (k < i) × (faulty k ≡ false) × (log i ≡ log k)
FirstAlike faulty log i None = (j : ℕ) → j < i → faulty j ≡ false → same (log i) (log j) ≡ false

-- for each node below i the mask of the signers of its mark, as it counts them in these slots
abbrev pub AllCounted : (n f : ℕ) (mark : ℕ → Mark) (slots : List ℕ) (i : ℕ) (masks : List ℕ) → Type 0
AllCounted n f mark slots i masks = (j : ℕ) → j < i → get_or masks j 0 ≡ counted_with n f j (mark j) slots
