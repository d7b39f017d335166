-- What demand 3 grants can be met: by a run of all correct nodes, for every n and f in size.
use Rattle.std.specs.Prelude.{ℕ, ◌*◌, ◌<◌, ◌≡◌, Bool, true, false, List, []}
use Rattle.rules.specs.Sizes.{sized, is_log}
use Rattle.entries.specs.Bytes.{AreEntries}
use Rattle.tray.specs.Trays.{entries_of, sound_tray}
use Rattle.tray.specs.declared.Tray.{Tray}
use Rattle.agreement.specs.Hall.{Hall}
use Rattle.agreement.specs.Granted.{Granted}
use Rattle.agreement.specs.Carried.{carried_hall}

-- no node is faulty
abbrev pub none_faulty : ℕ → Bool
none_faulty j = false

-- every message arrives whole
abbrev pub all_correct : (n f : ℕ) (tray : ℕ → Tray) (old : List ℕ) → Hall
all_correct n f tray old = carried_hall n f none_faulty tray (λ r j i. []) old

abbrev pub AllCorrectGranted : Type 0
AllCorrectGranted =
    (n f : ℕ) → sized n ≡ true → 2 * f < n → (tray : ℕ → Tray) → ((i : ℕ) → i < n → sound_tray (tray i) ≡ true)
    → ((i : ℕ) → i < n → AreEntries (entries_of (tray i))) → (old : List ℕ) → is_log old ≡ true → Granted (all_correct n f tray old)
